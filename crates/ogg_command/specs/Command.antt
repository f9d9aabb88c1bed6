-- Commands as data. Ours.
use Rattle.std.specs.Prelude.{◌≡◌, ◌<◌, ◌^◌, Option, Some, None, length, ⊤, FitsSigned}
use Rattle.std.specs.List.{AllByRecursion}
use Rattle.std.specs.Int.{w64}
use Rattle.ogg_page.specs.Numbers.{IsFraction}
use Rattle.ogg_page.specs.Page.{IsByte}
use Rattle.skeleton3.specs.Fields.{NamedValue}
use Rattle.ogg_command.specs.declared.command.Command.{Command}
use Rattle.ogg_command.specs.declared.command.Command.TheVariants.{Begin as BeginOf, Put as PutOf, End as EndOf}
use Rattle.ogg_command.specs.declared.command.SkeletonHead.{SkeletonHead}
use Rattle.ogg_command.specs.declared.command.NewStream.{NewStream}
use Rattle.ogg_command.specs.declared.command.Entry.{Entry}

pub record IsSkeletonHead (head : SkeletonHead) : Type 0 where
  pub serial : head.serial < 2 ^ 32
  pub presentation : IsFraction head.presentation
  pub base : IsFraction head.base
  pub utc : AllByRecursion IsByte head.utc
  pub utc_length : length head.utc ≡ 20

abbrev pub AreFieldBytes : NamedValue → Type 0
AreFieldBytes field = AllByRecursion IsByte field.0 × AllByRecursion IsByte field.1

pub record IsNewStream (stream : NewStream) : Type 0 where
  pub serial : stream.serial < 2 ^ 32
  pub headers : AllByRecursion (AllByRecursion IsByte) stream.headers
  pub media : AllByRecursion IsByte stream.media
  pub fields : AllByRecursion AreFieldBytes stream.fields
  pub rate : IsFraction stream.rate
  pub base_granule : FitsSigned w64 stream.base_granule
  pub preroll : stream.preroll < 2 ^ 32
  pub shift : IsByte stream.shift

pub record IsEntry (entry : Entry) : Type 0 where
  pub serial : entry.serial < 2 ^ 32
  pub position : entry.position < 2 ^ 64
  pub packet : AllByRecursion IsByte entry.packet

abbrev pub IsSkeleton : Option SkeletonHead → Type 0
IsSkeleton None = ⊤
IsSkeleton (Some head) = IsSkeletonHead head

-- each number of the command is in its field's range, as it is in every command of a program
abbrev pub IsCommand : Command → Type 0
IsCommand (BeginOf begin) = IsSkeleton begin.skeleton × AllByRecursion IsNewStream begin.streams
IsCommand (PutOf put) = AllByRecursion IsEntry put.entries
IsCommand (EndOf serial) = serial < 2 ^ 32
