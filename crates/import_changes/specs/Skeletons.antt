-- Skeletons of the input, which are left out, and those that are made (Ogg Skeleton 3.0). Ours, but for the name that
-- a Skeleton's first packet begins with.
use Rattle.std.specs.Prelude.{◌≡◌, ◌⊎◌, ⊤, ℕ, nat_le, Bool, true, false, not, ◌||◌, if◌then◌else◌, Option, Some, None}
use Rattle.std.specs.Prelude.{List, [], length, map}
use Rattle.std.specs.List.{AllByRecursion, AllZip, filter, filter_map, flat_map, list_all}
use Rattle.ogg_command.specs.declared.command.Command.{Command}
use Rattle.ogg_command.specs.declared.command.Command.TheVariants.{Begin as BeginOf, Put as PutOf, End as EndOf}
use Rattle.ogg_command.specs.declared.command.Begin.{Begin}
use Rattle.ogg_command.specs.declared.command.NewStream.{NewStream}
use Rattle.link_chain.specs.Limits.{most_streams}
use Rattle.skeleton3.specs.Fishead.{fishead_name}
use Rattle.import_commands.specs.Headers.{begins}
use Rattle.import_changes.specs.declared.options.ChangeOptions.{ChangeOptions}
use Rattle.import_changes.specs.declared.options.Skeletons.{Skeletons}
use Rattle.import_changes.specs.declared.options.Skeletons.TheVariants.{Kept, LeftOut, Made}
use Rattle.import_changes.specs.Said.{IsSaidBy, first_of}

-- ---- which streams are Skeletons
abbrev pub is_fishead : List ℕ → Bool
is_fishead packet = begins fishead_name packet

abbrev pub is_skeleton : NewStream → Bool
is_skeleton stream = is_fishead (first_of stream.headers)

abbrev pub is_other : NewStream → Bool
is_other stream = not (is_skeleton stream)

-- ---- which streams of a link stay
abbrev pub leaves_out : Skeletons → Bool
leaves_out Kept = false
leaves_out LeftOut = true
leaves_out (Made from) = true

-- a link that holds only Skeletons keeps them
abbrev pub staying : Skeletons → List NewStream → List NewStream
staying skeletons streams = if not (leaves_out skeletons) || list_all is_skeleton streams then streams else filter is_other streams

abbrev pub left_out : Skeletons → List NewStream → List NewStream
left_out skeletons streams = if not (leaves_out skeletons) || list_all is_skeleton streams then [] else filter is_skeleton streams

abbrev pub headers_in : List NewStream → List (List ℕ)
headers_in streams = flat_map (λ (stream : NewStream). stream.headers) streams

-- the headers of the Skeletons that are left out
abbrev pub said_in : Skeletons → List NewStream → List (List ℕ)
said_in skeletons streams = headers_in (left_out skeletons streams)

-- ---- the Skeleton that is made
-- the serial from which the search for a free one begins, if a Skeleton is made for these streams
abbrev pub made_for : Skeletons → List NewStream → Option ℕ
made_for Kept streams = None
made_for LeftOut streams = None
made_for (Made from) streams = if list_all is_skeleton streams || nat_le most_streams (length streams) then None else Some from

-- ---- the commands given
-- there are a Skeleton and packets of Skeletons, as of those that are left out, and it says what they say
pub record HasSkeleton (begin : Begin) : Type 0 where
  pub said : List (List ℕ)
  pub streams : List NewStream
  pub is : IsSaidBy said streams begin

abbrev pub HasHead : Option ℕ → Begin → Type 0
HasHead None begin = begin.skeleton ≡ None
HasHead (Some from) begin = HasSkeleton begin

-- a Skeleton begins as a stream only in a link that has no other stream
abbrev pub AreOthers : Skeletons → List NewStream → Type 0
AreOthers skeletons streams =
    leaves_out skeletons ≡ true → (list_all is_skeleton streams ≡ true) ⊎ AllByRecursion (λ stream. is_skeleton stream ≡ false) streams

-- a command begins a link with a Skeleton and other streams as the options ask
abbrev pub IsBegunAs : ChangeOptions → Command → Type 0
IsBegunAs options (BeginOf begin) =
    AreOthers options.skeletons begin.streams × HasHead (made_for options.skeletons begin.streams) begin
IsBegunAs options (PutOf put) = ⊤
IsBegunAs options (EndOf serial) = ⊤

-- ---- the commands that were changed, and what they became
abbrev pub begin_of : Command → Option Begin
begin_of (BeginOf begin) = Some begin
begin_of (PutOf put) = None
begin_of (EndOf serial) = None

abbrev pub begins_of : List Command → List Begin
begins_of commands = filter_map begin_of commands

abbrev pub headers_of : List NewStream → List (List (List ℕ))
headers_of streams = map (λ (stream : NewStream). stream.headers) streams

-- the streams that stay begin with the Skeleton that is made, if one is made
abbrev pub SaysSo : Option ℕ → List (List ℕ) → List NewStream → Begin → Type 0
SaysSo None said streams now = ⊤
SaysSo (Some from) said streams now = IsSaidBy said streams now

-- Of a link's streams those begin that stay. A Skeleton that is made says what the Skeletons say that are left out.
pub record BeginsThose (options : ChangeOptions) (begin now : Begin) : Type 0 where
  pub headers : headers_of now.streams ≡ headers_of (staying options.skeletons begin.streams)
  pub says :
      SaysSo (made_for options.skeletons (staying options.skeletons begin.streams)) (said_in options.skeletons begin.streams)
      (staying options.skeletons begin.streams) now

abbrev pub BeginThose : ChangeOptions → List Command → List Command → Type 0
BeginThose options commands given = AllZip (BeginsThose options) (begins_of commands) (begins_of given)
