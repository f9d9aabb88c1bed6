-- Commands under serials that are free, as the runner below gets them. Ours.
use Rattle.std.specs.Prelude.{◌≡◌, ◌⊎◌, ℕ, nat_eq, if◌then◌else◌, false, Option, Some, None, List, [], ◌∷◌, ◌++◌, map}
use Rattle.std.specs.List.{list_any}
use Rattle.std.specs.Option.{unwrap_or}
use Rattle.std.specs.Map.{values_of}
use Rattle.std.specs.Io.KnownBytes.{Appends}
use Rattle.ogg_page.specs.Output.{WritesPart}
use Rattle.ogg_command.specs.declared.command.Command.{Command}
use Rattle.ogg_command.specs.declared.command.Command.TheVariants.{Begin as BeginOf, Put as PutOf, End as EndOf}
use Rattle.ogg_command.specs.declared.command.Begin.{Begin}
use Rattle.ogg_command.specs.declared.command.Entry.{Entry}
use Rattle.ogg_command.specs.declared.command.Put.{Put}
use Rattle.ogg_command.specs.declared.command.SkeletonHead.{SkeletonHead}
use Rattle.ogg_command.specs.declared.refusal.Refusal.TheVariants.{Memory}
use Rattle.feed_records.specs.declared.item.Record.{Record}
use Rattle.feed_records.specs.declared.item.Record.TheVariants.{Command as CommandOf, Flush}
use Rattle.feed_replies.specs.declared.reply.Reply.{Reply}
use Rattle.feed_replies.specs.declared.reply.Reply.TheVariants.{Refused}
use Rattle.feed_runner.specs.Refusing.{refuses}
use Rattle.import_changes.specs.Naming.{AreNamed, AreNames, IsFirstFree, name_of, serials_of, stream_named}

-- What the next command depends on: the state of the runner below; the serials that streams of its file have had; and of
-- the last link that was begun each serial that a stream had, with the one that it has now.
pub record Renumbering (S : Type 0) : Type 0 where
  pub below : S
  pub taken : List ℕ
  pub names : List (ℕ × ℕ)

-- the runner below is in its state, and these serials are taken, and these are the names
abbrev pub IsUnder : {S R : Type 0} → (S → R → Type 0) → Renumbering S → R → List ℕ → List (ℕ × ℕ) → Type 0
IsUnder is_in before below taken names = is_in before.below below × (before.taken ≡ taken) × (before.names ≡ names)

-- ---- what a command becomes
-- The serial that a stream of the link has now. One that no stream of the link had, though a stream has it now, becomes
-- one that none has: so it is refused, as it would be otherwise.
abbrev pub given_to : List (ℕ × ℕ) → ℕ → ℕ → ℕ
given_to names spare serial = unwrap_or (name_of names serial) (if list_any (nat_eq serial) (values_of names) then spare else serial)

abbrev pub entry_given : List (ℕ × ℕ) → ℕ → Entry → Entry
entry_given names spare entry = record entry { serial = given_to names spare entry.serial }

abbrev pub put_given : List (ℕ × ℕ) → ℕ → Put → Command
put_given names spare put = PutOf (record { entries = map (entry_given names spare) put.entries })

abbrev pub end_given : List (ℕ × ℕ) → ℕ → ℕ → Command
end_given names spare serial = EndOf (given_to names spare serial)

abbrev pub IsSpare : List (ℕ × ℕ) → ℕ → Type 0
IsSpare names spare = list_any (nat_eq spare) (values_of names) ≡ false

-- the Skeleton has the first free serial from its own on
abbrev pub IsHeadFree : List ℕ → List (ℕ × ℕ) → Option SkeletonHead → Option SkeletonHead → Type 0
IsHeadFree taken names None now = now ≡ None
IsHeadFree taken names (Some head) now =
    (serial : ℕ) × IsFirstFree head.serial taken (values_of names) serial × (now ≡ Some (record head { serial = serial }))

-- a link under names of which none is taken; a stream whose serial isn't taken keeps it
pub record BeginsUnder (taken : List ℕ) (names : List (ℕ × ℕ)) (begin now : Begin) : Type 0 where
  pub are : AreNames taken names
  pub named : AreNamed names (serials_of begin.streams)
  pub skeleton : IsHeadFree taken names begin.skeleton now.skeleton
  pub streams : now.streams ≡ map (stream_named names) begin.streams

abbrev pub head_serials : Option SkeletonHead → List ℕ
head_serials None = []
head_serials (Some head) = head.serial ∷ []

abbrev pub begun_serials : Begin → List ℕ
begun_serials begin = head_serials begin.skeleton ++ serials_of begin.streams

-- ---- what the runner below is given, and what its reply leaves
module _ {S : Type 0} (answers : S → Record → Reply → List ℕ → S → Type 0) where
  -- a link that isn't begun leaves the names of the one before
  pub record AnswersBegin (before : Renumbering S) (begin : Begin) (reply : Reply) (own : List ℕ) (after : Renumbering S) : Type 0 where
    pub names : List (ℕ × ℕ)
    pub now : Begin
    pub begins : BeginsUnder before.taken names begin now
    pub answered : answers before.below (CommandOf (BeginOf now)) reply own after.below
    pub taken : after.taken ≡ (if refuses reply then before.taken else before.taken ++ begun_serials now)
    pub named : after.names ≡ (if refuses reply then before.names else names)

  -- packets and ends go to the last link's streams
  pub record AnswersLater (before : Renumbering S) (given : ℕ → Command) (reply : Reply) (own : List ℕ) (after : Renumbering S) : Type 0 where
    pub spare : ℕ
    pub free : IsSpare before.names spare
    pub answered : answers before.below (CommandOf (given spare)) reply own after.below
    pub taken : after.taken ≡ before.taken
    pub named : after.names ≡ before.names

  abbrev pub AnswersCommand : Renumbering S → Command → Reply → List ℕ → Renumbering S → Type 0
  AnswersCommand before (BeginOf begin) reply own after = AnswersBegin before begin reply own after
  AnswersCommand before (PutOf put) reply own after = AnswersLater before (λ spare. put_given before.names spare put) reply own after
  AnswersCommand before (EndOf serial) reply own after = AnswersLater before (λ spare. end_given before.names spare serial) reply own after

  -- without memory for the command under its serials the runner below isn't called
  abbrev pub IsRefused : Renumbering S → Reply → List ℕ → Renumbering S → Type 0
  IsRefused before reply own after = (reply ≡ Refused Memory) × (own ≡ []) × (after ≡ before)

  abbrev pub AnswersUnder : Renumbering S → Record → Reply → List ℕ → Renumbering S → Type 0
  AnswersUnder before (CommandOf command) reply own after = AnswersCommand before command reply own after ⊎ IsRefused before reply own after
  AnswersUnder before Flush reply own after =
      answers before.below Flush reply own after.below × (after.taken ≡ before.taken) × (after.names ≡ before.names)

-- ---- a command that was run
-- it was answered, and its pages were written
abbrev pub Answered : {S R : Type 0} → (S → Record → Reply → List ℕ → S → Type 0) → (S → R → Type 0) → Renumbering S → Command → Reply → R → List ℕ → List (ℕ × ℕ)
    → Option (List ℕ) → Option (List ℕ) → Type 0
Answered {S} answers is_in before command reply below taken names old new =
    (own : List ℕ) × (after : Renumbering S) × AnswersUnder answers before (CommandOf command) reply own after × IsUnder is_in after below taken names × Appends old new own

-- only a part of its pages could be written, and all is as before
abbrev pub Failed : {S R : Type 0} → (S → Record → Reply → List ℕ → S → Type 0) → (S → R → Type 0) → Renumbering S → Command → R → List ℕ → List (ℕ × ℕ)
    → Option (List ℕ) → Option (List ℕ) → Type 0
Failed {S} answers is_in before command below taken names old new =
    (reply : Reply) × (own : List ℕ) × (after : Renumbering S) × AnswersUnder answers before (CommandOf command) reply own after × IsUnder is_in before below taken names
    × WritesPart old new own
