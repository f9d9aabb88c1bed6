-- How a recording goes on after its file was opened again: what a fault of the disk has taken from the file was never
-- acknowledged, and the input goes on. Ours.
use Rattle.std.specs.Prelude.{◌≡◌, ℕ, Bool, true, false, not, ◌&&◌, nat_eq, None, List, [], ◌∷◌, ◌++◌, map}
use Rattle.std.specs.List.{filter, list_all, list_any}
use Rattle.link_chain.specs.declared.stream_state.StreamState.{StreamState}
use Rattle.ogg_command.specs.declared.command.Command.{Command}
use Rattle.ogg_command.specs.declared.command.Command.TheVariants.{Begin as BeginOf, End as EndOf}
use Rattle.ogg_command.specs.declared.command.NewStream.{NewStream}
use Rattle.import_changes.specs.Changed.{HasChangedBeside}
use Rattle.import_record.specs.Begun.{bare, comes_again, open_after, stream_of}
use Rattle.import_record.specs.declared.begun.BegunStream.{BegunStream}
use Rattle.import_record.specs.Steps.{IntakeState}

-- ---- what the file holds
abbrev pub is_open_as : ℕ → StreamState → Bool
is_open_as serial stream = nat_eq stream.serial serial && not stream.ended

-- A stream of the file's last link, which has these streams, has this serial, and is open.
abbrev pub has_open : List StreamState → ℕ → Bool
has_open streams serial = list_any (is_open_as serial) streams

-- The file has each stream open that the input has begun and hasn't ended. A serial that a stream gets is of no other
-- stream of the file, so the last link is the input's then.
abbrev pub holds_open : List StreamState → List ℕ → Bool
holds_open streams ours = list_all (has_open streams) ours

-- ---- what is ended
-- the stream is open, and it is none of these
abbrev pub is_left : List ℕ → StreamState → Bool
is_left ours stream = not stream.ended && not (list_any (nat_eq stream.serial) ours)

abbrev pub end_of : StreamState → Command
end_of stream = EndOf stream.serial

-- The open streams that are none of these are ended: the end of each was lost, or its link is over.
abbrev pub ends_of : List ℕ → List StreamState → List Command
ends_of ours streams = map end_of (filter (is_left ours) streams)

-- ---- what is begun again
-- a link of these streams; they begin anew, so any position may follow
abbrev pub begin_of : List NewStream → Command
begin_of streams = BeginOf (record { skeleton = None; streams = map bare streams })

-- it comes again, and it has ended
abbrev pub is_over : BegunStream → Bool
is_over begun = begun.ended && not begun.has_packets

abbrev pub end_again : BegunStream → Command
end_again begun = EndOf begun.stream.serial

-- The link again: the streams that the input hasn't ended, and those that it has ended with no packet but their headers,
-- as a Skeleton, in the order in which they began. These others end at once, as they did.
abbrev pub link_again : List BegunStream → List Command
link_again streams = begin_of (map stream_of (filter comes_again streams)) ∷ map end_again (filter is_over streams)

-- The link begins again, as any link is begun in a file that has these serials: under serials that none of them is.
pub record BeginsAgain (taken : List ℕ) (old new : IntakeState) (given : List Command) : Type 0 where
  pub mending : new.mending ≡ old.mending
  pub same : new.options ≡ old.options
  pub options : new.changes.options ≡ old.options
  pub changed : HasChangedBeside taken new.changes (link_again old.begun.streams) given
  pub begun : new.begun ≡ record { streams = old.begun.streams; serials = open_after [] given }

-- ---- the commands that are run before the next page
abbrev pub ResumesIf : Bool → List StreamState → List ℕ → IntakeState → IntakeState → List Command → Type 0
ResumesIf true streams taken old new commands = (new ≡ old) × (commands ≡ ends_of old.begun.serials streams)
ResumesIf false streams taken old new commands = (given : List Command) × BeginsAgain taken old new given × (commands ≡ ends_of [] streams ++ given)

-- The file's last link has these streams, and the file has these serials.
abbrev pub Resumes : List StreamState → List ℕ → IntakeState → IntakeState → List Command → Type 0
Resumes streams taken old new commands = ResumesIf (holds_open streams old.begun.serials) streams taken old new commands

-- The file has each stream open that the input has begun and hasn't ended, and no other: nothing is to be run.
abbrev pub IsAsBefore : List StreamState → List ℕ → Type 0
IsAsBefore streams ours = (holds_open streams ours ≡ true) × (ends_of ours streams ≡ [])
