-- What can be cut of an image of an archive. Ours.
use Rattle.std.specs.Prelude.{◌≡◌, ℕ, None, List, [], length, map}
use Rattle.std.specs.List.{AllByRecursion, AllZip, flat_map}
use Rattle.gate_file.specs.Commit.{CommitsTo}
use Rattle.ogg_command.specs.Command.{IsCommand}
use Rattle.ogg_command.specs.declared.command.Command.{Command}
use Rattle.chain_rules.specs.Commands.{AreKept, bytes_of_commands}
use Rattle.history.specs.Commands.{IsPartOf}
use Rattle.archive_times.specs.declared.line.Line.{Line}
use Rattle.archive_times.specs.Times.{AreTimes}
use Rattle.archive_cut.specs.declared.placing.Recorded.{Recorded}
use Rattle.archive_cut.specs.Times.{AddUp, AreBoundaries, NeverFall, stood}
use Rattle.archive_history.specs.Archive.{Archive, acknowledged, MayHoldAll}
use Rattle.archive_history.specs.Showing.{AreAmong}

-- An image of a file has the bytes that these commands add, each of which was accepted after those before it.
pub record HasBytesOf (image : List ℕ) (commands : List Command) : Type 0 where
  pub are_commands : AllByRecursion IsCommand commands
  pub kept : AreKept [] commands
  pub commits : CommitsTo (bytes_of_commands [] commands) image

-- Whatever a reader finds committed in this image is what the commands add. By lines of times that stand between
-- commands, times that never fall divide the commands: what is cut of these bytes from each time to the next is the cut
-- of the commands between the two, and the cuts add up, so that each packet comes exactly once.
pub record IsCutByTimes (image : List ℕ) (commands : List Command) : Type 0 where
  pub has : HasBytesOf image commands
  pub reads : (bytes : List ℕ) → CommitsTo bytes image → bytes ≡ bytes_of_commands [] commands
  pub cuts : (file : Recorded) (lines : List Line) (start : ℕ) (times : List ℕ) → AreTimes file.committed None lines
      → AreBoundaries commands lines → file.committed ≡ length (bytes_of_commands [] commands) → NeverFall start times
      → AddUp commands (stood file lines start) (map (stood file lines) times)

-- Without files that were thrown away or aren't ours, each file of the image has the bytes of its own commands, and is
-- cut by times. Every command that was acknowledged and not thrown away is a command of exactly one of them, in its order.
-- Besides there may be the group in doubt of a file that was set aside, and of the newest; and nothing else.
pub record ShowsCuts (a : Archive Command) (image : List (ℕ × List ℕ)) : Type 0 where
  pub files : List (ℕ × List ℕ)
  pub among : AreAmong files image
  pub commands : List (List Command)
  pub each : AllZip (λ (file : ℕ × List ℕ) (own : List Command). IsCutByTimes file.1 own) files commands
  pub held : MayHoldAll a.ended a.newest (flat_map (λ (own : List Command). own) commands)
  pub has_all : IsPartOf (acknowledged a) (flat_map (λ (own : List Command). own) commands)
