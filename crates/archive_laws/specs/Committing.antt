-- The committed bytes of an image, as links: these pages, and no others that hold the same. Ours.
use Rattle.std.specs.Prelude.{◌≡◌, ℕ, true, not, List, [], ◌++◌, IsOk}
use Rattle.std.specs.List.{fold}
use Rattle.disk_model.specs.declared.disk.Disk.{Ghosts as DiskModel}
use Rattle.link_chain.specs.ChainState.{chain_state_of}
use Rattle.link_chain.specs.Links.{AreLinks}
use Rattle.link_chain.specs.Recording.{Recording, HoldsLinks}
use Rattle.chain_rules.specs.Decision.{decision}
use Rattle.chain_rules.specs.Encoding.{links_after}
use Rattle.ogg_command.specs.Command.{IsCommand}
use Rattle.ogg_command.specs.declared.command.Command.{Command}
use Rattle.history.specs.World.{World, Step, now_in}
use Rattle.history.specs.History.{IsStep}
use Rattle.history.specs.Recovery.{Recovers}
use Rattle.file_recorder.specs.Recovery.{Links, Commits}
use Rattle.file_recorder.specs.Recorder.{RecorderState, committed, staged}

-- the bytes are these links (RFC 3533, section 4), and no packet in them is unfinished
pub record AreWhole (bytes : List ℕ) (links : Links) : Type 0 where
  pub recording : Recording
  pub are_links : AreLinks bytes links
  pub holds : HoldsLinks links recording

-- the image's committed bytes are these links
abbrev pub ShowsLinks : List ℕ → Links → Type 0
ShowsLinks = Recovers Commits AreWhole

-- after these links no rule refuses the command
abbrev pub AcceptsAfter : Links → Command → Type 0
AcceptsAfter links command = IsCommand command × IsOk (decision (chain_state_of links) command)

-- In a history that began when every image's committed bytes were the links `first`, an open recorder stands in this
-- world: its committed bytes are the pages of the acknowledged commands, and the staged ones are those of the commands
-- that wait. Nothing is in doubt.
pub record IsInLinks {D : Type 0} (model : DiskModel D) (first : Links) (w : World Command) (recorder : RecorderState D) : Type 0 where
  pub failed : recorder.file.failed ≡ not w.is_open
  pub none : w.is_open ≡ true → w.in_doubt ≡ []
  pub kept : w.is_open ≡ true → model.is_honest recorder.file.disk → AreWhole (committed model.state recorder) (now_in links_after first w)
  pub all : w.is_open ≡ true → model.is_honest recorder.file.disk
      → AreWhole (committed model.state recorder ++ staged model.state recorder) (fold links_after (now_in links_after first w) w.held)

-- a step of such a history
abbrev pub IsStepOfLinks : {D : Type 0} → DiskModel D → Links → World Command → Step Command → D → D → Type 0
IsStepOfLinks model first w step old new = IsStep model ShowsLinks AcceptsAfter links_after first w step old new
