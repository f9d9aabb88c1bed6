-- Where a hub stands in the history of its file, and how calls lead that history on. Ours.
use Rattle.std.specs.Prelude.{◌≡◌, ℕ, false, Option, Some, None, List}
use Rattle.disk_model.specs.declared.disk.Disk.{Ghosts as DiskModel}
use Rattle.disk_model.specs.Image.{DiskState}
use Rattle.link_chain.specs.Recording.{Recording}
use Rattle.chain_rules.specs.Recording.{add}
use Rattle.ogg_command.specs.declared.command.Command.{Command}
use Rattle.history.specs.World.{World, Step, run, disk_after}
use Rattle.history.specs.History.{AreSteps, StandsIn}
use Rattle.file_recorder.specs.Recorder.{RecorderState, IsIn}
use Rattle.file_recorder.specs.Recovery.{Shows, Accepts}
use Rattle.serve_hub.specs.declared.opening.Lost.{Lost}
use Rattle.serve_hub.specs.Images.{disk_in}
use Rattle.serve_hub.specs.Parts.{HubParts}

module _ {D : Type 0} (model : DiskModel D) where
  -- if there is a file, its recorder stands there; else nothing is open
  abbrev pub RecorderStands : Recording → World Command → Option (RecorderState D) → Type 0
  RecorderStands first w (Some recorder) = IsIn model first w recorder
  RecorderStands first w None = w.is_open ≡ false

  -- In a history that began when every image showed `first`, the disk of a hub stands in this world, and so does the
  -- recorder of its file. The disk is honest.
  pub record StandsOn (first : Recording) (w : World Command) (file : Option (RecorderState D)) (lost : Option (Lost D)) (disk : D) : Type 0 where
    pub is : disk_in file lost ≡ Some disk
    pub honest : model.is_honest disk
    pub shown : StandsIn Shows add first w (model.state disk)
    pub recorder : RecorderStands first w file

module _ {D : Type 0} (model : DiskModel D) where
  -- From that world and that disk the history goes on by these steps, to where the hub stands then.
  pub record GoesOnTo (first : Recording) (w : World Command) (disk : D) (file : Option (RecorderState D)) (lost : Option (Lost D)) : Type 0 where
    pub steps : List (Step Command × D)
    pub are : AreSteps model Shows Accepts add first w disk steps
    pub stands : StandsOn model first (run w steps) file lost (disk_after disk steps)

  -- In each history in which the hub stood, what was done is what comes next.
  abbrev pub ContinuesHistory : HubParts D → HubParts D → Type 0
  ContinuesHistory old new = (first : Recording) (w : World Command) (disk : D)
      → StandsOn model first w old.file old.lost disk → GoesOnTo first w disk new.file new.lost
