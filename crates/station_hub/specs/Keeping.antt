-- What a call of a connection leaves of what is recorded. Ours.
use Rattle.disk_model.specs.declared.disk.Disk.{Ghosts as DiskModel}
use Rattle.serve_hub.specs.Parts.{HubParts}
use Rattle.serve_hub.specs.Showing.{Shows}
use Rattle.serve_machine.specs.Hub.{HubState}
use Rattle.serve_machine.specs.Own.{KeepsFile}

-- Whichever machine the hub is seen as before the call, after it it is seen as one whose file is the same, with what
-- waits: its sessions alone may be others.
abbrev pub KeepsRecorded : {D : Type 0} → DiskModel D → HubParts D → HubParts D → Type 0
KeepsRecorded model old new =
    (before : HubState) → Shows model old before → (after : HubState) × Shows model new after × KeepsFile before after
