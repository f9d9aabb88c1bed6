-- What a reopening leaves of its disk.
use Rattle.std.proofs.Common.{◌≡◌, ℕ, ◌≤◌, Bool, false, Some, Result, Ok, Err, List, sym, ap, subst}
use Rattle.std.specs.Prelude.{◌↔◌, ⊤}
use Rattle.disk_model.specs.declared.disk.Disk.{Ghosts as DiskModel}
use Rattle.disk_model.specs.Image.{DiskState}
use Rattle.disk_model.specs.Frame.{Frame}
use Rattle.disk_model.specs.Leaving.{LeavesOnly}
use Rattle.gate_file.specs.declared.fault.OpenFault.{OpenFault}
use Rattle.gate_file.specs.declared.fault.OpenFault.TheVariants.{Disk}
use Rattle.link_chain.specs.Recording.{Recording}
use Rattle.chain_rules.specs.Recording.{add}
use Rattle.history.specs.Showing.{IsAsBefore}
use Rattle.history.specs.World.{World, Opened, happens}
use Rattle.history.specs.History.{StandsIn}
use Rattle.ogg_command.specs.declared.command.Command.{Command}
use Rattle.file_recorder.specs.Recorder.{RecorderState, IsIn, IsRecorderStep}
use Rattle.file_recorder.specs.Recovery.{Commits, Shows}
use Rattle.serve_hub.specs.Images.{Reopens}

pub fault_is : (fault : OpenFault) → ◌≡◌ {A = Result ⊤ OpenFault} (Err fault) (Err Disk) → fault ≡ Disk
fault_is fault e = cc

no_fault : ◌≡◌ {A = Result ⊤ OpenFault} (Ok tt) (Err Disk) → ⊥
no_fault e = cc

module _ {D : Type 0} (model : DiskModel D) where
  -- the recorder that was opened, once its group is set
  pub reopened : (disk : D) (r new : RecorderState D) (most : ℕ) → new ≡ record r { most = most }
      → (model.is_honest disk → LeavesOnly model disk r.file.disk (IsAsBefore Commits (model.state disk)))
      → ((first : Recording) (w : World Command) → StandsIn Shows add first w (model.state disk) → w.is_open ≡ false → model.is_honest disk → (found : Bool)
      × IsRecorderStep model first w (Opened found) disk r.file.disk × IsIn model first (happens w (Opened found)) r)
      → ((first : Recording) (w : World Command) → IsIn model first w r → IsIn model first w new)
      → Frame model disk r.file.disk ⊥
      → Reopens model (Ok tt) (Some new) disk new.file.disk
  reopened disk r new most set any_moment step stands frame =
      let disk_is : r.file.disk ≡ new.file.disk = sym (ap (λ (x : RecorderState D). x.file.disk) set) in
      record {
        any_moment = λ h. subst (λ (d : D). LeavesOnly model disk d (IsAsBefore Commits (model.state disk))) disk_is (any_moment h);
        step = λ first w there closed h.
            let (found, is, in_) = step first w there closed h in
            (found, subst (λ (d : D). IsRecorderStep model first w (Opened found) disk d) disk_is is, stands first (happens w (Opened found)) in_);
        refused = λ first w there h. tt;
        frame = record {
          honest = subst (λ (d : D). model.is_honest disk ↔ model.is_honest d) disk_is frame.honest;
          later = subst (λ (d : D). model.failures disk ≤ model.failures d) disk_is frame.later;
          cause = λ is. absurd (no_fault is);
        };
      }
