use Rattle.std.proofs.Common.{◌≡◌, refl, sym, ◌∙◌, rules}
use Rattle.disk_model.specs.Image.{DiskState, disk_state, after_cut, settled}
use Rattle.disk_model.specs.Calls.{after_call, after_calls}
use Rattle.disk_model.specs.MemDisk.{state_of}
use Rattle.disk_model.specs.declared.memory.Call.TheVariants.{Cut}
use Rattle.disk_model.proofs.Moments.{replayed_push, passes, same_state, same_images}
use Rattle.disk_model.proofs.memory.MemDiskDisk.cut.Goals as goal

pub invariant_of-self-clause-replayed : goal.invariant_of-self-clause-replayed
invariant_of-self-clause-replayed c =
    let self = c.args.self.now in
    let disk = state_of self in
    let next : DiskState = record disk { contents = c.cut.new.file.items; least = c.min-self.result } in
    let same : after_call (Cut c.args.to) disk ≡ next = same_state _ _ (sym c.in-Ok.ensures.ok) refl refl (sym c.min-self.ensures) refl in
    replayed_push self.calls.items _ (Cut c.args.to) (settled self.first.items) disk self.replayed c.in-Ok.ensures.recorded ∙ same

pub returns-in-Ok-clause-time : goal.returns-in-Ok-clause-time
returns-in-Ok-clause-time c =
    let self = c.args.self.now in
    let next = disk_state c.cut.new.file.items self.synced.items self.written.items c.min-self.result self.greatest in
    let replayed : after_calls c.cut.new.calls.items (settled self.first.items) ≡ next = search rules in
    passes _ _ _ _ _ (after_cut c.args.to (state_of self)) c.in-Ok.ensures.recorded replayed (same_images _ _ refl refl c.min-self.ensures refl)
