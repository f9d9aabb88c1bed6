use Rattle.std.proofs.Common.{◌≡◌, ◌+◌, ◌∷◌, [], ◌++◌, max, length, refl, sym, ◌∙◌, ap, rules}
use Rattle.disk_model.specs.Image.{DiskState, disk_state, after_write, overwritten, settled}
use Rattle.disk_model.specs.Calls.{after_call, after_calls}
use Rattle.disk_model.specs.MemDisk.{state_of}
use Rattle.disk_model.specs.declared.memory.Call.TheVariants.{Write}
use Rattle.disk_model.proofs.Images.{image_written}
use Rattle.disk_model.proofs.Moments.{replayed_push, passes, same_state, same_images}
use Rattle.disk_model.proofs.memory.MemDiskDisk.write_at.Goals as goal

pub invariant_of-self-in-Ok-clause-replayed : goal.invariant_of-self-in-Ok-clause-replayed
invariant_of-self-in-Ok-clause-replayed c =
    let self = c.args.self.now in
    let disk = state_of self in
    let copy = c.in-Ok.ensures.recorded in
    let next : DiskState = record disk { contents = c.write.new.file.items; written = c.write.new.written.items; greatest = c.max-self.result } in
    let same : after_call (Write c.args.at copy.0) disk ≡ next =
    same_state _ _ (ap (λ bs. overwritten disk.contents c.args.at bs) copy.1 ∙ sym c.in-Ok.ensures.ok) refl
    (ap (λ bs. disk.written ++ (c.args.at, length bs) ∷ []) copy.1 ∙ sym c.in-Ok.ensures.noted) refl
    (ap (λ bs. max disk.greatest (c.args.at + length bs)) copy.1 ∙ sym c.max-self.ensures) in
    replayed_push self.calls.items _ (Write c.args.at copy.0) (settled self.first.items) disk self.replayed copy.2 ∙ same

pub invariant_of-self-in-Ok-clause-stands : goal.invariant_of-self-in-Ok-clause-stands
invariant_of-self-in-Ok-clause-stands c =
    let disk = state_of c.args.self.now in
    rw c.in-Ok.ensures.ok (image_written disk _ disk.contents c.args.bytes.now c.args.at c.args.self.now.stands c.requires refl c.in-Ok.ensures.noted refl c.max-self.ensures)

pub returns-in-Ok-clause-time : goal.returns-in-Ok-clause-time
returns-in-Ok-clause-time c =
    let self = c.args.self.now in
    let next = disk_state c.write.new.file.items self.synced.items c.write.new.written.items self.least c.max-self.result in
    let replayed : after_calls c.write.new.calls.items (settled self.first.items) ≡ next = search rules in
    passes _ _ _ _ _ (after_write c.args.at (length c.args.bytes.now) (state_of self)) c.in-Ok.ensures.recorded.2 replayed
    (same_images _ _ refl c.in-Ok.ensures.noted refl c.max-self.ensures)
