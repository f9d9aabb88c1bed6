use Rattle.std.proofs.Common.{◌≡◌, length, refl, sym, ◌∙◌, arith, rules}
use Rattle.disk_model.specs.Image.{disk_state, settled}
use Rattle.disk_model.specs.Calls.{after_call, after_calls}
use Rattle.disk_model.specs.MemDisk.{state_of}
use Rattle.disk_model.specs.declared.memory.Call.TheVariants.{Sync}
use Rattle.disk_model.proofs.Moments.{replayed_push, passes, same_state, settled_within}
use Rattle.disk_model.proofs.memory.MemDiskDisk.sync.Goals as goal

pub invariant_of-self-clause-replayed : goal.invariant_of-self-clause-replayed
invariant_of-self-clause-replayed c =
    let self = c.args.self.now in
    let disk = state_of self in
    let next = disk_state disk.contents c.sync.new.synced.items c.clear.new.self.items c.len.result c.len.result in
    let long : length disk.contents ≡ c.len.result = omega (arith, self.bytes.ok.0, c.len.ensures) in
    let same : after_call Sync disk ≡ next = same_state _ _ refl (sym (c.in-Ok.ensures.ok ∙ c.deref.ensures.value)) (sym c.clear.ensures.items) long long in
    replayed_push self.calls.items _ Sync (settled self.first.items) disk self.replayed c.in-Ok.ensures.recorded ∙ same

pub returns-in-Ok-clause-time : goal.returns-in-Ok-clause-time
returns-in-Ok-clause-time c =
    let self = c.args.self.now in
    let disk = state_of self in
    let next = disk_state disk.contents c.sync.new.synced.items c.clear.new.self.items c.len.result c.len.result in
    let long : length disk.contents ≡ c.len.result = omega (arith, self.bytes.ok.0, c.len.ensures) in
    let replayed : after_calls c.sync.new.calls.items (settled self.first.items) ≡ next = search rules in
    let same : settled disk.contents ≡ next =
    same_state _ _ refl (sym (c.in-Ok.ensures.ok ∙ c.deref.ensures.value)) (sym c.clear.ensures.items) long long in
    passes _ _ _ _ _ disk c.in-Ok.ensures.recorded replayed (settled_within disk next self.stands same)
