use Rattle.std.proofs.Common.{◌≡◌, ℕ, List, [], ◌++◌, ◌+◌, ◌≤◌, None, length, take, drop, ◌∙◌, arith}
use Rattle.std.proofs.lemmas.List.{take_at}
use Rattle.ogg_page.specs.PageInWork.{IsInRoom, lacing_in}
use Rattle.ogg_page.proofs.InRoom.{starts, cut, length-cut, length-front}
use Rattle.ogg_page.proofs.buffer.PageBuffer.start.Goals as goal

-- what the room holds then
abbrev after : goal.After-self-4-1 → List ℕ
after c = take c.self.inside.room.len (c.put_at.new.room ++ drop (length c.put_at.new.room) c.self.inside.room.items)

begun : (c : goal.After-self-4-1) →
    IsInRoom None (length c.args.lacing.now) 0 (after c) × (lacing_in (length c.args.lacing.now) (after c) ≡ c.args.lacing.now)
begun c =
    let room : List ℕ = c.self.inside.room.items in
    let bytes : List ℕ = c.args.lacing.now in
    let k : ℕ = length bytes in
    let long : 27 + k ≤ length room = omega (arith, c.self.invariant.whole, c.requires) in
    starts room bytes (after c) c.self.invariant.whole c.requires (λ i. omega (arith, c.type_inv.lacing i))
    (take_at c.put_at.new.room (drop (length c.put_at.new.room) room) c.self.inside.room.len (c.put_at.auto.room ∙ c.deref_mut.ensures.len)
    ∙ c.put_at.ensures (take 27 room) (take k (drop 27 room)) (drop (27 + k) room) (length-front 27 room (omega (arith, long))) (length-cut 27 k room long)
    (c.deref_mut.ensures.value ∙ cut 27 k room))

pub invariant_of-self : goal.invariant_of-self
invariant_of-self c = (begun c).0

pub returns : goal.returns
returns c = λ i. record { lacing = (begun c).1 i; body = []; finished = None }
