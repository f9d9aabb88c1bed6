use Rattle.std.proofs.Common.{◌≡◌, ℕ, List, ◌++◌, ◌+◌, ◌≤◌, length, sum, take, drop, ◌∙◌, ap, arith}
use Rattle.std.proofs.lemmas.List.{take_at}
use Rattle.ogg_page.specs.PageInWork.{PageInWork, lacing_in, body_in}
use Rattle.ogg_page.proofs.InRoom.{HasPut, has_put, length-body_in, cut, length-cut, length-front}
use Rattle.ogg_page.proofs.buffer.PageBuffer.put.Goals as goal

-- what the room holds then
abbrev after : goal.After-self-2-1 → List ℕ
after c = take c.self.inside.room.len (c.put_at.new.room ++ drop (length c.put_at.new.room) c.self.inside.room.items)

has : (c : goal.After-self-2-1) → HasPut c.self.inside.head c.self.inside.values c.self.inside.size c.self.inside.room.items c.args.bytes.now (after c)
has c =
    let room : List ℕ = c.self.inside.room.items in
    let values : ℕ = c.self.inside.values in
    let size : ℕ = c.self.inside.size in
    let is = c.self.invariant in
    let k : ℕ = length c.args.bytes.now in
    let n : ℕ = 27 + values + size in
    let lacing : sum (lacing_in values room) ≡ sum c.args.self.now.lacing = ap (λ (b : PageInWork). sum b.lacing) c.self.view_is in
    let body : length (body_in values size room) ≡ length c.args.self.now.body = ap (λ (b : PageInWork). length b.body) c.self.view_is in
    let sized : length (body_in values size room) ≡ size = length-body_in values size room (omega (arith, is.whole, is.few, is.small, is.fits)) in
    let most : size + k ≤ sum (lacing_in values room) = omega (arith, c.requires, lacing, body, sized) in
    let long : n + k ≤ length room = omega (arith, most, is.whole, is.few, is.small) in
    has_put c.self.inside.head values size room c.args.bytes.now (after c) is most
    (take_at c.put_at.new.room (drop (length c.put_at.new.room) room) c.self.inside.room.len (c.put_at.auto.room ∙ c.deref_mut.ensures.len)
    ∙ c.put_at.ensures (take n room) (take k (drop n room)) (drop (n + k) room) (length-front n room (omega (arith, long))) (length-cut n k room long)
    (c.deref_mut.ensures.value ∙ cut n k room))

pub invariant_of-self : goal.invariant_of-self
invariant_of-self c = (has c).is

pub returns : goal.returns
returns c =
    let room : List ℕ = c.self.inside.room.items in
    let lacing = (has c).lacing ∙ ap (λ (b : PageInWork). b.lacing) c.self.view_is in
    let body = (has c).body ∙ ap (λ (b : PageInWork). b.body ++ c.args.bytes.now) c.self.view_is in
    let finished = (has c).finished ∙ ap (λ (b : PageInWork). b.finished) c.self.view_is in
    λ i. record { lacing = lacing i; body = body i; finished = finished i }
