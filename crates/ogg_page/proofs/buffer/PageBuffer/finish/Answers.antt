use Rattle.std.proofs.Common.{◌≡◌, ℕ, List, ◌∷◌, ◌++◌, ◌+◌, Some, length, sum, take, drop, sym, ◌∙◌, ap, arith}
use Rattle.std.proofs.lemmas.List.{take_at}
use Rattle.ogg_page.specs.Page.{page_bytes, page_of}
use Rattle.ogg_page.specs.PageInWork.{PageInWork, lacing_in, body_in, page_in}
use Rattle.ogg_page.proofs.InRoom.{HasClosed, has_closed, length-body_in}
use Rattle.ogg_page.proofs.buffer.PageBuffer.finish.Goals as goal

-- what the room holds then
abbrev after : goal.After-self-3-1 → List ℕ
after c = take c.self.inside.room.len (c.close_room.new.room ++ drop (length c.close_room.new.room) c.self.inside.room.items)

has : (c : goal.After-self-3-1) → HasClosed c.args.head.now c.self.inside.values c.self.inside.size c.self.inside.room.items (after c)
has c =
    let room : List ℕ = c.self.inside.room.items in
    let values : ℕ = c.self.inside.values in
    let size : ℕ = c.self.inside.size in
    let is = c.self.invariant in
    let lacing : sum (lacing_in values room) ≡ sum c.args.self.now.lacing = ap (λ (b : PageInWork). sum b.lacing) c.self.view_is in
    let body : length (body_in values size room) ≡ length c.args.self.now.body = ap (λ (b : PageInWork). length b.body) c.self.view_is in
    let sized : length (body_in values size room) ≡ size = length-body_in values size room (omega (arith, is.whole, is.few, is.small, is.fits)) in
    has_closed c.self.inside.head c.args.head.now values size room (after c) is (sym sized ∙ body ∙ c.requires ∙ sym lacing)
    (take_at c.close_room.new.room (drop (length c.close_room.new.room) room) c.self.inside.room.len (c.close_room.auto.room ∙ c.deref_mut.ensures.len)
    ∙ c.close_room.ensures
    ∙ ap (λ l. page_bytes (page_in c.args.head.now values size l) ++ 0 ∷ drop (28 + values + size) l) c.deref_mut.ensures.value)

pub invariant_of-self : goal.invariant_of-self
invariant_of-self c = (has c).is

pub returns : goal.returns
returns c =
    let lacing = (has c).lacing ∙ ap (λ (b : PageInWork). b.lacing) c.self.view_is in
    let body = (has c).body ∙ ap (λ (b : PageInWork). b.body) c.self.view_is in
    λ i. record { lacing = lacing i; body = body i; finished = Some (page_of c.args.head.now (lacing i) (body i)) }
