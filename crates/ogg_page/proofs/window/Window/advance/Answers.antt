use Rattle.std.proofs.Common.{◌≡◌, ◌∙◌, refl, length, take, drop, List, ℕ, ◌-◌, ◌+◌, ◌<◌, ◌++◌, arith, Option, Some, None}
use Rattle.std.proofs.lemmas.List.{take_at}
use Rattle.ogg_page.specs.Reading.{fields_at}
use Rattle.ogg_page.specs.declared.fault.WindowFault.{WindowFault}
use Rattle.ogg_page.specs.Room.{HoldsBytes, held_of, lent_of}
use Rattle.ogg_page.proofs.Room.{Stands, stands}
use Rattle.ogg_page.proofs.Step.{some_left, failed, moved, still, lent_is}
use Rattle.ogg_page.proofs.window.Window.advance.Goals as goal

no_fault : (fault : Option WindowFault) → ((given : WindowFault) → fault ≡ Some given → ⊥) → fault ≡ None
no_fault None never = refl
no_fault (Some given) never = absurd (never given refl)

pub invariant_of-self-in-Ok : goal.invariant_of-self-in-Ok
invariant_of-self-in-Ok g c =
    let room : List ℕ = c.find.new.room in
    let holds = c.in-Ok.ensures.holds in
    let same : take c.self.inside.room.len (room ++ drop (length room) c.self.inside.room.items) ≡ room =
    take_at room (drop (length room) c.self.inside.room.items) c.self.inside.room.len (c.find.auto.room ∙ c.deref_mut.ensures.len) in
    let here : Stands room c.find.new.held c.in-Ok.size = stands room c.find.new.held c.in-Ok.size holds.ordered (omega (arith, holds.fits, holds.whole)) c.in-Ok.ensures.found in
    still (g.S.PageSource.bytes c.find.new.source) (g.S.PageSource.is_honest c.find.new.source) (g.S.PageSource.size c.find.new.source) room
    (take c.self.inside.room.len (room ++ drop (length room) c.self.inside.room.items)) c.find.new.held c.self.inside.at c.self.inside.to c.in-Ok.size same holds here

pub returns-in-Err : goal.returns-in-Err
returns-in-Err g c = rw (← c.self.view_is) (
    let inside : HoldsBytes (g.S.PageSource.bytes c.self.inside.source) (g.S.PageSource.is_honest c.self.inside.source) (g.S.PageSource.size c.self.inside.source) c.self.inside.room.items c.self.inside.held c.self.inside.at c.self.inside.to = c.self.invariant.0 in
    let below : c.self.inside.at < c.self.inside.to = omega (arith, inside.span, c.if-self.false) in
    failed g.S.PageSource.bytes g.S.PageSource.is_honest g.S.PageSource.size g.S.PageSource.failures g.S.PageSource.only_reads c.self.inside.source c.find.new.source c.self.inside.at c.self.inside.to
    c.self.inside.fault (lent_of c.self.inside.room.items c.self.inside.lent) (held_of c.find.new.room c.find.new.held) c.in-Err.fault
    (no_fault c.self.inside.fault c.in_default.not-Some)
    (λ sure. some_left (g.S.PageSource.bytes c.self.inside.source) c.self.inside.at c.self.inside.to below (omega (arith, inside.inside, g.met.S.PageSource.fits c.self.inside.source sure)))
    c.in-Err.ensures.found c.in-Err.ensures.source c.in-Err.ensures.cause)

pub returns-in-Ok : goal.returns-in-Ok
returns-in-Ok g c = rw (← c.self.view_is) (
    let room : List ℕ = c.find.new.room in
    let held = c.find.new.held in
    let n : ℕ = c.in-Ok.size in
    let holds = c.in-Ok.ensures.holds in
    let again : List ℕ = take c.self.inside.room.len (room ++ drop (length room) c.self.inside.room.items) in
    let same : again ≡ room = take_at room (drop (length room) c.self.inside.room.items) c.self.inside.room.len (c.find.auto.room ∙ c.deref_mut.ensures.len) in
    let here : Stands room held n = stands room held n holds.ordered (omega (arith, holds.fits, holds.whole)) c.in-Ok.ensures.found in
    moved g.S.PageSource.bytes g.S.PageSource.is_honest g.S.PageSource.size g.S.PageSource.failures g.S.PageSource.only_reads c.self.inside.source c.find.new.source c.self.inside.at c.self.inside.to n
    c.self.inside.fault (lent_of c.self.inside.room.items c.self.inside.lent) room held (fields_at (take (held.start + n - held.start) (drop held.start again)))
    (no_fault c.self.inside.fault c.in_default.not-Some)
    holds here (lent_is room again held n same here) c.in-Ok.ensures.source c.in-Ok.ensures.cause.0)
