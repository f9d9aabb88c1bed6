use Rattle.std.proofs.Common.{◌≡◌, ◌∙◌, ap, refl, take, drop, List, ℕ, ◌-◌}
use Rattle.ogg_page.specs.Room.{held_of}
use Rattle.ogg_page.proofs.Room.{shown}
use Rattle.ogg_page.proofs.finding.find.Goals as goal

pub returns-then-held-min-clause-found : goal.returns-then-held-min-clause-found
returns-then-held-min-clause-found g c =
    let room : List ℕ = c.args.room.now in
    let held = c.args.held.now in
    let all : held.end - held.start ≡ c.min.result = c.if-held-min.true in (
      refl,
      λ sure. shown (held_of room held) (g.S.PageSource.bytes c.args.source.now) (held.end - held.start) c.args.at c.args.to c.in-Err.fault
          c.in-Err.ensures.bytes
          (all ∙ c.min.ensures) (c.requires.holds.same sure) c.in-Err.ensures.found,
    )

pub returns-in-Err-size_in_front-clause-found : goal.returns-in-Err-size_in_front-clause-found
returns-in-Err-size_in_front-clause-found g c =
    let room : List ℕ = c.read_on.new.room in
    let held = c.read_on.new.held in
    let done = c.in-Ok-read_on.ensures in (
      refl,
      λ sure. shown (held_of room held) (g.S.PageSource.bytes c.args.source.now) (held.end - held.start) c.args.at c.args.to c.in-Err-size_in_front.fault
          c.in-Err-size_in_front.ensures.bytes
          done.all
          (done.holds.same (done.source.honest_same.0 sure) ∙ ap (λ l. take (held.end - held.start) (drop c.args.at l)) (done.source.bytes_same sure))
          c.in-Err-size_in_front.ensures.found,
    )
