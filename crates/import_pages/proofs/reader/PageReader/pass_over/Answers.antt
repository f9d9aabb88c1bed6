use Rattle.std.proofs.Common.{ℕ, List, subst, ap, arith, length}
use Rattle.import_pages.specs.Reader.{IsPassed}
use Rattle.import_pages.specs.Room.{held_of, lent_of}
use Rattle.import_pages.proofs.Passed.{passed_over}
use Rattle.import_pages.proofs.reader.PageReader.pass_over.Goals as goal

pub returns-clause-passes : goal.returns-clause-passes
returns-clause-passes c = rw (← c.self.view_is) (λ fault is some.
    passed_over c.self.inside.room.items c.self.inside.held c.self.inside.offset c.saturating_add-self-inside.result c.self.inside.failures c.next_place-count.result
    (lent_of c.self.inside.room.items c.self.inside.lent) c.self.inside.outcome c.self.invariant.0
    (subst (λ (r : List ℕ). IsPassed (held_of r c.self.inside.held) c.next_place-count.result) c.deref.ensures.value c.next_place-count.ensures)
    c.saturating_add-self-inside.ensures)

pub returns-clause-none : goal.returns-clause-none
returns-clause-none c = rw (← c.self.view_is) (λ none.
    let passed : IsPassed (held_of c.self.inside.room.items c.self.inside.held) c.next_place-count.result =
    subst (λ (r : List ℕ). IsPassed (held_of r c.self.inside.held) c.next_place-count.result) c.deref.ensures.value c.next_place-count.ensures in
    absurd (omega (arith, passed.some, passed.inside, ap length none)))
