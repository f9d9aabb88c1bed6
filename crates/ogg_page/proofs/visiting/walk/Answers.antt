use Rattle.std.proofs.Common.{◌≡◌, refl, sym, ◌∙◌, subst, Some, None, Ok}
use Rattle.ogg_page.specs.Window.{LentAt, answer, HasMoved}
use Rattle.ogg_page.proofs.Walking.{shown_nothing, shown_more}
use Rattle.ogg_page.proofs.visiting.walk.Goals as goal

pub pages-init : goal.pages-init
pages-init g c =
    let s = g.S.PageSource in
    shown_nothing s.bytes s.is_honest s.size s.failures s.only_reads g.V.PageVisitor.sees c.args.window.now c.args.visitor.now g.met.S.PageSource.reads_nothing

pub returns-in-Err-clause-walked : goal.returns-in-Err-clause-walked
returns-in-Err-clause-walked g c =
    let s = g.S.PageSource in
    let new = c.advance.new.self in
    record {
      pages = c.pages.invariant.pages;
      now = c.pages.window;
      mid = c.pages.visitor;
      passed = c.pages.invariant.passed;
      seen = c.pages.invariant.seen;
      last = (subst (λ r. HasMoved s.bytes s.is_honest s.size s.failures s.only_reads c.pages.window (answer r new.lent) new) c.in-Err.is c.advance.ensures, refl);
    }

pub pages-preserved : goal.pages-preserved
pages-preserved g c =
    let s = g.S.PageSource in
    let new = c.advance.new.self in
    let at : LentAt = (c.in-Some.offset, c.in-Some.page) in
    let got : answer c.advance.result new.lent ≡ Ok (Some at) = (λ i. answer (c.in_default.is i) ((sym c.lent.ensures ∙ c.in-Some.is) i)) in
    let moved = subst (λ r. HasMoved s.bytes s.is_honest s.size s.failures s.only_reads c.pages.window r new) got c.advance.ensures in
    shown_more s.bytes s.is_honest s.size s.failures s.only_reads g.V.PageVisitor.sees c.args.window.now c.args.visitor.now c.pages.window c.pages.visitor new c.see.new.self at
    g.met.S.PageSource.reads_on c.pages.invariant moved (subst (λ v. g.V.PageVisitor.sees c.pages.visitor at v c.see.new.self) c.in-GoesOn.is c.see.ensures)

pub returns-in-Ends-clause-walked : goal.returns-in-Ends-clause-walked
returns-in-Ends-clause-walked g c =
    let s = g.S.PageSource in
    let new = c.advance.new.self in
    let at : LentAt = (c.in-Some.offset, c.in-Some.page) in
    let lent : new.lent ≡ Some at = sym c.lent.ensures ∙ c.in-Some.is in
    let got : answer c.advance.result new.lent ≡ Ok (Some at) = (λ i. answer (c.in_default.is i) (lent i)) in
    let moved = subst (λ r. HasMoved s.bytes s.is_honest s.size s.failures s.only_reads c.pages.window r new) got c.advance.ensures in
    record {
      pages = c.pages.invariant.pages;
      now = c.pages.window;
      mid = c.pages.visitor;
      passed = c.pages.invariant.passed;
      seen = c.pages.invariant.seen;
      last = (at, moved, lent, subst (λ v. g.V.PageVisitor.sees c.pages.visitor at v c.see.new.self) c.in-Ends.is c.see.ensures);
    }

pub returns-in-None-clause-walked : goal.returns-in-None-clause-walked
returns-in-None-clause-walked g c =
    let s = g.S.PageSource in
    let new = c.advance.new.self in
    let got : answer c.advance.result new.lent ≡ Ok None = (λ i. answer (c.in_default.is i) ((sym c.lent.ensures ∙ c.in-None.is) i)) in
    let moved = subst (λ r. HasMoved s.bytes s.is_honest s.size s.failures s.only_reads c.pages.window r new) got c.advance.ensures in
    record {
      pages = c.pages.invariant.pages;
      now = c.pages.window;
      mid = c.pages.visitor;
      passed = c.pages.invariant.passed;
      seen = c.pages.invariant.seen;
      last = (moved, refl);
    }
