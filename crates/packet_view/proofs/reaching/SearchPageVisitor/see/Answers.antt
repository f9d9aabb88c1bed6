use Rattle.std.proofs.Common.{◌≡◌, ◌<◌, ◌∙◌, refl, sym, ap, Some, length, arith}
use Rattle.std.proofs.lemmas.Bool.{eq-eqb, true≢false}
use Rattle.ogg_page.specs.Page.{Page}
use Rattle.ogg_page.specs.Window.{LentAt}
use Rattle.packet_view.specs.Cut.{at_front, parts_then}
use Rattle.packet_view.proofs.Fronts.{other}
use Rattle.packet_view.proofs.Walks.{none_left}
use Rattle.packet_view.proofs.Reaches.{parts-other, parts-page, parts-there, parts-no_values, no_fault}
use Rattle.packet_view.proofs.reaching.SearchPageVisitor.see.Goals as goal

pub returns-then-serial-self : goal.returns-then-serial-self
returns-then-serial-self c =
    let s = c.args.self.now in
    let page : Page = c.args.page.now in
    (refl, λ found. parts-other s.serial s.behind s.unfinished (c.args.offset, page) found (other page.serial s.serial (λ e. c.if-serial-self.true (c.serial.ensures ∙ e))))

pub returns-in-Some : goal.returns-in-Some
returns-in-Some c = λ found.
    let s = c.args.self.now in
    let page : Page = c.args.page.now in
    parts-page s.serial s.behind s.unfinished (c.args.offset, page) found (Some c.in-Some.fault)
    (eq-eqb page.serial s.serial (sym c.serial.ensures ∙ c.if-serial-self.false)) (sym c.misplaced.ensures ∙ c.in-Some.is)

pub returns-then-not-has_values : goal.returns-then-not-has_values
returns-then-not-has_values c =
    let s = c.args.self.now in
    let page : Page = c.args.page.now in
    let at : LentAt = (c.args.offset, page) in
    let behind = c.behind_page-self.result in
    let never : 0 < length page.lacing → ⊥ = λ some. true≢false (sym (c.has_values.ensures.1 some) ∙ c.if-not-has_values.true) in
    let none : length page.lacing ≡ 0 = omega (arith, never) in (
      refl,
      λ found. parts-there s at behind (sym c.serial.ensures ∙ c.if-serial-self.false) (sym c.misplaced.ensures ∙ no_fault c.misplaced.result c.in_default.not-Some) c.behind_page-self.ensures found
          ∙ parts-no_values s at behind (none_left page.lacing none) found,
    )

pub returns : goal.returns
returns c =
    let s = c.args.self.now in
    let at : LentAt = (c.args.offset, c.args.page.now) in (
      c.has_values.ensures.0 c.if-not-has_values.false,
      c.at_front.ensures ∙ ap (λ p. at_front p.behind s.unfinished) (sym c.at_front.ensures),
      λ found. parts-there s at c.behind_page-self.result (sym c.serial.ensures ∙ c.if-serial-self.false) (sym c.misplaced.ensures ∙ no_fault c.misplaced.result c.in_default.not-Some) c.behind_page-self.ensures found
          ∙ ap (λ p. parts_then s.serial (Some at) p found) (sym c.at_front.ensures),
    )
