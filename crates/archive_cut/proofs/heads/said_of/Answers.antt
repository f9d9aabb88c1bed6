use Rattle.std.proofs.Common.{◌≡◌, ℕ, [], Option, Some, sym, ◌∙◌, ap}
use Rattle.std.proofs.lemmas.List.{append-nil}
use Rattle.ogg_page.specs.Page.{page_bytes, page_size}
use Rattle.archive_cut.specs.Heads.{said_of}
use Rattle.archive_cut.specs.declared.heads.Said.{Said}
use Rattle.archive_cut.proofs.heads.said_of.Goals as goal

one_found : (found : Option (Said × ℕ)) (p q : Said × ℕ) → found ≡ Some p → found ≡ Some q → p ≡ q
one_found found p q one other = cc

pub returns-in-Some : goal.returns-in-Some
returns-in-Some c page is spelled =
    let same = one_found c.said_with_size.result (c.in-Some.said, c.in-Some.field-0-1) (said_of page, page_size page) c.in-Some.is
    (c.said_with_size.ensures page [] is (spelled ∙ sym (append-nil (page_bytes page)))) in
    ap (λ (p : Said × ℕ). Some p.0) same
