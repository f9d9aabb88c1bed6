use Rattle.std.proofs.Common.{◌∙◌, ap, sym, subst, ℕ, List, arith}
use Rattle.ogg_page.specs.Page.{IsPage, AreBytes, page_bytes}
use Rattle.ogg_page.specs.Reading.{fields_at}
use Rattle.ogg_page.specs.Laws.Prefixes.{same_page}
use Rattle.ogg_page.specs.Laws.ReadAgain.{read_is_page, front_is_page}
use Rattle.ogg_page.proofs.reading.page_in_front.Goals as goal

pub new-requires-clause-is_page : goal.new-requires-clause-is_page
new-requires-clause-is_page c =
    let bytes : List ℕ = c.args.bytes.now in
    let h : AreBytes bytes = λ i. omega (arith, c.type_inv.bytes i) in
    let fields = same_page _ (fields_at bytes) (ap (λ h. h.flags) c.head_in_front.ensures) (ap (λ h. h.position) c.head_in_front.ensures) (ap (λ h. h.serial) c.head_in_front.ensures) (ap (λ h. h.sequence) c.head_in_front.ensures) (cc) (cc) in
    subst IsPage (sym fields) (read_is_page bytes (fields_at bytes) h c.requires.page).0

pub new-requires-clause-bytes : goal.new-requires-clause-bytes
new-requires-clause-bytes c =
    let bytes : List ℕ = c.args.bytes.now in
    let h : AreBytes bytes = λ i. omega (arith, c.type_inv.bytes i) in
    let fields = same_page _ (fields_at bytes) (ap (λ h. h.flags) c.head_in_front.ensures) (ap (λ h. h.position) c.head_in_front.ensures) (ap (λ h. h.serial) c.head_in_front.ensures) (ap (λ h. h.sequence) c.head_in_front.ensures) (cc) (cc) in
    c.split_at-4.ensures.front ∙ front_is_page bytes c.args.values c.args.size h c.requires ∙ ap page_bytes (sym fields)
