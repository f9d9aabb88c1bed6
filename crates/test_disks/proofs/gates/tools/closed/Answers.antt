use Rattle.std.proofs.Common.{◌≡◌, ◌≢◌, ℕ, ◌-◌, List, [], ◌∷◌, ◌++◌, length, refl, sym, ◌∙◌, ap, subst, arith, length-append, append-nil}
use Rattle.std.proofs.lemmas.List.{take_at}
use Rattle.ogg_page.specs.Page.{page_bytes}
use Rattle.ogg_page.specs.PageLaws.{length-page_bytes}
use Rattle.gate_file.specs.CommitLaws.{one_page}
use Rattle.gate_file.specs.Commit.{ArePages}
use Rattle.gate_file.specs.Gate.{IsAppend, pages_in}
use Rattle.test_disks.proofs.gates.tools.closed.Goals as goal

nothing : (xs : List ℕ) → length xs ≡ 0 → xs ≡ []
nothing [] none = refl
nothing (x ∷ xs) none = absurd (omega (arith, none))

-- pages and the closed byte after them
as_append : (pages : List ℕ) → ArePages pages → pages ≢ [] → IsAppend (pages ++ 0 ∷ [])
as_append pages are some =
    let same : pages_in (pages ++ 0 ∷ []) ≡ pages = take_at pages (0 ∷ []) (length (pages ++ 0 ∷ []) - 1) (omega (arith, length-append pages (0 ∷ []))) in
    record { pages = subst ArePages (sym same) are; some = λ none. some (sym same ∙ none); closed = ap (λ (l : List ℕ). l ++ 0 ∷ []) (sym same) }

pub invariant_of-result : goal.invariant_of-result
invariant_of-result c =
    let bytes = page_bytes c.in-Ok.page in
    let found = c.in-Ok.ensures.found in
    let whole : c.args.bytes.items ≡ bytes ++ found.1 = sym c.deref.ensures.value ∙ found.2 in
    let size : length c.args.bytes.items ≡ length bytes = omega (arith, c.if-whole-len.true, ap length c.whole.ensures.bytes, c.len.ensures, c.args.bytes.ok.0) in
    let none : found.1 ≡ [] = nothing found.1 (omega (arith, size, ap length whole, length-append bytes found.1)) in
    let same : c.args.bytes.items ≡ bytes = whole ∙ ap (λ (l : List ℕ). bytes ++ l) none ∙ append-nil bytes in
    let pages = one_page bytes c.in-Ok.page c.whole.ensures.is_page refl in
    subst IsAppend (sym (c.in_ok-push.ensures.items ∙ ap (λ (l : List ℕ). l ++ 0 ∷ []) same))
    (as_append bytes pages (λ empty. absurd (omega (arith, ap length empty, length-page_bytes c.in-Ok.page))))
