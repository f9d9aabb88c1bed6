-- The bytes of a head.
use Rattle.std.proofs.Common.{◌≡◌, ℕ, zero, suc, ◌≤◌, List, [], ◌∷◌, ◌++◌, length, take, refl, ◌∙◌, ap, arith}
use Rattle.std.proofs.lemmas.List.{length-take-le, take-append-le}
use Rattle.ogg_page.specs.Page.{Page, page_bytes}
use Rattle.ogg_page.specs.PageLaws.{length-page_bytes}
use Rattle.ogg_page.specs.Head.{Stands, head_size}

-- what was read of a page's head, with whatever stands after it in the buffer
pub head_is : (bytes room rest : List ℕ) (page : Page) (n : ℕ) → Stands bytes page → head_size page ≤ n → n ≤ length bytes → room ≡ take n bytes →
    take (head_size page) (room ++ rest) ≡ take (head_size page) (page_bytes page)
head_is bytes room rest page n s le long is =
    let h : ℕ = head_size page in
    let fits : h ≤ length (page_bytes page) = omega (arith, length-page_bytes page) in
    let size : length room ≡ n = ap length is ∙ length-take-le n bytes long in
    take-append-le h room rest (omega (arith, size, le))
    ∙ ap (take h) is ∙ take-take-le h n bytes le
    ∙ ap (take h) s.spelled ∙ take-append-le h (page_bytes page) s.tail fits
  where
    take-take-le : (a b : ℕ) (l : List ℕ) → a ≤ b → take a (take b l) ≡ take a l
    take-take-le zero b l lt = refl
    take-take-le (suc a) zero l lt = absurd (omega arith)
    take-take-le (suc a) (suc b) [] lt = refl
    take-take-le (suc a) (suc b) (x ∷ l) lt = ap (λ k. x ∷ k) (take-take-le a b l (omega arith))
