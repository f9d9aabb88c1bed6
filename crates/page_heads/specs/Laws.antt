-- Parts of a page, and failures counted one after the other.
use Rattle.std.proofs.Common.{◌≡◌, ℕ, ◌+◌, ◌≤◌, List, ◌++◌, length, take, drop, sym, ◌∙◌, ap, arith, inl, inr, drop-drop, length-drop}
use Rattle.std.proofs.lemmas.List.{take-append-le, drop-append-le}
use Rattle.std.proofs.Math.Seq.{take-append_seam, take-append-add}
use Rattle.ogg_page.specs.Page.{Page, page_bytes}
use Rattle.ogg_page.specs.Head.{Stands}
use Rattle.ogg_page.specs.Window.{HasFailed}

-- a part of a page lies in the page
pub part_of_page : (bytes : List ℕ) (page : Page) (place skip n : ℕ) → Stands (drop place bytes) page → skip + n ≤ length (page_bytes page)
    → take n (drop (place + skip) bytes) ≡ take n (drop skip (page_bytes page))
part_of_page bytes page place skip n s le =
    ap (take n) (sym (drop-drop skip place bytes) ∙ ap (drop skip) s.spelled ∙ drop-append-le skip (page_bytes page) s.tail (omega arith))
    ∙ take-append-le n (drop skip (page_bytes page)) s.tail (let len = length-drop skip (page_bytes page) in omega (arith, len))

-- two parts in front
pub front_two : (a b c : List ℕ) (g n : ℕ) → length a ≡ g → length b ≡ n → take (g + n) (a ++ (b ++ c)) ≡ a ++ b
front_two a b c g n la lb =
    ap (λ k. take (k + n) (a ++ (b ++ c))) (sym la) ∙ take-append-add a (b ++ c) n
    ∙ ap (λ l. a ++ l) (ap (λ k. take k (b ++ c)) (sym lb) ∙ take-append_seam b c)

-- what failed since a later moment failed since an earlier one
pub later_failed : (first before now : ℕ) → first ≤ before → HasFailed before now → HasFailed first now
later_failed first before now le (inl rose) = inl (omega arith)
later_failed first before now le (inr at) = inr at
