-- Which pages a pull has passed.
use Rattle.std.proofs.Common.{◌≡◌, ℕ, ◌+◌, ◌≤◌, Bool, true, false, List, [], ◌∷◌, ◌++◌, length, drop, refl, sym, ◌∙◌, ap, arith, append_assoc, length-append, inl, inr}
use Rattle.std.specs.Prelude.{◌||◌}
use Rattle.std.specs.List.{list_any}
use Rattle.std.proofs.lemmas.Bool.{cases_lt}
use Rattle.std.proofs.lemmas.List.{append-nil, drop_at}
use Rattle.std.proofs.lemmas.List.Folds.{list_any-append}
use Rattle.ogg_page.specs.Page.{page_bytes, page_size, bytes_of_pages}
use Rattle.ogg_page.specs.LogicalStream.{is_first}
use Rattle.ogg_page.specs.PageLaws.{bytes_both, length-page_bytes, pages_both}
use Rattle.serve_live.specs.Pulling.{HasPassed, names_from}
use Rattle.serve_live.specs.declared.names.StreamName.{StreamName}
use Rattle.serve_live.specs.declared.pages.PageLeft.{PageLeft}
use Rattle.serve_live.proofs.NextPage.{HasNext, IsAfter}
use Rattle.std.proofs.Math.Bool.{or-false, or_assoc}

pub none_passed : (committed : List ℕ) (left after : PageLeft) → after.place ≡ left.place → after.anew ≡ left.anew → HasPassed committed left after
none_passed committed left after place anew = record {
  passed = [];
  are_pages = tt;
  between = ap (λ n. drop n committed) (sym place);
  place = place ∙ omega arith;
  anew = anew ∙ sym (or-false left.anew);
}

pub passed_some : (committed : List ℕ) (kept : List StreamName) (rest : List ℕ) (left after : PageLeft) (begins : Bool) (n size : ℕ) →
    (h : HasNext committed kept left.place left.skip rest) → left.skip + n ≤ size → size ≡ page_size h.page → begins ≡ is_first h.page →
    IsAfter left after begins size n → HasPassed committed left after
passed_some committed kept rest left after begins n size h le size_is begins_is a =
    elim (cases_lt (left.skip + n) size) [
      | inl lt ↦ (let w = a.within lt in none_passed committed left after w.0 w.2)
      | inr ge ↦
          (let w = a.behind (let e : left.skip + n ≡ size = omega (arith, ge, le) in e) in
          let own : List ℕ = page_bytes h.page in
          let others : List ℕ = bytes_of_pages h.more in
          let long : size ≡ length own = size_is ∙ sym (length-page_bytes h.page) in
          let to : after.place ≡ left.place + length own = w.0 ∙ ap (λ k. left.place + k) long in
          let here : drop left.place committed ≡ own ++ others = ap (drop left.place) h.split ∙ drop_at h.front (own ++ others) left.place h.place_is in
          let next : drop after.place committed ≡ others =
          ap (drop after.place) (h.split ∙ sym (append_assoc h.front own others))
          ∙ drop_at (h.front ++ own) others after.place (length-append h.front own ∙ ap (λ k. k + length own) h.place_is ∙ sym to) in
          record {
            passed = h.page ∷ [];
            are_pages = (h.is_page, tt);
            between = here ∙ ap (λ l. l ++ others) (sym (append-nil own)) ∙ ap (λ l. (own ++ []) ++ l) (sym next);
            place = to ∙ ap (λ l. left.place + length l) (sym (append-nil own));
            anew = w.2 ∙ ap (λ b. left.anew || b) (begins_is ∙ sym (or-false (is_first h.page)));
          })
    ]

pub passed_on : (committed : List ℕ) (first second third : PageLeft) → HasPassed committed first second → HasPassed committed second third → HasPassed committed first third
passed_on committed first second third a b = record {
  passed = a.passed ++ b.passed;
  are_pages = pages_both a.passed b.passed a.are_pages b.are_pages;
  between = a.between ∙ ap (λ l. bytes_of_pages a.passed ++ l) b.between
      ∙ sym (append_assoc (bytes_of_pages a.passed) (bytes_of_pages b.passed) (drop third.place committed))
      ∙ ap (λ l. l ++ drop third.place committed) (sym (bytes_both a.passed b.passed));
  place = b.place ∙ omega (arith, a.place, ap length (bytes_both a.passed b.passed), length-append (bytes_of_pages a.passed) (bytes_of_pages b.passed));
  anew = b.anew ∙ ap (λ t. t || list_any is_first b.passed) a.anew ∙ or_assoc first.anew (list_any is_first a.passed) (list_any is_first b.passed)
      ∙ ap (λ t. first.anew || t) (sym (list_any-append is_first a.passed b.passed));
}

pub from_both : (names : List StreamName) (a b : Bool) → names_from names (a || b) ≡ names_from (names_from names a) b
from_both names true true = refl
from_both names true false = refl
from_both names false b = refl
