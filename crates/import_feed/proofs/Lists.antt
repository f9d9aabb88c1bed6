-- Lists, item by item, and counts.
use Rattle.std.proofs.Common.{◌≡◌, ℕ, zero, suc, ◌+◌, ◌<◌, List, [], ◌∷◌, ◌++◌, length, take, get_or, sym, ◌∙◌, ap, subst, arith, append-nil}
use Rattle.std.specs.Prelude.{min}
use Rattle.std.specs.List.{AllByRecursion, flat_map}
use Rattle.std.proofs.lemmas.List.{take_more}
use Rattle.std.proofs.lemmas.List.Concat.{flat_map-append}
use Rattle.ogg_page.specs.Laws.PageBytes.{all_both}

-- one item more
more_is : {X : Type 0} (xs : List X) (i : ℕ) (x : X) → i < length xs → x ≡ get_or xs i x → take (i + 1) xs ≡ take i xs ++ x ∷ []
more_is xs i x h is = take_more xs i x h ∙ ap (λ y. take i xs ++ y ∷ []) (sym is)

pub flat_map-more : {X : Type 0} (f : X → List ℕ) (xs : List X) (i : ℕ) (x : X) → i < length xs → x ≡ get_or xs i x → flat_map f (take (i + 1) xs) ≡ flat_map f (take i xs) ++ f x
flat_map-more f xs i x h is =
    ap (flat_map f) (more_is xs i x h is) ∙ flat_map-append f (take i xs) (x ∷ []) ∙ ap (λ l. flat_map f (take i xs) ++ l) (append-nil (f x))

pub all_more : {X : Type 0} (P : X → Type 0) (xs : List X) (i : ℕ) (x : X) → i < length xs → x ≡ get_or xs i x → AllByRecursion P (take i xs) → P x →
    AllByRecursion P (take (i + 1) xs)
all_more P xs i x h is all one = subst (AllByRecursion P) (sym (more_is xs i x h is)) (all_both P (take i xs) (x ∷ []) all (one, tt))

-- each item of all
pub each_of : {X : Type 0} (P : X → Type 0) (xs : List X) (i : ℕ) (x : X) → i < length xs → x ≡ get_or xs i x → AllByRecursion P xs → P x
each_of P [] i x h is all = absurd (omega arith)
each_of P (y ∷ xs) zero x h is all = subst P (sym is) all.0
each_of P (y ∷ xs) (suc i) x h is all = each_of P xs i x (omega arith) is all.1

pub later_of : {X : Type 0} (P : X → Type 0) (xs ys : List X) → AllByRecursion P (xs ++ ys) → AllByRecursion P ys
later_of P [] ys all = all
later_of P (x ∷ xs) ys all = later_of P xs ys all.1

-- ---- counts
-- a count that stops at the greatest value goes on
pub counted_on : (most count was more before all : ℕ) → count ≡ min (was + more) most → was ≡ min before most → all ≡ before + more → count ≡ min all most
counted_on most count was more before all counts is adds = omega (arith, counts, is, adds)
