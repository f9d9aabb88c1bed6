-- Lists, cut and joined.
use Rattle.std.proofs.Common.{◌≡◌, ℕ, ◌<◌, List, [], ◌∷◌, ◌++◌, length, get_or, refl, sym, ap, ◌∙◌, arith, take, drop, take-append-drop}
use Rattle.std.specs.List.{AllByRecursion, IsSplitAt}
use Rattle.std.proofs.lemmas.List.Elements.{All-from_get_or, recursion_from_All}
use Rattle.ogg_page.specs.Page.{IsByte}

pub all_front : {X : Type 0} (P : X → Type 0) (xs ys : List X) → AllByRecursion P (xs ++ ys) → AllByRecursion P xs
all_front P [] ys h = tt
all_front P (x ∷ xs) ys h = (h.0, all_front P xs ys h.1)

pub all_back : {X : Type 0} (P : X → Type 0) (xs ys : List X) → AllByRecursion P (xs ++ ys) → AllByRecursion P ys
all_back P [] ys h = h
all_back P (x ∷ xs) ys h = all_back P xs ys h.1

-- one fact of each for another
pub all_as : {X : Type 0} (P Q : X → Type 0) → ((x : X) → P x → Q x) → (xs : List X) → AllByRecursion P xs → AllByRecursion Q xs
all_as P Q f [] h = tt
all_as P Q f (x ∷ xs) h = (f x h.0, all_as P Q f xs h.1)

-- two facts of each for a third
pub all_of_two : {X : Type 0} (P Q R : X → Type 0) → ((x : X) → P x → Q x → R x) → (xs : List X) → AllByRecursion P xs → AllByRecursion Q xs → AllByRecursion R xs
all_of_two P Q R f [] h k = tt
all_of_two P Q R f (x ∷ xs) h k = (f x h.0 k.0, all_of_two P Q R f xs h.1 k.1)

-- what a slice of bytes holds
pub are_bytes : (xs : List ℕ) → ((i : ℕ) → get_or xs i 0 < 256) → AllByRecursion IsByte xs
are_bytes xs h = recursion_from_All IsByte xs (All-from_get_or IsByte xs 0 (λ i _. h i))

pub split_joins : (xs front back : List ℕ) (n : ℕ) → IsSplitAt xs n front back → xs ≡ front ++ back
split_joins xs front back n s = sym (take-append-drop n xs) ∙ ap (λ l. l ++ drop n xs) (sym s.1) ∙ ap (λ l. front ++ l) (sym s.2)

pub cut_joins : (n : ℕ) (xs front back : List ℕ) → front ≡ take n xs → back ≡ drop n xs → xs ≡ front ++ back
cut_joins n xs front back f b = sym (take-append-drop n xs) ∙ ap (λ l. l ++ drop n xs) (sym f) ∙ ap (λ l. front ++ l) (sym b)

pub nothing : (xs : List ℕ) → length xs ≡ 0 → xs ≡ []
nothing [] l = refl
nothing (x ∷ xs) l = absurd (omega arith)
