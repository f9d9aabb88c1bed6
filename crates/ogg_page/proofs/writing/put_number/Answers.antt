use Rattle.std.proofs.Common.{◌≡◌, ℕ, ◌+◌, ◌-◌, List, [], ◌∷◌, ◌++◌, length, get_or, set, refl, ◌∙◌, ap, arith}
use Rattle.std.proofs.lemmas.List.{set-append_right}
use Rattle.ogg_page.proofs.writing.put_number.Goals as goal

-- four values put in, one after the other
abbrev sets : List ℕ → ℕ → ℕ → ℕ → ℕ → ℕ → ℕ → ℕ → ℕ → List ℕ
sets xs i j k m a b c d = set (set (set (set xs i a) j b) k c) m d

four_sets : (four rest : List ℕ) (a b c d : ℕ) → length four ≡ 4 → sets (four ++ rest) 0 1 2 3 a b c d ≡ a ∷ b ∷ c ∷ d ∷ rest
four_sets [] rest a b c d l = absurd (omega arith)
four_sets (w ∷ []) rest a b c d l = absurd (omega arith)
four_sets (w ∷ x ∷ []) rest a b c d l = absurd (omega arith)
four_sets (w ∷ x ∷ y ∷ []) rest a b c d l = absurd (omega arith)
four_sets (w ∷ x ∷ y ∷ z ∷ []) rest a b c d l = refl
four_sets (w ∷ x ∷ y ∷ z ∷ v ∷ four) rest a b c d l = absurd (omega arith)

set_behind : (front xs : List ℕ) (at i k value : ℕ) → length front ≡ at → i ≡ at + k → set (front ++ xs) i value ≡ front ++ set xs k value
set_behind front xs at i k value size is =
    set-append_right front xs at i value size (omega (arith, is))
    ∙ ap (λ n. front ++ set xs n value) (let e : i - at ≡ k = omega (arith, is) in e)

sets_behind : (front four rest : List ℕ) (at a b c d : ℕ) → length front ≡ at → length four ≡ 4 →
    sets (front ++ (four ++ rest)) at (at + 1) (at + 2) (at + 3) a b c d ≡ front ++ (a ∷ b ∷ c ∷ d ∷ rest)
sets_behind front four rest at a b c d size l =
    let xs : List ℕ = four ++ rest in
    ap (λ ys. set (set (set ys (at + 1) b) (at + 2) c) (at + 3) d) (set_behind front xs at at 0 a size (omega arith))
    ∙ ap (λ ys. set (set ys (at + 2) c) (at + 3) d) (set_behind front (set xs 0 a) at (at + 1) 1 b size refl)
    ∙ ap (λ ys. set ys (at + 3) d) (set_behind front (set (set xs 0 a) 1 b) at (at + 2) 2 c size refl)
    ∙ set_behind front (set (set (set xs 0 a) 1 b) 2 c) at (at + 3) 3 d size refl
    ∙ ap (λ ys. front ++ ys) (four_sets four rest a b c d l)

pub returns-clause-items : goal.returns-clause-items
returns-clause-items c = λ front four rest size long is.
    let r : List ℕ = c.to_le_bytes.result in
    let at : ℕ = c.args.at in
    ap (λ xs. sets xs at (at + 1) (at + 2) (at + 3) (get_or r 0 0) (get_or r 1 0) (get_or r 2 0) (get_or r 3 0)) is
    ∙ sets_behind front four rest at (get_or r 0 0) (get_or r 1 0) (get_or r 2 0) (get_or r 3 0) size long
    ∙ ap (λ xs. front ++ (get_or xs 0 0 ∷ get_or xs 1 0 ∷ get_or xs 2 0 ∷ get_or xs 3 0 ∷ rest)) c.to_le_bytes.ensures
