-- Commands in turn.
use Rattle.std.specs.Prelude.{List, [], ◌∷◌, ◌++◌, refl}
use Rattle.std.specs.List.{fold}
use Rattle.std.proofs.Common.{inl, inr, ⊎_elim, sym, ◌∙◌, ap, append_assoc}
use Rattle.std.proofs.lemmas.List.{append-nil}
use Rattle.history.specs.World.{Session, session}
use Rattle.history.specs.Commands.{AreAccepted, IsPartOf, IsMadeOf}

pub accepted-append : {S C : Type 0} (accepts : S → C → Type 0) (next : S → C → S) (s : S) (xs ys : List C)
    → AreAccepted accepts next s xs → AreAccepted accepts next (fold next s xs) ys → AreAccepted accepts next s (xs ++ ys)
accepted-append accepts next s [] ys p q = q
accepted-append accepts next s (x ∷ xs) ys p q = (p.0, accepted-append accepts next (next s x) xs ys p.1 q)

part-in_front : {A : Type 0} (xs ys : List A) (y : A) → IsPartOf xs ys → IsPartOf xs (y ∷ ys)
part-in_front [] ys y p = tt
part-in_front (x ∷ xs) ys y p = inr p

pub part-append : {A : Type 0} (xs ys us vs : List A) → IsPartOf xs ys → IsPartOf us vs → IsPartOf (xs ++ us) (ys ++ vs)
part-append [] [] us vs p q = q
part-append [] (y ∷ ys) us vs p q = part-in_front us (ys ++ vs) y (part-append [] ys us vs tt q)
part-append (x ∷ xs) [] us vs p q = absurd p
part-append (x ∷ xs) (y ∷ ys) us vs p q = ⊎_elim (λ both. inl (both.0, part-append xs ys us vs both.1 q)) (λ later. inr (part-append (x ∷ xs) ys us vs later q)) p

pub part-self : {A : Type 0} (xs : List A) → IsPartOf xs xs
part-self [] = tt
part-self (x ∷ xs) = inl (refl, part-self xs)

-- another opening, which doesn't find the group
pub made-without : {C : Type 0} (sessions : List (Session C)) (all group : List C) → IsMadeOf sessions all → IsMadeOf (sessions ++ session group [] ∷ []) all
made-without [] all group p = ([], refl, inl p)
made-without (first ∷ sessions) all group p = (p.0, made-without sessions p.0 group p.1, p.2)

-- another opening, which finds the group
pub made-with : {C : Type 0} (sessions : List (Session C)) (all group : List C) → IsMadeOf sessions all → IsMadeOf (sessions ++ session group [] ∷ []) (all ++ group)
made-with [] all group p = ([], refl, inr (ap (λ (l : List _). l ++ group) p ∙ sym (append-nil group)))
made-with {C} (first ∷ sessions) all group p = (
  p.0 ++ group,
  made-with sessions p.0 group p.1,
  ⊎_elim (λ without. inl (ap (λ (l : List C). l ++ group) without ∙ append_assoc first.acknowledged p.0 group))
      (λ found. inr (ap (λ (l : List C). l ++ group) found ∙ append_assoc first.in_doubt (first.acknowledged ++ p.0) group ∙ ap (λ (l : List C). first.in_doubt ++ l) (append_assoc first.acknowledged p.0 group))) p.2,
)

-- what the states hold grows with the commands
pub holds-fold : {S R C : Type 0} (accepts : S → C → Type 0) (next : S → C → S) (holds : S → R → Type 0) (add : R → C → R)
    → ((s : S) (r : R) (c : C) → accepts s c → holds s r → holds (next s c) (add r c))
    → (s : S) (r : R) (cs : List C) → holds s r → AreAccepted accepts next s cs → holds (fold next s cs) (fold add r cs)
holds-fold accepts next holds add adds s r [] held are = held
holds-fold accepts next holds add adds s r (c ∷ cs) held are = holds-fold accepts next holds add adds (next s c) (add r c) cs (adds s r c are.0 held) are.1
