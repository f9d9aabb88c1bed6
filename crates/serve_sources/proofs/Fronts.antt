-- Fronts of a text that grows.
use Rattle.std.proofs.Common.{◌≡◌, ℕ, ◌<◌, true, List, ◌++◌, ◌⊎◌, length, take, drop, nat_eq, inl, inr, arith, refl, ap, sym, ◌∙◌, append_assoc, take-append-drop}
use Rattle.std.proofs.lemmas.Bool.{cases_lt}
use Rattle.std.proofs.lemmas.Bool.Decides.{Decides-eqb}
use Rattle.std.proofs.lemmas.List.{take-append-le, take_at}
use Rattle.std.proofs.lemmas.Slice.Eq.{starts_is}
use Rattle.std.specs.List.{starts_with}
use Rattle.serve_sources.proofs.Methods.{begins}

-- a text that is made of these bytes and others begins with them
pub starts_so : (text front rest : List ℕ) → text ≡ front ++ rest → starts_with nat_eq text front ≡ true
starts_so text front rest e = (starts_is Decides-eqb text front _ refl).1 rest e

-- what begins a text begins it when it has grown
pub starts_grown : (text front more : List ℕ) → starts_with nat_eq text front ≡ true → starts_with nat_eq (text ++ more) front ≡ true
starts_grown text front more test =
    starts_so (text ++ more) front (drop (length front) text ++ more)
    (ap (λ t. t ++ more) (begins text front test) ∙ append_assoc front (drop (length front) text) more)

-- what begins a text that has grown began it before, or it was shorter and a front of it
pub began : (text more front : List ℕ) → starts_with nat_eq (text ++ more) front ≡ true → (starts_with nat_eq text front ≡ true) ⊎ ((length text < length front) × (starts_with nat_eq front text ≡ true))
began text more front test =
    let whole : text ++ more ≡ front ++ drop (length front) (text ++ more) = begins (text ++ more) front test in
    elim (cases_lt (length text) (length front)) [
      | inl short ↦
          let same : take (length text) front ≡ text =
          sym (take-append-le (length text) front (drop (length front) (text ++ more)) (omega (arith, short)))
          ∙ ap (take (length text)) (sym whole) ∙ take_at text more (length text) refl in
          inr (short, starts_so front text (drop (length text) front) (sym (take-append-drop (length text) front) ∙ ap (λ t. t ++ drop (length text) front) same))
      | inr long ↦
          let same : take (length front) text ≡ front =
          sym (take-append-le (length front) text more long)
          ∙ ap (take (length front)) whole ∙ take_at front (drop (length front) (text ++ more)) (length front) refl in
          inl (starts_so text front (drop (length front) text) (sym (take-append-drop (length front) text) ∙ ap (λ t. t ++ drop (length front) text) same))
    ]
