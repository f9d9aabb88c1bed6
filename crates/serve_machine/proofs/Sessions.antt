-- Sessions found by their numbers.
use Rattle.std.proofs.Common.{◌≡◌, ℕ, true, false, not, cond, Option, Some, None, List, [], ◌∷◌, ◌++◌, refl, sym, ◌∙◌, ap, inl, inr}
use Rattle.std.specs.Prelude.{nat_eq}
use Rattle.std.proofs.lemmas.Bool.{cond-true, cond-false, eqb-true, eq-eqb, cases_Bool}
use Rattle.serve_machine.specs.Hub.{Phase, Session, phase_in, with_phase_in, without_in}

pub same_number : (id : ℕ) → nat_eq id id ≡ true
same_number id = eq-eqb id id refl

-- the first session, or those after it
at_first : (id : ℕ) (s : Session) (sessions : List Session) → nat_eq s.id id ≡ true → phase_in id (s ∷ sessions) ≡ Some s.phase
at_first id s sessions e = cond-true (nat_eq s.id id) (Some s.phase) (phase_in id sessions) e

after_first : (id : ℕ) (s : Session) (sessions : List Session) → nat_eq s.id id ≡ false → phase_in id (s ∷ sessions) ≡ phase_in id sessions
after_first id s sessions e = cond-false (nat_eq s.id id) (Some s.phase) (phase_in id sessions) e

-- a number that isn't the other session's isn't that of a session with its number
apart_from : (x other id : ℕ) → nat_eq x other ≡ true → nat_eq other id ≡ false → nat_eq x id ≡ false
apart_from x other id e apart = ap (λ k. nat_eq k id) (eqb-true x other e) ∙ apart

-- a session that is there is in the phase that it is given
pub changed : (id : ℕ) (old phase : Phase) (sessions : List Session) → phase_in id sessions ≡ Some old → phase_in id (with_phase_in id phase sessions) ≡ Some phase
changed id old phase [] found = cc
changed id old phase (s ∷ sessions) found =
    elim (cases_Bool (nat_eq s.id id)) [
      | inl e ↦
          ap (phase_in id) (cond-true (nat_eq s.id id) (record s { phase = phase } ∷ sessions) (s ∷ with_phase_in id phase sessions) e)
          ∙ at_first id (record s { phase = phase }) sessions e
      | inr e ↦
          ap (phase_in id) (cond-false (nat_eq s.id id) (record s { phase = phase } ∷ sessions) (s ∷ with_phase_in id phase sessions) e)
          ∙ after_first id s (with_phase_in id phase sessions) e
          ∙ changed id old phase sessions (sym (after_first id s sessions e) ∙ found)
    ]

-- the other sessions stay
pub others_unchanged : (other id : ℕ) (phase : Phase) (sessions : List Session) → nat_eq other id ≡ false → phase_in id (with_phase_in other phase sessions) ≡ phase_in id sessions
others_unchanged other id phase [] apart = refl
others_unchanged other id phase (s ∷ sessions) apart =
    elim (cases_Bool (nat_eq s.id other)) [
      | inl e ↦
          ap (phase_in id) (cond-true (nat_eq s.id other) (record s { phase = phase } ∷ sessions) (s ∷ with_phase_in other phase sessions) e)
          ∙ after_first id (record s { phase = phase }) sessions (apart_from s.id other id e apart)
          ∙ sym (after_first id s sessions (apart_from s.id other id e apart))
      | inr e ↦
          ap (phase_in id) (cond-false (nat_eq s.id other) (record s { phase = phase } ∷ sessions) (s ∷ with_phase_in other phase sessions) e)
          ∙ ap (λ (o : Option Phase). cond (nat_eq s.id id) (Some s.phase) o) (others_unchanged other id phase sessions apart)
    ]

pub removed : (id : ℕ) (sessions : List Session) → phase_in id (without_in id sessions) ≡ None
removed id [] = refl
removed id (s ∷ sessions) =
    elim (cases_Bool (nat_eq s.id id)) [
      | inl e ↦
          ap (phase_in id) (cond-false (not (nat_eq s.id id)) (s ∷ without_in id sessions) (without_in id sessions) (ap not e)) ∙ removed id sessions
      | inr e ↦
          ap (phase_in id) (cond-true (not (nat_eq s.id id)) (s ∷ without_in id sessions) (without_in id sessions) (ap not e))
          ∙ after_first id s (without_in id sessions) e
          ∙ removed id sessions
    ]

pub others_not_removed : (other id : ℕ) (sessions : List Session) → nat_eq other id ≡ false → phase_in id (without_in other sessions) ≡ phase_in id sessions
others_not_removed other id [] apart = refl
others_not_removed other id (s ∷ sessions) apart =
    elim (cases_Bool (nat_eq s.id other)) [
      | inl e ↦
          ap (phase_in id) (cond-false (not (nat_eq s.id other)) (s ∷ without_in other sessions) (without_in other sessions) (ap not e))
          ∙ others_not_removed other id sessions apart
          ∙ sym (after_first id s sessions (apart_from s.id other id e apart))
      | inr e ↦
          ap (phase_in id) (cond-true (not (nat_eq s.id other)) (s ∷ without_in other sessions) (without_in other sessions) (ap not e))
          ∙ ap (λ (o : Option Phase). cond (nat_eq s.id id) (Some s.phase) o) (others_not_removed other id sessions apart)
    ]

-- one more session
pub added : (id : ℕ) (phase : Phase) (sessions : List Session) → phase_in id sessions ≡ None → phase_in id (sessions ++ record { id = id; phase = phase } ∷ []) ≡ Some phase
added id phase [] none = at_first id (record { id = id; phase = phase }) [] (same_number id)
added id phase (s ∷ sessions) none =
    elim (cases_Bool (nat_eq s.id id)) [
      | inl e ↦ let here : Some s.phase ≡ None = sym (at_first id s sessions e) ∙ none in cc
      | inr e ↦
          after_first id s (sessions ++ record { id = id; phase = phase } ∷ []) e
          ∙ added id phase sessions (sym (after_first id s sessions e) ∙ none)
    ]

pub others_as_before : (other id : ℕ) (phase : Phase) (sessions : List Session) → nat_eq other id ≡ false → phase_in id (sessions ++ record { id = other; phase = phase } ∷ []) ≡ phase_in id sessions
others_as_before other id phase [] apart = after_first id (record { id = other; phase = phase }) [] apart
others_as_before other id phase (s ∷ sessions) apart =
    ap (λ (o : Option Phase). cond (nat_eq s.id id) (Some s.phase) o) (others_as_before other id phase sessions apart)
