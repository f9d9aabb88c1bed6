-- The session with one number, in a list and in the machine.
use Rattle.std.proofs.Common.{◌≡◌, ℕ, suc, ◌+◌, ◌<◌, true, false, Option, Some, None, List, [], ◌∷◌, length, get_or, set, refl, sym, ◌∙◌, ap, subst, arith, inl, inr}
use Rattle.std.specs.Prelude.{nat_eq}
use Rattle.std.specs.Option.{option_map}
use Rattle.std.proofs.lemmas.Bool.{cases_Bool, cond-true, cond-false}
use Rattle.serve_machine.specs.Hub.{Session, Phase, phase_in, with_phase_in}
use Rattle.serve_sessions.specs.Sessions.{AreSessions, IsPhase, place_in}
use Rattle.serve_sessions.specs.declared.session.Session.{Session as SessionParts}

-- there are as many sessions as in the machine
pub as_many : (committed : List ℕ) (parts : List SessionParts) (machine : List Session) → AreSessions committed parts machine → length parts ≡ length machine
as_many committed [] [] are = refl
as_many committed [] (m ∷ machine) are = absurd are
as_many committed (s ∷ parts) [] are = absurd are
as_many committed (s ∷ parts) (m ∷ machine) are = ap (λ n. suc n) (as_many committed parts machine are.1)

-- ---- the session with one number
-- it stands at this place, and in the machine it has this phase
pub record Found (committed : List ℕ) (id place : ℕ) (parts : List SessionParts) (machine : List Session) : Type 0 where
  pub inside : place < length parts
  pub phase : Phase
  pub phase_is : phase_in id machine ≡ Some phase
  -- it doesn't matter which session is returned for places after the last
  pub is : (d : SessionParts) → IsPhase committed (get_or parts place d).stage phase
  pub set_to : (d new : SessionParts) (after : Phase) → new.id ≡ (get_or parts place d).id → IsPhase committed new.stage after
      → AreSessions committed (set parts place new) (with_phase_in id after machine)
  pub same : with_phase_in id phase machine ≡ machine

pub none_more : (o : Option ℕ) (k : ℕ) → ◌≡◌ {A = Option ℕ} (option_map (λ (place : ℕ). place + 1) o) (Some k) → (j : ℕ) × (o ≡ Some j) × (k ≡ suc j)
none_more None k e = absurd (let f : ◌≡◌ {A = Option ℕ} None (Some k) = e in cc)
none_more (Some j) k e = (j, refl, (let f : ◌≡◌ {A = Option ℕ} (Some (j + 1)) (Some k) = e in let g : j + 1 ≡ k = cc in omega (arith, g)))

pub some_same : (j k : ℕ) → ◌≡◌ {A = Option ℕ} (Some j) (Some k) → j ≡ k
some_same j k e = cc

pub none_not : (k : ℕ) → ◌≡◌ {A = Option ℕ} None (Some k) → ⊥
none_not k e = cc

pub some_not : (k : ℕ) → ◌≡◌ {A = Option ℕ} (Some k) None → ⊥
some_not k e = cc

here : (committed : List ℕ) (id : ℕ) (s : SessionParts) (parts : List SessionParts) (m : Session) (machine : List Session) → AreSessions committed (s ∷ parts) (m ∷ machine)
    → nat_eq m.id id ≡ true → Found committed id 0 (s ∷ parts) (m ∷ machine)
here committed id s parts m machine are own = record {
  inside = omega arith;
  phase = m.phase;
  phase_is = cond-true (nat_eq m.id id) (Some m.phase) (phase_in id machine) own;
  is = λ d. are.0.1;
  set_to = λ d new after same is.
      subst (λ (l : List Session). AreSessions committed (new ∷ parts) l)
      (sym (cond-true (nat_eq m.id id) (record m { phase = after } ∷ machine) (m ∷ with_phase_in id after machine) own)) ((same ∙ are.0.0, is), are.1);
  same = cond-true (nat_eq m.id id) (record m { phase = m.phase } ∷ machine) (m ∷ with_phase_in id m.phase machine) own;
}

behind : (committed : List ℕ) (id place : ℕ) (s : SessionParts) (parts : List SessionParts) (m : Session) (machine : List Session) → AreSessions committed (s ∷ parts) (m ∷ machine)
    → nat_eq m.id id ≡ false → Found committed id place parts machine → Found committed id (suc place) (s ∷ parts) (m ∷ machine)
behind committed id place s parts m machine are other f = record {
  inside = omega (arith, f.inside);
  phase = f.phase;
  phase_is = cond-false (nat_eq m.id id) (Some m.phase) (phase_in id machine) other ∙ f.phase_is;
  is = f.is;
  set_to = λ d new after same is.
      subst (λ (l : List Session). AreSessions committed (s ∷ set parts place new) l)
      (sym (cond-false (nat_eq m.id id) (record m { phase = after } ∷ machine) (m ∷ with_phase_in id after machine) other)) (are.0, f.set_to d new after same is);
  same = cond-false (nat_eq m.id id) (record m { phase = f.phase } ∷ machine) (m ∷ with_phase_in id f.phase machine) other ∙ ap (λ (l : List Session). m ∷ l) f.same;
}

pub found : (committed : List ℕ) (id place : ℕ) (parts : List SessionParts) (machine : List Session) → AreSessions committed parts machine → place_in id parts ≡ Some place
    → Found committed id place parts machine
found committed id place [] machine are e = absurd (none_not place e)
found committed id place (s ∷ parts) [] are e = absurd are
found committed id place (s ∷ parts) (m ∷ machine) are e =
    elim (cases_Bool (nat_eq s.id id)) [
      | inl own ↦
          let at : 0 ≡ place = some_same 0 place (sym (cond-true (nat_eq s.id id) (Some 0) (option_map (λ (k : ℕ). k + 1) (place_in id parts)) own) ∙ e) in
          subst (λ (k : ℕ). Found committed id k (s ∷ parts) (m ∷ machine)) at
          (here committed id s parts m machine are (ap (λ (n : ℕ). nat_eq n id) (sym are.0.0) ∙ own))
      | inr other ↦
          let (j, is, k) = none_more (place_in id parts) place (sym (cond-false (nat_eq s.id id) (Some 0) (option_map (λ (k : ℕ). k + 1) (place_in id parts)) other) ∙ e) in
          subst (λ (k : ℕ). Found committed id k (s ∷ parts) (m ∷ machine)) (sym k)
          (behind committed id j s parts m machine are (ap (λ (n : ℕ). nat_eq n id) (sym are.0.0) ∙ other) (found committed id j parts machine are.1 is))
    ]

pub map_none : (o : Option ℕ) → ◌≡◌ {A = Option ℕ} (option_map (λ (place : ℕ). place + 1) o) None → o ≡ None
map_none None e = refl
map_none (Some j) e = absurd (let f : ◌≡◌ {A = Option ℕ} (Some (j + 1)) None = e in cc)

-- or there is no such session
pub not_found : (committed : List ℕ) (id : ℕ) (parts : List SessionParts) (machine : List Session) → AreSessions committed parts machine → place_in id parts ≡ None → phase_in id machine ≡ None
not_found committed id [] [] are e = refl
not_found committed id [] (m ∷ machine) are e = absurd are
not_found committed id (s ∷ parts) [] are e = absurd are
not_found committed id (s ∷ parts) (m ∷ machine) are e =
    elim (cases_Bool (nat_eq s.id id)) [
      | inl own ↦ absurd (some_not 0 (sym (cond-true (nat_eq s.id id) (Some 0) (option_map (λ (k : ℕ). k + 1) (place_in id parts)) own) ∙ e))
      | inr other ↦
          cond-false (nat_eq m.id id) (Some m.phase) (phase_in id machine) (ap (λ (n : ℕ). nat_eq n id) (sym are.0.0) ∙ other)
          ∙ not_found committed id parts machine are.1 (map_none (place_in id parts)
          (sym (cond-false (nat_eq s.id id) (Some 0) (option_map (λ (k : ℕ). k + 1) (place_in id parts)) other) ∙ e))
    ]
