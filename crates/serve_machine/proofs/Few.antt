-- There are at most as many sessions as may be.
use Rattle.std.proofs.Common.{◌≡◌, ℕ, suc, ◌+◌, ◌≤◌, not, List, [], ◌∷◌, length, refl, ◌∙◌, ap, arith, inl, inr, length-append}
use Rattle.std.specs.Prelude.{nat_eq}
use Rattle.std.specs.List.{AllByRecursion}
use Rattle.std.proofs.lemmas.Bool.{cases_Bool, cond-true, cond-false}
use Rattle.serve_machine.specs.Hub.{HubState, Phase, Reading, Session, Event, IsNewFor, hub_step, with_phase_in, without_in}
use Rattle.serve_machine.specs.Run.{Step, AreSteps}
use Rattle.serve_machine.proofs.Changes.{Changes, Stays, Moves, Loses, Gains, changes}
use Rattle.serve_machine.proofs.Rooms.{same_room}

as_many : (id : ℕ) (phase : Phase) (sessions : List Session) → length (with_phase_in id phase sessions) ≡ length sessions
as_many id phase [] = refl
as_many id phase (s ∷ sessions) =
    elim (cases_Bool (nat_eq s.id id)) [
      | inl e ↦ ap (λ (l : List Session). length l) (cond-true (nat_eq s.id id) (record s { phase = phase } ∷ sessions) (s ∷ with_phase_in id phase sessions) e)
      | inr e ↦ ap (λ (l : List Session). length l) (cond-false (nat_eq s.id id) (record s { phase = phase } ∷ sessions) (s ∷ with_phase_in id phase sessions) e)
          ∙ ap (λ n. suc n) (as_many id phase sessions)
    ]

no_more : (id : ℕ) (sessions : List Session) → length (without_in id sessions) ≤ length sessions
no_more id [] = omega arith
no_more id (s ∷ sessions) =
    let fewer = no_more id sessions in
    elim (cases_Bool (not (nat_eq s.id id))) [
      | inl e ↦
          let is : length (without_in id (s ∷ sessions)) ≡ suc (length (without_in id sessions)) =
          ap (λ (l : List Session). length l) (cond-true (not (nat_eq s.id id)) (s ∷ without_in id sessions) (without_in id sessions) e) in
          omega (arith, is, fewer)
      | inr e ↦
          let is : length (without_in id (s ∷ sessions)) ≡ length (without_in id sessions) =
          ap (λ (l : List Session). length l) (cond-false (not (nat_eq s.id id)) (s ∷ without_in id sessions) (without_in id sessions) e) in
          omega (arith, is, fewer)
    ]

abbrev AreFew : HubState → Type 0
AreFew hub = length hub.sessions ≤ hub.room

few_of : (old new : HubState) (sessions : List Session) → new.room ≡ old.room → new.sessions ≡ sessions → length sessions ≤ length old.sessions → AreFew old → AreFew new
few_of old new sessions room e le few = let is : length new.sessions ≡ length sessions = ap (λ (l : List Session). length l) e in omega (arith, room, is, le, few)

few_changed : (old new : HubState) (id : ℕ) (phase : Phase) → new.room ≡ old.room → new.sessions ≡ with_phase_in id phase old.sessions → AreFew old → AreFew new
few_changed old new id phase room e few = let is = as_many id phase old.sessions in few_of old new (with_phase_in id phase old.sessions) room e (omega (arith, is)) few

few_left : (old new : HubState) (id : ℕ) → new.room ≡ old.room → new.sessions ≡ without_in id old.sessions → AreFew old → AreFew new
few_left old new id room e few = few_of old new (without_in id old.sessions) room e (no_more id old.sessions) few

few_step : (old new : HubState) (event : Event) → hub_step old event new → AreFew old → AreFew new
few_step old new event step few = by_change (changes old new event step)
  where
    same : new.room ≡ old.room
    same = same_room old new event step

    by_change : Changes old new → AreFew new
    by_change (Stays unmoved) = few_of old new old.sessions same unmoved (omega arith) few
    by_change (Moves id phase moved) = few_changed old new id phase same moved few
    by_change (Loses id left) = few_left old new id same left few
    by_change (Gains room later more) =
        let is : length new.sessions ≡ length old.sessions + 1 =
        ap (λ (l : List Session). length l) more ∙ length-append old.sessions (record { id = old.next_id; phase = Reading [] } ∷ []) in
        omega (arith, room, is, same)

few_now : (room : ℕ) (old : HubState) (steps : List Step) → old.room ≡ room → length old.sessions ≤ room → AreSteps old steps
    → AllByRecursion (λ (step : Step). length step.after.sessions ≤ room) steps
few_now room old [] is here are = tt
few_now room old (step ∷ steps) is here are =
    let now : step.after.room ≡ room = same_room old step.after step.event are.0 ∙ is in
    let next : AreFew step.after = few_step old step.after step.event are.0 (omega (arith, is, here)) in
    let few_after : length step.after.sessions ≤ room = omega (arith, now, next) in
    (few_after, few_now room step.after steps now few_after are.1)

pub few : (old : HubState) (steps : List Step) → length old.sessions ≤ old.room → AreSteps old steps → AllByRecursion (λ (step : Step). length step.after.sessions ≤ old.room) steps
few old steps here are = few_now old.room old steps refl here are

-- a new hub
pub few_of_new : (room : ℕ) (old : HubState) (steps : List Step) → IsNewFor room old → AreSteps old steps → AllByRecursion (λ (step : Step). length step.after.sessions ≤ room) steps
few_of_new room old steps new are =
    let none : length old.sessions ≡ 0 = ap (λ (l : List Session). length l) new.sessions in
    few_now room old steps new.room (omega (arith, none)) are
