-- Each session has a number that was given.
use Rattle.std.proofs.Common.{◌≡◌, ℕ, ◌+◌, ◌≤◌, ◌<◌, not, None, List, [], ◌∷◌, ◌++◌, refl, sym, ◌∙◌, subst, arith, inl, inr}
use Rattle.std.specs.Prelude.{nat_eq}
use Rattle.std.specs.List.{AllByRecursion}
use Rattle.std.proofs.lemmas.Bool.{cases_Bool, cond-true, cond-false, eqb-true}
use Rattle.serve_machine.specs.Hub.{HubState, Phase, Reading, Session, Event, IsNewFor, hub_step, phase_in, with_phase_in, without_in}
use Rattle.serve_machine.specs.Own.{AreNumbered}
use Rattle.serve_machine.specs.Run.{IsUnused}
use Rattle.serve_machine.proofs.Changes.{Changes, Stays, Moves, Loses, Gains, changes}
use Rattle.serve_machine.proofs.Numbers.{numbers_rise}

abbrev AreBelow : ℕ → List Session → Type 0
AreBelow n sessions = AllByRecursion (λ (session : Session). session.id < n) sessions

more : (n m : ℕ) (sessions : List Session) → n ≤ m → AreBelow n sessions → AreBelow m sessions
more n m [] le all = tt
more n m (s ∷ sessions) le all = (omega (arith, le, all.0), more n m sessions le all.1)

moved : (n id : ℕ) (phase : Phase) (sessions : List Session) → AreBelow n sessions → AreBelow n (with_phase_in id phase sessions)
moved n id phase [] all = tt
moved n id phase (s ∷ sessions) all =
    elim (cases_Bool (nat_eq s.id id)) [
      | inl e ↦
          let here : AreBelow n (record s { phase = phase } ∷ sessions) = (all.0, all.1) in
          subst (AreBelow n) (sym (cond-true (nat_eq s.id id) (record s { phase = phase } ∷ sessions) (s ∷ with_phase_in id phase sessions) e)) here
      | inr e ↦
          let here : AreBelow n (s ∷ with_phase_in id phase sessions) = (all.0, moved n id phase sessions all.1) in
          subst (AreBelow n) (sym (cond-false (nat_eq s.id id) (record s { phase = phase } ∷ sessions) (s ∷ with_phase_in id phase sessions) e)) here
    ]

left : (n id : ℕ) (sessions : List Session) → AreBelow n sessions → AreBelow n (without_in id sessions)
left n id [] all = tt
left n id (s ∷ sessions) all =
    elim (cases_Bool (not (nat_eq s.id id))) [
      | inl e ↦
          let here : AreBelow n (s ∷ without_in id sessions) = (all.0, left n id sessions all.1) in
          subst (AreBelow n) (sym (cond-true (not (nat_eq s.id id)) (s ∷ without_in id sessions) (without_in id sessions) e)) here
      | inr e ↦
          subst (AreBelow n) (sym (cond-false (not (nat_eq s.id id)) (s ∷ without_in id sessions) (without_in id sessions) e)) (left n id sessions all.1)
    ]

gained : (n : ℕ) (sessions : List Session) (last : Session) → AreBelow n sessions → last.id < n → AreBelow n (sessions ++ last ∷ [])
gained n [] last all low = (low, tt)
gained n (s ∷ sessions) last all low = (all.0, gained n sessions last all.1 low)

pub kept : (old new : HubState) (event : Event) → hub_step old event new → AreNumbered old → AreNumbered new
kept old new event step all = by_change (changes old new event step)
  where
    rise : old.next_id ≤ new.next_id
    rise = numbers_rise old new event step

    by : (sessions : List Session) → new.sessions ≡ sessions → AreBelow old.next_id sessions → AreNumbered new
    by sessions e below = subst (AreBelow new.next_id) (sym e) (more old.next_id new.next_id sessions rise below)

    by_change : Changes old new → AreNumbered new
    by_change (Stays same) = by old.sessions same all
    by_change (Moves id phase is) = by (with_phase_in id phase old.sessions) is (moved old.next_id id phase old.sessions all)
    by_change (Loses id is) = by (without_in id old.sessions) is (left old.next_id id old.sessions all)
    by_change (Gains room later is) =
        let last : Session = record { id = old.next_id; phase = Reading [] } in
        subst (AreBelow new.next_id) (sym is)
        (gained new.next_id old.sessions last (more old.next_id new.next_id old.sessions rise all) (omega (arith, later)))

none_has : (n : ℕ) (sessions : List Session) → AreBelow n sessions → phase_in n sessions ≡ None
none_has n [] all = refl
none_has n (s ∷ sessions) all =
    elim (cases_Bool (nat_eq s.id n)) [
      | inl e ↦ let same : s.id ≡ n = eqb-true s.id n e in absurd (omega (arith, same, all.0))
      | inr e ↦ cond-false (nat_eq s.id n) _ (phase_in n sessions) e ∙ none_has n sessions all.1
    ]

pub unused : (hub : HubState) → AreNumbered hub → IsUnused hub hub.next_id
unused hub all = (omega arith, none_has hub.next_id hub.sessions all)

pub at_first : (room : ℕ) (hub : HubState) → IsNewFor room hub → AreNumbered hub
at_first room hub new = subst (AreBelow hub.next_id) (sym new.sessions) tt
