-- What a call leaves of the hub's sessions, and that each stays of one connection alone.
use Rattle.std.proofs.Common.{◌≡◌, ◌≢◌, ◌≤◌, ◌<◌, ℕ, Option, Some, None, List, [], ◌∷◌, ◌++◌, append-nil, append_assoc, refl, sym, ◌∙◌, ap, subst, inl, inr, arith}
use Rattle.std.specs.List.{AllByRecursion}
use Rattle.std.proofs.lemmas.Bool.Decides.{eqb_tells}
use Rattle.disk_model.specs.declared.disk.Disk.{Ghosts as DiskModel}
use Rattle.serve_clients.specs.Client.{ClientState}
use Rattle.serve_hub.specs.Showing.{Shows}
use Rattle.serve_machine.specs.Hub.{Event, HubState, hub_step, phase_of}
use Rattle.serve_machine.specs.Own.{AreNumbered, KeepsFile}
use Rattle.serve_machine.specs.Sound.{Extends}
use Rattle.serve_machine.specs.Run.{AreSteps, Step, session_of}
use Rattle.slab.specs.Slab.{Slab, get}
use Rattle.station_hub.specs.Going.{AreRecorders, left_by}
use Rattle.station_hub.specs.Live.{RecordsLive}
use Rattle.station_hub.specs.Tracking.{TracksOn}
use Rattle.station_hub.specs.declared.live_hub.LiveHub.{LiveHub}
use Rattle.station.specs.Passing.{session_in}
use Rattle.station_laws.specs.Written.{AreApart}
use Rattle.station_laws.proofs.Rising.{rises}

none_some : (id : ℕ) → None ≡ Some id → ⊥
none_some id e = cc

-- what the laws say of any step
pub record Laws : Type 0 where
  pub others : (old new : HubState) (event : Event) (id : ℕ) → hub_step old event new → session_of event ≢ Some id → phase_of new id ≡ phase_of old id
  pub numbered : (old new : HubState) (event : Event) → hub_step old event new → AreNumbered old → AreNumbered new
  pub file : (old new : HubState) (event : Event) (id : ℕ) → hub_step old event new → session_of event ≡ Some id → KeepsFile old new
  pub grows : (start : HubState) (steps : List Step) → AreSteps start steps → AllByRecursion (λ (step : Step). Extends start.committed step.after.committed) steps

-- Each session but this one, if it is one, is as it was, if its number had been given. No number is given again.
pub record Leaves (mine : Option ℕ) (before after : HubState) : Type 0 where
  pub phases : (id : ℕ) → mine ≢ Some id → id < before.next_id → phase_of after id ≡ phase_of before id
  pub rise : before.next_id ≤ after.next_id
  pub numbered : AreNumbered before → AreNumbered after
  pub grows : Extends before.committed after.committed

pub leaves_all : (mine : Option ℕ) (machine : HubState) → Leaves mine machine machine
leaves_all mine machine = record { phases = λ id apart below. refl; rise = omega arith; numbered = λ are. are; grows = ([], sym (append-nil machine.committed)) }

pub leaves_step : Laws → (mine : Option ℕ) (before after : HubState) (event : Event) → hub_step before event after
    → ((id : ℕ) → mine ≢ Some id → id < before.next_id → session_of event ≢ Some id) → Leaves mine before after
leaves_step laws mine before after event step apart = record {
  phases = λ id other below. laws.others before after event id step (apart id other below);
  rise = rises before after event step;
  numbered = laws.numbered before after event step;
  grows = (laws.grows before (record { event = event; after = after } ∷ []) (step, tt)).0;
}

longer : (first second third : List ℕ) → Extends first second → Extends second third → Extends first third
longer first second third (more, is) (later, is_later) =
    (more ++ later, is_later ∙ ap (λ (bytes : List ℕ). bytes ++ later) is ∙ append_assoc first more later)

pub leaves_then : (mine : Option ℕ) (before mid after : HubState) → Leaves mine before mid → Leaves mine mid after → Leaves mine before after
leaves_then mine before mid after first second = record {
  phases = λ id other below. second.phases id other (omega (arith, below, first.rise)) ∙ first.phases id other below;
  rise = omega (arith, first.rise, second.rise);
  numbered = λ are. second.numbered (first.numbered are);
  grows = longer before.committed mid.committed after.committed first.grows second.grows;
}

-- a step of this session
pub own_step : Laws → (id : ℕ) (before after : HubState) (event : Event) → hub_step before event after → session_of event ≡ Some id
    → Leaves (Some id) before after
own_step laws id before after event step of =
    leaves_step laws (Some id) before after event step (λ other apart below same. apart (sym of ∙ same))

pub leaves_steps : Laws → (mine : Option ℕ) (before : HubState) (steps : List Step) → AreSteps before steps → AreRecorders steps
    → Leaves mine before (left_by before steps)
leaves_steps laws mine before [] are recorders = leaves_all mine before
leaves_steps laws mine before (step ∷ steps) are recorders =
    leaves_then mine before step.after (left_by step.after steps)
    (leaves_step laws mine before step.after step.event are.0 (λ id apart below same. none_some id (sym recorders.0 ∙ same)))
    (leaves_steps laws mine step.after steps are.1 recorders.1)

-- ---- by the hub, whichever machine it is seen as
pub side_same : {H : Type 0} (mine : Option ℕ) (shows : H → HubState → Type 0) (old new : H) (before : HubState) → new ≡ old → shows old before
    → (after : HubState) × shows new after × Leaves mine before after
side_same mine shows old new before same shown =
    (before, subst (λ hub. shows hub before) (sym same) shown, leaves_all mine before)

pub side_records : {D : Type 0} → Laws → (model : DiskModel D) (mine : Option ℕ) (old new : LiveHub D) (before : HubState) → RecordsLive model old new
    → Shows model old.hub before → (after : HubState) × Shows model new.hub after × TracksOn before old.places after new.places × Leaves mine before after
side_records laws model mine old new before records shown =
    let (steps, are, recorders, shows_after, tracks) = records before shown in
    (left_by before steps, shows_after, tracks, leaves_steps laws mine before steps are recorders)

-- ---- each session is of one connection alone
pub still_apart : (mine : Option ℕ) (before after : HubState) (old new : Slab ClientState) → AreApart before old → Leaves mine before after
    → ((key id : ℕ) → session_in (get new key) ≡ Some id → session_in (get old key) ≡ Some id) → AreApart after new
still_apart mine before after old new are leaves had = record {
  given = leaves.numbered are.given;
  numbered = λ key id is. omega (arith, are.numbered key id (had key id is), leaves.rise);
  apart = λ key other id is too. are.apart key other id (had key id is) (had other id too);
}

same_some : (one other : ℕ) → Some one ≡ Some other → one ≡ other
same_some one other e = cc

-- one more has a session
pub one_more_apart : (mine : Option ℕ) (before after : HubState) (old new : Slab ClientState) (key : ℕ) → AreApart before old → Leaves mine before after
    → before.next_id < after.next_id → session_in (get new key) ≡ Some before.next_id
    → ((other id : ℕ) → other ≢ key → session_in (get new other) ≡ Some id → session_in (get old other) ≡ Some id) → AreApart after new
one_more_apart mine before after old new key are leaves more is had = record {
  given = leaves.numbered are.given;
  numbered = λ one id of. elim (eqb_tells one key) [
    | inl same ↦
        let number : id ≡ before.next_id = same_some id before.next_id (sym of ∙ ap (λ (k : ℕ). session_in (get new k)) same.1 ∙ is) in
        omega (arith, number, more)
    | inr other ↦ omega (arith, are.numbered one id (had one id other.1 of), leaves.rise)
  ];
  apart = λ one two id of too. elim (eqb_tells one key) [
    | inl same ↦ elim (eqb_tells two key) [
      | inl as_well ↦ same.1 ∙ sym as_well.1
      | inr other ↦
          let number : id ≡ before.next_id = same_some id before.next_id (sym of ∙ ap (λ (k : ℕ). session_in (get new k)) same.1 ∙ is) in
          absurd (omega (arith, number, are.numbered two id (had two id other.1 too)))
    ]
    | inr other ↦ elim (eqb_tells two key) [
      | inl as_well ↦
          let number : id ≡ before.next_id = same_some id before.next_id (sym too ∙ ap (λ (k : ℕ). session_in (get new k)) as_well.1 ∙ is) in
          absurd (omega (arith, number, are.numbered one id (had one id other.1 of)))
      | inr another ↦ are.apart one two id (had one id other.1 of) (had two id another.1 too)
    ]
  ];
}
