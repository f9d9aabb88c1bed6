-- Steps of a feed, one after the other.
use Rattle.std.proofs.Common.{◌≡◌, ◌+◌, ℕ, zero, suc, arith, Option, Some, None, Result, Ok, Err, List, refl, sym, ◌∙◌, ap, subst}
use Rattle.std.specs.Prelude.{IfSome}
use Rattle.disk_model.specs.declared.disk.Disk.{Ghosts as DiskModel}
use Rattle.disk_model.specs.Image.{DiskState}
use Rattle.feed_replies.specs.declared.fault.RunFault.{RunFault}
use Rattle.feed_run.specs.Run.{Outcome, RunState}
use Rattle.serve_hub.specs.Parts.{HubParts}
use Rattle.serve_machine.specs.Hub.{HubState}
use Rattle.serve_machine.specs.Own.{KeepsFile}
use Rattle.ogg_serve.specs.Feeding.{FeedState, feed_state, lasting, step_at}
use Rattle.ogg_serve.specs.Steps.{GoesOn, StepsIf, TakesSteps}
use Rattle.ogg_serve.specs.declared.feeding.Step.{Step}

pub file_both : (a b c : HubState) → KeepsFile a b → KeepsFile b c → KeepsFile a c
file_both a b c first second = second ∙ ap (λ (hub : HubState). record hub { sessions = c.sessions; next_id = c.next_id }) first

-- a run that has ended ends its feed
lasting_at : (outcome : Outcome) → lasting (step_at outcome) ≡ Some (step_at outcome)
lasting_at (Ok _) = refl
lasting_at (Err fault) = refl

pub ended_so : {R W H : Type 0} (outcome : Option Outcome) (result : Result Step RunFault) (last : Option (Result Step RunFault)) (reader new_reader : R) (replies new_replies : W)
    (run new_run : RunState) (hub hub_after : H) → last ≡ lasting result
    → IfSome outcome (λ o. (result ≡ step_at o) × (new_run ≡ run) × (hub_after ≡ hub) × (new_reader ≡ reader) × (new_replies ≡ replies))
    → IfSome outcome (λ o. (result ≡ step_at o) × (feed_state new_reader new_replies new_run last ≡ feed_state reader replies run (Some result)) × (hub_after ≡ hub))
ended_so None result last reader new_reader replies new_replies run new_run hub hub_after is closed = tt
ended_so (Some o) result last reader new_reader replies new_replies run new_run hub hub_after is (told, runs, hubs, readers, writers) =
    let stays : last ≡ Some result = is ∙ subst (λ (r : Result Step RunFault). lasting r ≡ Some r) (sym told) (lasting_at o) in
    (told, (λ i. feed_state (readers i) (writers i) (runs i) (stays i)), hubs)

module _ {D : Type 0} (model : DiskModel D) {R W : Type 0} (remaining : R → Option (List ℕ)) (contents : W → Option (List ℕ)) where
  -- what a step does, by what its contract says
  pub taken : (shows : HubParts D → HubState
      → Type 0) (keeps : HubState → HubState → Type 0) → ((m : HubState) → keeps m m) → (ended : Option (Result Step RunFault)) (outcome : Option Outcome) (result : Result Step RunFault)
      (old new : FeedState R W) (hub hub_after : HubParts D) (before : HubState) → shows hub before
      → IfSome ended (λ answer. (result ≡ answer) × (new ≡ old) × (hub_after ≡ hub))
      → (ended ≡ None
      → IfSome outcome (λ o. (result ≡ step_at o) × (new ≡ feed_state old.reader old.replies old.run (Some result)) × (hub_after ≡ hub)))
      → (ended ≡ None → outcome ≡ None → (after : HubState) × shows hub_after after × keeps before after
      × GoesOn model remaining contents old new before after)
      → (after : HubState) × shows hub_after after × keeps before after
      × StepsIf model remaining contents ended outcome old new before after
  taken shows keeps none (Some answer) outcome result old new hub hub_after before shown stays closed stepped =
      (before, subst (λ (h : HubParts D). shows h before) (sym stays.2) shown, none before, (stays.1, refl))
  taken shows keeps none None (Some o) result old new hub hub_after before shown stays closed stepped =
      let c = closed refl in (
        before,
        subst (λ (h : HubParts D). shows h before) (sym c.2) shown,
        none before,
        (c.1 ∙ ap (λ (r : Result Step RunFault). feed_state old.reader old.replies old.run (Some r)) c.0, refl),
      )
  taken shows keeps none None None result old new hub hub_after before shown stays closed stepped = stepped refl refl

  -- the same number of steps
  pub as_many : (n : ℕ) (old new : FeedState R W) (before after : HubState)
      → TakesSteps model remaining contents (suc n) old new before after
      → TakesSteps model remaining contents (n + 1) old new before after
  as_many n old new before after steps =
      let e : suc n ≡ n + 1 = omega arith in
      subst (λ (k : ℕ). TakesSteps model remaining contents k old new before after) e steps

  -- nothing is recorded before the steps either
  pub led : (n : ℕ) (old new : FeedState R W) (a b c : HubState) → KeepsFile a b
      → TakesSteps model remaining contents n old new b c
      → TakesSteps model remaining contents n old new a c
  led zero old new a b c first steps = (steps.0, file_both a b c first steps.1)
  led (suc n) old new a b c first (feed, one, two, steps, step, file) = (feed, one, two, led n old feed a b one first steps, step, file)

  -- nothing is recorded after the steps either
  pub followed : (n : ℕ) (old new : FeedState R W) (a b c : HubState)
      → TakesSteps model remaining contents n old new a b → KeepsFile b c
      → TakesSteps model remaining contents n old new a c
  followed zero old new a b c steps last = (steps.0, file_both a b c steps.1 last)
  followed (suc n) old new a b c (feed, one, two, steps, step, file) last = (feed, one, two, steps, step, file_both two b c file last)
