-- Steps of a hub keep that it holds a recording.
use Rattle.std.proofs.Common.{◌≡◌, ℕ, false, not, Option, Some, None, IsOk, Result, Ok, Err, List, [], ◌∷◌, ◌++◌, refl, sym, ◌∙◌, ap, subst, inl, inr, append-nil, append_assoc}
use Rattle.std.specs.Prelude.{is_some}
use Rattle.std.specs.List.{AllByRecursion}
use Rattle.std.proofs.lemmas.Bool.{or_parts, both_ways}
use Rattle.ogg_page.specs.Page.{Page}
use Rattle.link_chain.specs.ChainState.{chain_state_of}
use Rattle.ogg_command.specs.Command.{IsCommand}
use Rattle.chain_rules.specs.Decision.{decision}
use Rattle.chain_rules.specs.Encoding.{command_bytes}
use Rattle.link_chain.specs.Links.{AreLinks}
use Rattle.chain_rules.specs.Recording.{add}
use Rattle.link_chain.specs.Recording.{Recording, Holds}
use Rattle.ogg_command.specs.declared.command.Command.{Command}
use Rattle.ogg_command.specs.declared.refusal.Refusal.{Refusal}
use Rattle.ogg_command.specs.declared.refusal.Refusal.TheVariants.{Failed as FailedOf, Memory as NoRoom, Disk}
use Rattle.feed_replies.specs.declared.reply.Kept.{Kept}
use Rattle.serve_machine.specs.declared.fault.HubFault.{HubFault}
use Rattle.serve_machine.specs.declared.fault.HubFault.TheVariants.{NoSession, SessionsFull, Source, Memory, NoFile}
use Rattle.feed_replies.specs.declared.outcome.Outcome.{Outcome}
use Rattle.feed_replies.specs.declared.outcome.Outcome.TheVariants.{Held as WasHeld, Kept as WasKept}
use Rattle.serve_machine.specs.Hub.{HubState, Event, Connect, Receive, Pull, Close, Record, Flush, Group, Reopen, hub_step, phase_of, connect_step, command_step, flush_step, reopen_step, MayBeFound, IsAccepted, holding, committing, doubting, is_failed}
use Rattle.serve_machine.specs.Run.{Step, AreSteps}
use Rattle.serve_responses.specs.Response.{Asked, Asks, IsResponse, response}
use Rattle.serve_machine.specs.Sound.{IsRecorded, IsSound, HasCommand}
use Rattle.serve_machine.proofs.Numbers.{KeepsTheRest, receive_keeps, pull_keeps, close_keeps}

value_in : Option (List ℕ) → List ℕ
value_in None = []
value_in (Some bytes) = bytes

same_value : (a b : List ℕ) → Some a ≡ Some b → a ≡ b
unfolding value_in
same_value a b e = ap value_in e

-- a fault stands no longer than until nothing has failed
no_doubt : (hub : HubState) (group : List ℕ) → is_failed hub ≡ false → hub.in_doubt ≡ Some group → ⊥
no_doubt hub group fine doubt = both_ways (is_some hub.in_doubt) (or_parts (not hub.has_file) (is_some hub.in_doubt) fine).1 (ap (λ (o : Option (List ℕ)). is_some o) doubt)

-- nothing waits
with_nothing : (bytes : List ℕ) → IsRecorded bytes → IsRecorded (bytes ++ [])
with_nothing bytes recorded = subst IsRecorded (sym (append-nil bytes)) recorded

size_in : (decided : Result ℕ Refusal) → IsOk decided → (size : ℕ) × (decided ≡ Ok size)
size_in (Ok size) ok = (size, refl)
size_in (Err refusal) ok = cc

sound_kept : (old new : HubState) → KeepsTheRest old new → IsSound old → IsSound new
sound_kept old new keeps sound =
    subst IsSound (sym keeps.1)
    (record { committed = sound.committed; held = sound.held; in_doubt = sound.in_doubt })

sound_same : (old new : HubState) → new ≡ old → IsSound old → IsSound new
sound_same old new e sound = subst IsSound (sym e) sound

sound_connect : (old new : HubState) (answer : Result ℕ HubFault) → connect_step old answer new → IsSound old → IsSound new
sound_connect old new (Ok id) step sound =
    subst IsSound (sym step.2) (record { committed = sound.committed; held = sound.held; in_doubt = sound.in_doubt })
sound_connect old new (Err SessionsFull) step sound = sound_same old new step.1 sound
sound_connect old new (Err Memory) step sound = sound_same old new step.1 sound
sound_connect old new (Err NoSession) step sound = absurd step
sound_connect old new (Err Source) step sound = absurd step
sound_connect old new (Err NoFile) step sound = absurd step

-- all that waits is committed
sound_committing : (hub : HubState) → is_failed hub ≡ false → IsRecorded (hub.committed ++ hub.held) → IsSound (committing hub)
sound_committing hub fine held = record {
  committed = held;
  held = with_nothing (hub.committed ++ hub.held) held;
  in_doubt = λ group doubt. absurd (no_doubt hub group fine doubt);
}

-- all that waits is in doubt
sound_doubting : (hub : HubState) → IsRecorded hub.committed → IsRecorded (hub.committed ++ hub.held) → IsSound (doubting hub)
sound_doubting hub committed held = record {
  committed = committed;
  held = with_nothing hub.committed committed;
  in_doubt = λ group doubt. subst (λ l. IsRecorded (hub.committed ++ l)) (same_value hub.held group doubt) held;
}

sound_flush : (old new : HubState) (answer : Result Kept Refusal) → flush_step old answer new → IsSound old → IsSound new
sound_flush old new (Ok kept) step sound = subst IsSound (sym step.2) (sound_committing old step.0 sound.held)
sound_flush old new (Err FailedOf) step sound = sound_same old new step.1 sound
sound_flush old new (Err Disk) step sound = subst IsSound (sym step.2) (sound_doubting old sound.committed sound.held)
sound_flush old new (Err _) step sound = absurd step

found_recorded : (old : HubState) (found : List ℕ) → MayBeFound old found → IsSound old → IsRecorded found
found_recorded old found (inl same) sound = subst IsRecorded (sym same) sound.committed
found_recorded old found (inr more) sound = subst IsRecorded (sym more.2) (sound.in_doubt more.0 more.1)

sound_reopen : (old new : HubState) (found : Option (List ℕ)) → reopen_step old found new → IsSound old → IsSound new
sound_reopen old new None step sound =
    subst IsSound (sym step) (record { committed = sound.committed; held = with_nothing old.committed sound.committed; in_doubt = sound.in_doubt })
sound_reopen old new (Some found) step sound =
    let recorded = found_recorded old found step.0 sound in
    subst IsSound (sym step.1) (record { committed = recorded; held = with_nothing found recorded; in_doubt = λ group doubt. cc })

module _ (one_chain : (bytes : List ℕ) (links others : List (List Page)) → AreLinks bytes links → AreLinks bytes others → links ≡ others)
    (still_holds : (bytes : List ℕ) (recording : Recording) (held : Holds bytes recording) (command : Command) (size : ℕ) →
    IsCommand command → decision (chain_state_of held.0) command ≡ Ok size → Holds (bytes ++ command_bytes (chain_state_of held.0) command) (add recording command)) where
  recorded_with : (old : HubState) (command : Command) (added : List ℕ) → IsSound old → IsCommand command → IsAccepted old command added → IsRecorded (old.committed ++ (old.held ++ added))
  recorded_with old command added sound is_command accepted =
      let holds : Holds (old.committed ++ old.held) sound.held.0 = sound.held.1 in
      let same : accepted.0 ≡ holds.0 = one_chain (old.committed ++ old.held) accepted.0 holds.0 accepted.1 holds.1 in
      let size = size_in (decision (chain_state_of accepted.0) command) accepted.2 in
      let more = still_holds (old.committed ++ old.held) sound.held.0 holds command size.0 is_command
      (ap (λ (links : List (List Page)). decision (chain_state_of links) command) (sym same) ∙ size.1) in
      subst IsRecorded
      (ap (λ (links : List (List Page)). (old.committed ++ old.held) ++ command_bytes (chain_state_of links) command) (sym same)
      ∙ ap (λ l. (old.committed ++ old.held) ++ l) (sym accepted.3)
      ∙ append_assoc old.committed old.held added)
      (add sound.held.0 command, more)

  sound_command : (old new : HubState) (command : Command) (answer : Result Outcome Refusal) → IsCommand command → command_step old command answer new → IsSound old → IsSound new
  sound_command old new command (Ok (WasHeld count)) is step sound =
      subst IsSound (sym step.5)
      (record { committed = sound.committed; held = recorded_with old command step.1 sound is step.2; in_doubt = sound.in_doubt })
  sound_command old new command (Ok (WasKept kept)) is step sound =
      subst IsSound (sym step.5) (sound_committing (holding step.1 old) step.0 (recorded_with old command step.1 sound is step.2))
  sound_command old new command (Err FailedOf) is step sound = sound_same old new step.1 sound
  sound_command old new command (Err NoRoom) is step sound = sound_same old new step.3 sound
  sound_command old new command (Err Disk) is step sound =
      subst IsSound (sym step.3) (sound_doubting (holding step.1 old) sound.committed (recorded_with old command step.1 sound is step.2))
  sound_command old new command (Err _) is step sound = sound_same old new step.2 sound

  sound_step : (old new : HubState) (event : Event) → HasCommand event → hub_step old event new → IsSound old → IsSound new
  sound_step old new (Connect answer) is step sound = sound_connect old new answer step sound
  sound_step old new (Receive id bytes answer) is step sound = sound_kept old new (receive_keeps old new id (phase_of old id) old.has_file bytes answer step) sound
  sound_step old new (Pull id size answer) is step sound = sound_kept old new (pull_keeps old new id (phase_of old id) old.has_file size answer step) sound
  sound_step old new (Close id answer) is step sound = sound_kept old new (close_keeps old new id (phase_of old id) answer step) sound
  sound_step old new (Record command answer) is step sound = sound_command old new command answer is step sound
  sound_step old new (Flush answer) is step sound = sound_flush old new answer step sound
  sound_step old new (Group most) is step sound =
      subst IsSound (sym step.4) (record { committed = sound.committed; held = sound.held; in_doubt = sound.in_doubt })
  sound_step old new (Reopen found) is step sound = sound_reopen old new found step sound

  pub sound_run : (old : HubState) (steps : List Step) → IsSound old → AllByRecursion (λ (step : Step). HasCommand step.event) steps → AreSteps old steps → AllByRecursion (λ (step : Step). IsSound step.after) steps
  sound_run old [] sound commands are = tt
  sound_run old (step ∷ steps) sound commands are =
      let next = sound_step old step.after step.event commands.0 are.0 sound in
      (next, sound_run step.after steps next commands.1 are.1)

-- what is recorded has a response to all that is asked
pub has_response : (committed received : List ℕ) (asked : Option Asked) → IsRecorded committed → Asks received asked → (bytes : List ℕ) × IsResponse committed received bytes
has_response committed received asked recorded asks =
    let holds : Holds committed recorded.0 = recorded.1 in
    (response holds.0 asked, record { links = holds.0; are_links = holds.1; asked = asked; asks = asks; whole = refl })
