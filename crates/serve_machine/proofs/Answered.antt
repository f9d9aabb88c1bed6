-- Each call has an answer that is neither want of memory nor a fault of a disk.
use Rattle.std.proofs.Common.{◌≡◌, ◌≢◌, ℕ, ◌+◌, ◌≤◌, Bool, true, false, Option, Some, None, IsOk, Result, Ok, Err, List, [], ◌++◌, take, drop, refl, sym, subst, inl, inr, arith}
use Rattle.std.specs.Prelude.{⊤}
use Rattle.std.proofs.lemmas.Bool.{cases_Bool, cases_lt}
use Rattle.ogg_page.specs.Page.{Page}
use Rattle.link_chain.specs.ChainState.{ChainState, chain_state_of}
use Rattle.chain_rules.specs.Decision.{decision}
use Rattle.chain_rules.specs.Encoding.{command_bytes}
use Rattle.link_chain.specs.Links.{AreLinks}
use Rattle.link_chain.specs.Recording.{Holds}
use Rattle.ogg_command.specs.Refusal.{code_of}
use Rattle.ogg_command.specs.declared.command.Command.{Command}
use Rattle.ogg_command.specs.declared.refusal.Refusal.{Refusal}
use Rattle.ogg_command.specs.declared.refusal.Refusal.TheVariants.{Failed as FailedOf, Memory as NoRoom, Disk, LinkOpen, NoLink, Empty, TooMany, SerialTaken, NoHeader, HeadTooLong, PacketTooLong, BadType, BadRate, UnknownSerial, StreamEnded, PositionRange, PositionBack, BatchTooLong, SequenceEnd, LinksFull, FileFull}
use Rattle.feed_replies.specs.declared.reply.Kept.{Kept}
use Rattle.serve_machine.specs.declared.fault.HubFault.{HubFault}
use Rattle.serve_machine.specs.declared.fault.HubFault.TheVariants.{NoSession, SessionsFull, Source, Memory, NoFile}
use Rattle.feed_replies.specs.declared.outcome.Outcome.{Outcome}
use Rattle.feed_replies.specs.declared.outcome.Outcome.TheVariants.{Held as WasHeld, Kept as WasKept}
use Rattle.serve_machine.specs.declared.answers.Progress.{Progress}
use Rattle.serve_machine.specs.declared.answers.Progress.TheVariants.{More, Ready}
use Rattle.serve_responses.specs.Response.{AsksOrWaits}
use Rattle.serve_machine.specs.Hub.{HubState, Phase, Reading, Sending, Given, phase_of, with_phase, with_session, without_session, is_full, is_failed, is_nothing, connect_step, receive_step, pull_step, close_step, command_step, flush_step, IsRefused, MayBeFound, holding, committing, without_file, kept_by, reopen_step}
use Rattle.serve_machine.specs.Sound.{IsSound}
use Rattle.serve_machine.proofs.Recorded.{has_response}

pub connects : (hub : HubState) → (answer : Result ℕ HubFault) × (new : HubState) × (answer ≢ Err Memory) × connect_step hub answer new
connects hub =
    elim (cases_Bool (is_full hub)) [
      | inl full ↦ (Err SessionsFull, hub, λ e. cc, (full, refl))
      | inr room ↦ (Ok hub.next_id, with_session hub, λ e. cc, (room, refl, refl))
    ]

abbrev Receives : HubState → ℕ → Option Phase → Bool → List ℕ → Type 0
Receives hub id phase has_file bytes =
    (answer : Result Progress HubFault) × (new : HubState) × (answer ≢ Err Memory) × (answer ≢ Err Source) × receive_step phase has_file hub id bytes answer new

receives_by : (hub : HubState) (id : ℕ) (phase : Option Phase) (has_file : Bool) (bytes : List ℕ) → IsSound hub
    → ((received : List ℕ) → phase ≡ Some (Reading received) → AsksOrWaits (received ++ bytes)) → Receives hub id phase has_file bytes
receives_by hub id None has_file bytes sound read = (Err NoSession, hub, λ e. cc, λ e. cc, (refl, refl))
receives_by hub id (Some phase) false bytes sound read = (Err NoFile, hub, λ e. cc, λ e. cc, (refl, refl))
receives_by hub id (Some (Sending rest)) true bytes sound read = (Ok Ready, hub, λ e. cc, λ e. cc, (refl, refl))
receives_by hub id (Some (Reading received)) true bytes sound read =
    elim (read received refl) [
      | inl asks ↦
          let found = has_response hub.committed (received ++ bytes) asks.0 sound.committed asks.1 in
          (Ok Ready, with_phase id (Sending found.0) hub, λ e. cc, λ e. cc, (found.0, found.1, refl))
      | inr awaited ↦ (Ok More, with_phase id (Reading (received ++ bytes)) hub, λ e. cc, λ e. cc, (awaited, refl))
    ]

pub receives : (hub : HubState) (id : ℕ) (bytes : List ℕ) → IsSound hub
    → ((received : List ℕ) → phase_of hub id ≡ Some (Reading received) → AsksOrWaits (received ++ bytes))
    → Receives hub id (phase_of hub id) hub.has_file bytes
receives hub id bytes sound read = receives_by hub id (phase_of hub id) hub.has_file bytes sound read

abbrev Pulls : HubState → ℕ → Option Phase → Bool → ℕ → Type 0
Pulls hub id phase has_file size =
    (answer : Result Given HubFault) × (new : HubState) × (answer ≢ Err Source) × pull_step phase has_file hub id size answer new

pub pulls : (hub : HubState) (id : ℕ) (phase : Option Phase) (has_file : Bool) (size : ℕ) → Pulls hub id phase has_file size
pulls hub id None has_file size = (Err NoSession, hub, λ e. cc, (refl, refl))
pulls hub id (Some phase) false size = (Err NoFile, hub, λ e. cc, (refl, refl))
pulls hub id (Some (Reading received)) true size = (Ok (record { bytes = []; done = false }), hub, λ e. cc, (refl, refl))
pulls hub id (Some (Sending rest)) true size =
    (Ok (record { bytes = take size rest; done = is_nothing (drop size rest) }), with_phase id (Sending (drop size rest)) hub, λ e. cc, (refl, refl))

pub closes : (hub : HubState) (id : ℕ) (phase : Option Phase) → (answer : Result ⊤ HubFault) × (new : HubState) × close_step phase hub id answer new
closes hub id None = (Err NoSession, hub, (refl, refl))
closes hub id (Some phase) = (Ok tt, without_session id hub, (refl, refl))

-- the codes of the reasons that a rule has
abbrev IsOfTable : Refusal → Type 0
IsOfTable refusal = (2 ≤ code_of refusal) × (code_of refusal ≤ 19)

abbrev Commands : HubState → Command → Type 0
Commands hub command =
    (answer : Result Outcome Refusal) × (new : HubState) × (answer ≢ Err NoRoom) × (answer ≢ Err Disk) × command_step hub command answer new

refused_by : (hub : HubState) (command : Command) (refusal : Refusal) → is_failed hub ≡ false → IsRefused hub command refusal → IsOfTable refusal → Commands hub command
refused_by hub command FailedOf fine refused table = absurd (omega (arith, table.0))
refused_by hub command NoRoom fine refused table = absurd (omega (arith, table.1))
refused_by hub command Disk fine refused table = absurd (omega (arith, table.1))
refused_by hub command LinkOpen fine refused table = (Err LinkOpen, hub, λ e. cc, λ e. cc, (fine, refused, refl))
refused_by hub command NoLink fine refused table = (Err NoLink, hub, λ e. cc, λ e. cc, (fine, refused, refl))
refused_by hub command Empty fine refused table = (Err Empty, hub, λ e. cc, λ e. cc, (fine, refused, refl))
refused_by hub command TooMany fine refused table = (Err TooMany, hub, λ e. cc, λ e. cc, (fine, refused, refl))
refused_by hub command SerialTaken fine refused table = (Err SerialTaken, hub, λ e. cc, λ e. cc, (fine, refused, refl))
refused_by hub command NoHeader fine refused table = (Err NoHeader, hub, λ e. cc, λ e. cc, (fine, refused, refl))
refused_by hub command HeadTooLong fine refused table = (Err HeadTooLong, hub, λ e. cc, λ e. cc, (fine, refused, refl))
refused_by hub command PacketTooLong fine refused table = (Err PacketTooLong, hub, λ e. cc, λ e. cc, (fine, refused, refl))
refused_by hub command BadType fine refused table = (Err BadType, hub, λ e. cc, λ e. cc, (fine, refused, refl))
refused_by hub command BadRate fine refused table = (Err BadRate, hub, λ e. cc, λ e. cc, (fine, refused, refl))
refused_by hub command UnknownSerial fine refused table = (Err UnknownSerial, hub, λ e. cc, λ e. cc, (fine, refused, refl))
refused_by hub command StreamEnded fine refused table = (Err StreamEnded, hub, λ e. cc, λ e. cc, (fine, refused, refl))
refused_by hub command PositionRange fine refused table = (Err PositionRange, hub, λ e. cc, λ e. cc, (fine, refused, refl))
refused_by hub command PositionBack fine refused table = (Err PositionBack, hub, λ e. cc, λ e. cc, (fine, refused, refl))
refused_by hub command BatchTooLong fine refused table = (Err BatchTooLong, hub, λ e. cc, λ e. cc, (fine, refused, refl))
refused_by hub command SequenceEnd fine refused table = (Err SequenceEnd, hub, λ e. cc, λ e. cc, (fine, refused, refl))
refused_by hub command LinksFull fine refused table = (Err LinksFull, hub, λ e. cc, λ e. cc, (fine, refused, refl))
refused_by hub command FileFull fine refused table = (Err FileFull, hub, λ e. cc, λ e. cc, (fine, refused, refl))

module _ (of_table : (chain : ChainState) (command : Command) (refusal : Refusal) → decision chain command ≡ Err refusal → IsOfTable refusal) where
  decided : (hub : HubState) (command : Command) (links : List (List Page)) → is_failed hub ≡ false → AreLinks (hub.committed ++ hub.held) links
      → (answer : Result ℕ Refusal) → decision (chain_state_of links) command ≡ answer → Commands hub command
  decided hub command links fine are (Err refusal) e =
      refused_by hub command refusal fine (links, are, e) (of_table (chain_state_of links) command refusal e)
  decided hub command links fine are (Ok size) e =
      let ok : IsOk (decision (chain_state_of links) command) = subst (λ (d : Result ℕ Refusal). IsOk d) (sym e) refl in
      let added : List ℕ = command_bytes (chain_state_of links) command in
      elim (cases_lt (hub.waiting + 1) hub.most) [
        | inl less ↦ (Ok (WasHeld (hub.count + 1)), holding added hub, λ x. cc, λ x. cc, (fine, added, (links, are, ok, refl), less, refl, refl))
        | inr full ↦ (
          Ok (WasKept (kept_by (committing (holding added hub)))),
          committing (holding added hub),
          λ x. cc,
          λ x. cc,
          (fine, added, (links, are, ok, refl), full, refl, refl),
        )
      ]

  pub commands : (hub : HubState) (command : Command) → IsSound hub → Commands hub command
  commands hub command sound =
      let holds : Holds (hub.committed ++ hub.held) sound.held.0 = sound.held.1 in
      elim (cases_Bool (is_failed hub)) [
        | inl failed ↦ (Err FailedOf, hub, λ e. cc, λ e. cc, (failed, refl))
        | inr fine ↦ decided hub command holds.0 fine holds.1 (decision (chain_state_of holds.0) command) refl
      ]

pub flushes : (hub : HubState) → (answer : Result Kept Refusal) × (new : HubState) × (answer ≢ Err Disk) × flush_step hub answer new
flushes hub =
    elim (cases_Bool (is_failed hub)) [
      | inl failed ↦ (Err FailedOf, hub, λ e. cc, (failed, refl))
      | inr fine ↦ (Ok (kept_by (committing hub)), committing hub, λ e. cc, (fine, refl, refl))
    ]

pub reopens : (hub : HubState) (found : List ℕ) → MayBeFound hub found
    → (new : HubState) × reopen_step hub (Some found) new × (new.committed ≡ found)
reopens hub found may = (record (without_file hub) { committed = found; in_doubt = None; has_file = true }, (may, refl), refl)
