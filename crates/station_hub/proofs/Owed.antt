-- What a connection is owed.
use Rattle.std.proofs.Common.{◌≡◌, ◌≢◌, ◌⊎◌, ◌&&◌, ℕ, zero, suc, true, false, Bool, Option, Some, None, Result, Ok, Err, List, [], ◌∷◌, ◌++◌, ◌≤◌, length, take, drop, refl, sym, ◌∙◌, ap, subst, inl, inr, append-nil, if◌then◌else◌}
use Rattle.std.proofs.lemmas.List.{take-append-drop, drop-append-le, length-take-le, take-append-le, take-take}
use Rattle.serve_responses.specs.Response.{IsResponse}
use Rattle.serve_machine.specs.Hub.{Event, Given, HubState, Phase, Pull, Reading, Receive, Sending, hub_step, is_nothing, phase_of}
use Rattle.serve_machine.specs.Own.{HasPulled as HasGiven, HasReceived}
use Rattle.serve_machine.specs.Run.{session_of}
use Rattle.serve_machine.specs.declared.fault.HubFault.{HubFault}
use Rattle.serve_machine.specs.declared.answers.Progress.TheVariants.{Ready}
use Rattle.serve_clients.specs.Client.{ClientState, HasWritten, cut, ended_if, given, is_hearing, with_stage}
use Rattle.station_hub.specs.Giving.{HasPulled, Owes, OwesIn, OwesRest, phase_of_client}
use Rattle.serve_clients.specs.declared.client.Stage.{Stage}
use Rattle.serve_clients.specs.declared.client.Stage.TheVariants.{Asking, Offering, Waiting, Feeding, Reading as ReadingOf, Sending as SendingOf, Hearing, Ending, Closing, Cut}

rest_of : (phase : Option Phase) (unsent owed : List ℕ) → OwesRest phase unsent owed
    → (rest : List ℕ) × (phase ≡ Some (Sending rest)) × (owed ≡ unsent ++ rest)
rest_of None unsent owed owes = absurd owes
rest_of (Some (Reading received)) unsent owed owes = absurd owes
rest_of (Some (Sending rest)) unsent owed owes = (rest, refl, owes)

-- a connection whose session sends
sending : (hub : HubState) (client : ClientState) (id : ℕ) (owed : List ℕ) → client.stage ≡ SendingOf → client.session ≡ Some id → Owes hub client owed
    → (rest : List ℕ) × (phase_of hub id ≡ Some (Sending rest)) × (owed ≡ client.unsent ++ rest)
sending hub client id owed stage session owes =
    rest_of (phase_of hub id) client.unsent owed
    (subst (λ (s : Option ℕ). OwesRest (phase_of_client hub s) client.unsent owed) session
    (subst (λ (s : Stage). OwesIn s hub client owed) stage owes))

owes_sending : (hub : HubState) (client : ClientState) (id : ℕ) (rest owed : List ℕ) → client.stage ≡ SendingOf → client.session ≡ Some id
    → phase_of hub id ≡ Some (Sending rest) → owed ≡ client.unsent ++ rest → Owes hub client owed
owes_sending hub client id rest owed stage session phase is =
    subst (λ (s : Stage). OwesIn s hub client owed) (sym stage)
    (subst (λ (s : Option ℕ). OwesRest (phase_of_client hub s) client.unsent owed) (sym session)
    (subst (λ (p : Option Phase). OwesRest p client.unsent owed) (sym phase) is))

pub begins : ((old new : HubState) (id : ℕ) (received bytes : List ℕ) → phase_of old id ≡ Some (Reading received)
    → hub_step old (Receive id bytes (Ok Ready)) new → HasReceived old id (received ++ bytes) Ready new)
    → (before after : HubState) (client : ClientState) (id : ℕ) (received bytes : List ℕ) → phase_of before id ≡ Some (Reading received)
    → hub_step before (Receive id bytes (Ok Ready)) after → client.stage ≡ SendingOf → client.session ≡ Some id → client.unsent ≡ []
    → (response : List ℕ) × IsResponse before.committed (received ++ bytes) response × Owes after client response
begins moves before after client id received bytes reads step stage session none =
    let (response, is, phase) = moves before after id received bytes reads step in
    (response, is, owes_sending after client id response response stage session phase (ap (λ (l : List ℕ). l ++ response) (sym none)))

none_left : (rest : List ℕ) → is_nothing rest ≡ true → rest ≡ []
none_left [] e = refl
none_left (byte ∷ rest) e = cc

-- after a pull that wasn't the last, or that was
after_pull : (after : HubState) (client : ClientState) (id : ℕ) (left : List ℕ) (done : Bool) → done ≡ is_nothing left
    → client.session ≡ Some id → client.unsent ≡ [] → phase_of after id ≡ Some (Sending left)
    → Owes after (with_stage (if done then Ending else SendingOf) client) left
after_pull after client id left true said session none phase = none_left left (sym said) ∙ sym none
after_pull after client id left false said session none phase =
    owes_sending after (with_stage SendingOf client) id left left refl session phase (ap (λ (l : List ℕ). l ++ left) (sym none))

pub pulls : ((old new : HubState) (id size : ℕ) (rest : List ℕ) (given : Given) → phase_of old id ≡ Some (Sending rest)
    → hub_step old (Pull id size (Ok given)) new → HasGiven id rest size given new)
    → (before after : HubState) (client new : ClientState) (id size count : ℕ) (answer : Result Given HubFault) (buffer owed : List ℕ)
    → client.stage ≡ SendingOf → client.session ≡ Some id → client.unsent ≡ [] → hub_step before (Pull id size answer) after
    → HasPulled answer client count buffer new → Owes before client owed
    → (new ≡ cut client) ⊎ ((left : List ℕ) × (owed ≡ take count buffer ++ left) × Owes after new left)
pulls moves before after client new id size count (Err fault) buffer owed stage session none step pulled owes = inl pulled.1
pulls moves before after client new id size count (Ok given) buffer owed stage session none step pulled owes =
    let (rest, phase, is) = sending before client id owed stage session owes in
    let gave = moves before after id size rest given phase step in
    inr (
      drop size rest,
      is ∙ ap (λ (l : List ℕ). l ++ rest) none ∙ sym (take-append-drop size rest) ∙ ap (λ (l : List ℕ). l ++ drop size rest) (sym gave.bytes ∙ pulled.0),
      subst (λ (c : ClientState). Owes after c (drop size rest)) (sym pulled.1) (after_pull after client id (drop size rest) given.done gave.done session none gave.left),
    )

-- what is kept goes in front
keeps_in : (stage : Stage) (hub : HubState) (client : ClientState) (left kept : List ℕ) (room : ℕ) → client.unsent ≡ [] → OwesIn stage hub client left
    → OwesIn stage hub (record client { unsent = kept; room = room }) (kept ++ left)
keeps_in SendingOf hub client left kept room none owes =
    let (rest, phase, is) = rest_of (phase_of_client hub client.session) client.unsent left owes in
    subst (λ (p : Option Phase). OwesRest p kept (kept ++ left)) (sym phase) (ap (λ (l : List ℕ). kept ++ l) (is ∙ ap (λ (l : List ℕ). l ++ rest) none))
keeps_in Ending hub client left kept room none owes = ap (λ (l : List ℕ). kept ++ l) (owes ∙ none) ∙ append-nil kept
keeps_in Asking hub client left kept room none owes = absurd owes
keeps_in Offering hub client left kept room none owes = absurd owes
keeps_in Waiting hub client left kept room none owes = absurd owes
keeps_in Feeding hub client left kept room none owes = absurd owes
keeps_in ReadingOf hub client left kept room none owes = absurd owes
keeps_in Hearing hub client left kept room none owes = absurd owes
keeps_in Closing hub client left kept room none owes = absurd owes
keeps_in Cut hub client left kept room none owes = absurd owes

pub keeps : (hub : HubState) (client : ClientState) (left kept : List ℕ) → client.unsent ≡ [] → Owes hub client left
    → Owes hub (record client { unsent = kept }) (kept ++ left)
keeps hub client left kept none owes = keeps_in client.stage hub client left kept client.room none owes

-- the front of what is kept may go: what follows stays the same
others_in : (stage : Stage) (before after : HubState) (client : ClientState) (id : ℕ) (owed : List ℕ) → client.session ≡ Some id
    → phase_of after id ≡ phase_of before id → OwesIn stage before client owed → OwesIn stage after client owed
others_in SendingOf before after client id owed session same owes =
    subst (λ (p : Option Phase). OwesRest p client.unsent owed)
    (ap (λ (s : Option ℕ). phase_of_client before s) session ∙ sym same ∙ sym (ap (λ (s : Option ℕ). phase_of_client after s) session)) owes
others_in Ending before after client id owed session same owes = owes
others_in Asking before after client id owed session same owes = absurd owes
others_in Offering before after client id owed session same owes = absurd owes
others_in Waiting before after client id owed session same owes = absurd owes
others_in Feeding before after client id owed session same owes = absurd owes
others_in ReadingOf before after client id owed session same owes = absurd owes
others_in Hearing before after client id owed session same owes = absurd owes
others_in Closing before after client id owed session same owes = absurd owes
others_in Cut before after client id owed session same owes = absurd owes

pub others : ((old new : HubState) (event : Event) (id : ℕ) → hub_step old event new → session_of event ≢ Some id → phase_of new id ≡ phase_of old id)
    → (before after : HubState) (event : Event) (client : ClientState) (id : ℕ) (owed : List ℕ) → hub_step before event after
    → client.session ≡ Some id → session_of event ≢ Some id → Owes before client owed → Owes after client owed
others stay before after event client id owed step session apart owes =
    others_in client.stage before after client id owed session (stay before after event id step apart) owes

-- a part of what is kept was written
writes_in : (stage : Stage) (hub : HubState) (client : ClientState) (owed : List ℕ) (count : ℕ) → count ≤ length client.unsent → OwesIn stage hub client owed
    → OwesIn stage hub (record client { unsent = drop count client.unsent }) (drop count owed)
writes_in SendingOf hub client owed count within owes =
    let (rest, phase, is) = rest_of (phase_of_client hub client.session) client.unsent owed owes in
    subst (λ (p : Option Phase). OwesRest p (drop count client.unsent) (drop count owed)) (sym phase)
    (ap (drop count) is ∙ drop-append-le count client.unsent rest within)
writes_in Ending hub client owed count within owes = ap (drop count) owes
writes_in Asking hub client owed count within owes = absurd owes
writes_in Offering hub client owed count within owes = absurd owes
writes_in Waiting hub client owed count within owes = absurd owes
writes_in Feeding hub client owed count within owes = absurd owes
writes_in ReadingOf hub client owed count within owes = absurd owes
writes_in Hearing hub client owed count within owes = absurd owes
writes_in Closing hub client owed count within owes = absurd owes
writes_in Cut hub client owed count within owes = absurd owes

pub writes : (hub : HubState) (client : ClientState) (owed : List ℕ) (count : ℕ) → count ≤ length client.unsent → Owes hub client owed
    → Owes hub (record client { unsent = drop count client.unsent }) (drop count owed)
writes hub client owed count within owes = writes_in client.stage hub client owed count within owes

-- ---- a pull, and what was written of it
either : (P : ClientState → Type 0) (b : Bool) (one other : ClientState) → P one → P other → P (if b then one else other)
either P true one other is_one is_other = is_one
either P false one other is_one is_other = is_other

ended_either : (P : ClientState → Type 0) (b : Bool) (client : ClientState) → P (with_stage Ending client) → P client → P (ended_if b client)
ended_either P true client is_ended is = is_ended
ended_either P false client is_ended is = is

-- what was given only tells since when the peer may take bytes
same_stage : (pulled : ClientState) (count now : ℕ) (ending : Bool) → is_hearing pulled.stage ≡ false
    → (given count ending now pulled).stage ≡ pulled.stage
same_stage pulled zero now ending silent = ap (λ (b : Bool). (ended_if (b && ending) (record pulled { idle = true })).stage) silent
same_stage pulled (suc count) now ending silent = either (λ (client : ClientState). client.stage ≡ pulled.stage) pulled.idle (record pulled { idle = false; since = now }) pulled refl refl

same_session : (pulled : ClientState) (count now : ℕ) (ending : Bool) → (given count ending now pulled).session ≡ pulled.session
same_session pulled zero now ending = ended_either (λ (client : ClientState). client.session ≡ pulled.session) (is_hearing pulled.stage && ending) (record pulled { idle = true }) refl refl
same_session pulled (suc count) now ending = either (λ (client : ClientState). client.session ≡ pulled.session) pulled.idle (record pulled { idle = false; since = now }) pulled refl refl

same_unsent : (pulled : ClientState) (count now : ℕ) (ending : Bool) → (given count ending now pulled).unsent ≡ pulled.unsent
same_unsent pulled zero now ending = ended_either (λ (client : ClientState). client.unsent ≡ pulled.unsent) (is_hearing pulled.stage && ending) (record pulled { idle = true }) refl refl
same_unsent pulled (suc count) now ending = either (λ (client : ClientState). client.unsent ≡ pulled.unsent) pulled.idle (record pulled { idle = false; since = now }) pulled refl refl

-- a connection is owed the same if its stage, its session and what is kept for it stay
same_in : (stage : Stage) (hub : HubState) (one other : ClientState) (owed : List ℕ) → other.session ≡ one.session → other.unsent ≡ one.unsent
    → OwesIn stage hub one owed → OwesIn stage hub other owed
same_in SendingOf hub one other owed session unsent owes =
    subst (λ (s : Option ℕ). OwesRest (phase_of_client hub s) other.unsent owed) (sym session)
    (subst (λ (kept : List ℕ). OwesRest (phase_of_client hub one.session) kept owed) (sym unsent) owes)
same_in Ending hub one other owed session unsent owes = owes ∙ sym unsent
same_in Asking hub one other owed session unsent owes = absurd owes
same_in Offering hub one other owed session unsent owes = absurd owes
same_in Waiting hub one other owed session unsent owes = absurd owes
same_in Feeding hub one other owed session unsent owes = absurd owes
same_in ReadingOf hub one other owed session unsent owes = absurd owes
same_in Hearing hub one other owed session unsent owes = absurd owes
same_in Closing hub one other owed session unsent owes = absurd owes
same_in Cut hub one other owed session unsent owes = absurd owes

owes_same : (hub : HubState) (one other : ClientState) (owed : List ℕ) → other.stage ≡ one.stage → other.session ≡ one.session → other.unsent ≡ one.unsent
    → Owes hub one owed → Owes hub other owed
owes_same hub one other owed stage session unsent owes =
    subst (λ (s : Stage). OwesIn s hub other owed) (sym stage) (same_in one.stage hub one other owed session unsent owes)

-- who was pulled for hears nothing
pulled_silent : (answer : Result Given HubFault) (client pulled : ClientState) (count : ℕ) (buffer : List ℕ) → HasPulled answer client count buffer pulled
    → (is_hearing pulled.stage ≡ false) × (pulled.unsent ≡ client.unsent)
pulled_silent (Err fault) client pulled count buffer is = (ap (λ (one : ClientState). is_hearing one.stage) is.1, ap (λ (one : ClientState). one.unsent) is.1)
pulled_silent (Ok given) client pulled count buffer is =
    (ap (λ (one : ClientState). is_hearing one.stage) is.1 ∙ after_done given.done, ap (λ (one : ClientState). one.unsent) is.1)
  where
    after_done : (done : Bool) → is_hearing (if done then Ending else SendingOf) ≡ false
    after_done true = refl
    after_done false = refl

-- of a connection that is cut nothing more comes
cut_stays : (bytes : List ℕ) (written : ℕ) (old kept : ClientState) → old.stage ≡ Cut → HasWritten bytes written old kept → kept.stage ≡ Cut
cut_stays bytes written old kept is (inl again) = ap (λ (one : ClientState). one.stage) again.1 ∙ is
cut_stays bytes written old kept is (inr (none, inl anew)) = ap (λ (one : ClientState). one.stage) anew ∙ is
cut_stays bytes written old kept is (inr (none, inr (lacks, short))) = ap (λ (one : ClientState). one.stage) short

kept_owes : (after : HubState) (old kept : ClientState) (buffer left owed : List ℕ) (count written : ℕ) → old.unsent ≡ [] → count ≤ length buffer
    → written ≤ count → HasWritten (take count buffer) written old kept → owed ≡ take count buffer ++ left → Owes after old left
    → (kept.stage ≡ Cut) ⊎ ((take written owed ≡ take written buffer) × Owes after kept (drop written owed))
kept_owes after old kept buffer left owed count written none fits within (inl again) split owes = absurd (again.0 none)
kept_owes after old kept buffer left owed count written none fits within (inr (empty, inr (lacks, short))) split owes =
    inl (ap (λ (one : ClientState). one.stage) short)
kept_owes after old kept buffer left owed count written none fits within (inr (empty, inl anew)) split owes =
    let inside : written ≤ length (take count buffer) = subst (λ (n : ℕ). written ≤ n) (sym (length-take-le count buffer fits)) within in
    inr (
      ap (take written) split ∙ take-append-le written (take count buffer) left inside ∙ take-take written count buffer within,
      subst (λ (one : ClientState). Owes after one (drop written owed)) (sym anew)
          (subst (λ (bytes : List ℕ). Owes after (record old { unsent = drop written (take count buffer); room = kept.room }) bytes)
          (sym (ap (drop written) split ∙ drop-append-le written (take count buffer) left inside))
          (keeps_in old.stage after old left (drop written (take count buffer)) kept.room none owes)),
    )

pub exchanges : ((old new : HubState) (id size : ℕ) (rest : List ℕ) (given : Given) → phase_of old id ≡ Some (Sending rest)
    → hub_step old (Pull id size (Ok given)) new → HasGiven id rest size given new)
    → (before after : HubState) (client pulled kept : ClientState) (id size count written now : ℕ) (ending : Bool)
    (answer : Result Given HubFault) (buffer owed : List ℕ) → client.stage ≡ SendingOf → client.session ≡ Some id → client.unsent ≡ []
    → hub_step before (Pull id size answer) after → HasPulled answer client count buffer pulled → count ≤ length buffer → written ≤ count
    → HasWritten (take count buffer) written (given count ending now pulled) kept → Owes before client owed
    → (kept.stage ≡ Cut) ⊎ ((take written owed ≡ take written buffer) × Owes after kept (drop written owed))
exchanges moves before after client pulled kept id size count written now ending answer buffer owed stage session none step is fits within wrote owes =
    let silent = pulled_silent answer client pulled count buffer is in
    let told = given count ending now pulled in
    let told_stage : told.stage ≡ pulled.stage = same_stage pulled count now ending silent.0 in
    let told_unsent : told.unsent ≡ pulled.unsent = same_unsent pulled count now ending in
    elim (pulls moves before after client pulled id size count answer buffer owed stage session none step is owes) [
      | inl is_cut ↦ inl (cut_stays (take count buffer) written told kept (told_stage ∙ ap (λ (one : ClientState). one.stage) is_cut) wrote)
      | inr (left, split, rest) ↦
          kept_owes after told kept buffer left owed count written (told_unsent ∙ silent.1 ∙ none) fits within wrote split
          (owes_same after pulled told left told_stage (same_session pulled count now ending) told_unsent rest)
    ]
