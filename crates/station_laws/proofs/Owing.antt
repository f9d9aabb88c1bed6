-- What a connection is owed that a session answers, over any calls of a station.
use Rattle.std.proofs.Common.{◌≡◌, ◌≢◌, ◌⊎◌, ◌≤◌, ◌&&◌, ℕ, zero, suc, Bool, true, false, Option, Some, None, Ok, Err, List, [], ◌∷◌, ◌++◌, length, take, drop, if◌then◌else◌, refl, sym, ◌∙◌, ap, subst, inl, inr, append_assoc, take-append-drop}
use Rattle.std.specs.Prelude.{nat_eq, ⊤}
use Rattle.std.proofs.lemmas.Bool.{cond-true}
use Rattle.std.proofs.lemmas.List.{take-append-le}
use Rattle.disk_model.specs.declared.disk.Disk.{Ghosts as DiskModel}
use Rattle.serve_clients.specs.Client.{ClientState, HasWritten, after_in, ended_if, given as given_to, is_hearing, with_stage}
use Rattle.serve_clients.specs.declared.client.After.TheVariants.{Shuts}
use Rattle.serve_clients.specs.declared.client.Stage.{Stage}
use Rattle.serve_clients.specs.declared.client.Stage.TheVariants.{Asking, Offering, Waiting, Feeding, Reading, Sending, Hearing, Ending, Closing, Cut}
use Rattle.serve_hub.specs.Showing.{Shows}
use Rattle.serve_machine.specs.Hub.{Connect, Given, HubState, Pull, Reading as IsReading, Receive, Sending as IsSending, hub_step, is_nothing, phase_of}
use Rattle.serve_machine.specs.Own.{AreNumbered, HasPulled as HasGiven, HasReceived}
use Rattle.serve_machine.specs.declared.answers.Progress.{Progress}
use Rattle.slab.specs.Slab.{get}
use Rattle.station_hub.specs.Places.{PlacesState}
use Rattle.station.specs.Asked.{heard}
use Rattle.station_laws.specs.Calling.{After, AreCalls, Call, Closed}
use Rattle.station.specs.Passing.{IsLike, Stays, is_source}
use Rattle.station_laws.specs.Written.{AreApart, AreTold, IsTold, given_after, written, written_by}
use Rattle.station.specs.declared.station.Station.{Station}
use Rattle.station_laws.proofs.Seen.{Again, Answered, Awaited, Connected, Declined, Gave, GaveBy, Heard, Ignored, Kept, Nothing, Offered, Parted, Pulled, Read, SamePhase, Seen, Shut, Told, WasCut, own_key}
use Rattle.station_laws.proofs.Sides.{Laws}
use Rattle.station_laws.proofs.Sights.{sees, written_session}

-- what the laws say of a session's own steps
pub record OwnLaws : Type 0 where
  pub any : Laws
  pub unused : (hub : HubState) → AreNumbered hub → phase_of hub hub.next_id ≡ None
  pub connect : (old new : HubState) (id : ℕ) → hub_step old (Connect (Ok id)) new → phase_of old id ≡ None → phase_of new id ≡ Some (IsReading [])
  pub receive : (old new : HubState) (id : ℕ) (received bytes : List ℕ) (progress : Progress) → phase_of old id ≡ Some (IsReading received)
      → hub_step old (Receive id bytes (Ok progress)) new → HasReceived old id (received ++ bytes) progress new
  pub pull : (old new : HubState) (id size : ℕ) (rest : List ℕ) (given : Given) → phase_of old id ≡ Some (IsSending rest)
      → hub_step old (Pull id size (Ok given)) new → HasGiven id rest size given new

-- ---- what waits to be written of what was given
-- the bytes that were given are the first that are kept; or none are kept, and they are all
abbrev pub WaitsFor : List ℕ → List ℕ → List ℕ → Type 0
WaitsFor unsent given left = ((more : List ℕ) × (unsent ≡ given ++ more) × (left ≡ unsent)) ⊎ ((unsent ≡ []) × (left ≡ given))

nil_front : (front back : List ℕ) → [] ≡ front ++ back → front ≡ []
nil_front [] back e = refl
nil_front (byte ∷ front) back e = cc

pub none_given : (unsent left : List ℕ) → WaitsFor unsent [] left → left ≡ unsent
none_given unsent left (inl (more, is, left_is)) = left_is
none_given unsent left (inr (none, left_is)) = left_is ∙ sym none

pub no_unsent : (unsent given left : List ℕ) → unsent ≡ [] → WaitsFor unsent given left → left ≡ given
no_unsent unsent given left none (inl (more, is, left_is)) =
    left_is ∙ none ∙ sym (nil_front given more (sym none ∙ is))
no_unsent unsent given left none (inr (empty, left_is)) = left_is

pub some_unsent : (unsent given left : List ℕ) → unsent ≢ [] → WaitsFor unsent given left → (more : List ℕ) × (unsent ≡ given ++ more) × (left ≡ unsent)
some_unsent unsent given left some (inl is) = is
some_unsent unsent given left some (inr (none, left_is)) = absurd (some none)

-- nothing is given any longer
pub nothing_given : (unsent : List ℕ) → WaitsFor unsent [] unsent
nothing_given unsent = inl (unsent, refl, refl)

-- ---- what a connection is owed
abbrev pub RestsIn : Stage → HubState → Option ℕ → List ℕ → Type 0
RestsIn Sending machine session rest = (id : ℕ) × (session ≡ Some id) × (phase_of machine id ≡ Some (IsSending rest))
RestsIn Ending machine session rest = rest ≡ []
RestsIn Closing machine session rest = rest ≡ []
RestsIn Cut machine session rest = ⊤
RestsIn stage machine session rest = ⊥

-- it is to be given what waits, and then what is left of the response
pub record IsOwed (machine : HubState) (client : ClientState) (given owed : List ℕ) : Type 0 where
  pub left : List ℕ
  pub rest : List ℕ
  pub waits : WaitsFor client.unsent given left
  pub rests : RestsIn client.stage machine client.session rest
  pub is : owed ≡ left ++ rest

rests_on : (stage : Stage) (before after : HubState) (session : Option ℕ) (rest : List ℕ)
    → ((id : ℕ) → session ≡ Some id → phase_of after id ≡ phase_of before id) → RestsIn stage before session rest → RestsIn stage after session rest
rests_on Sending before after session rest same (id, of, phase) = (id, of, same id of ∙ phase)
rests_on Ending before after session rest same rests = rests
rests_on Closing before after session rest same rests = rests
rests_on Cut before after session rest same rests = tt
rests_on Asking before after session rest same rests = absurd rests
rests_on Offering before after session rest same rests = absurd rests
rests_on Waiting before after session rest same rests = absurd rests
rests_on Feeding before after session rest same rests = absurd rests
rests_on Reading before after session rest same rests = absurd rests
rests_on Hearing before after session rest same rests = absurd rests

pub to_stage : (one other : Stage) (machine : HubState) (session later : Option ℕ) (rest : List ℕ) → other ≡ one → later ≡ session
    → RestsIn one machine session rest → RestsIn other machine later rest
to_stage one other machine session later rest stages sessions rests =
    subst (λ (stage : Stage). RestsIn stage machine later rest) (sym stages) (subst (λ (s : Option ℕ). RestsIn one machine s rest) (sym sessions) rests)

to_cut : (stage : Stage) (machine : HubState) (session : Option ℕ) (rest : List ℕ) → stage ≡ Cut → RestsIn stage machine session rest
to_cut stage machine session rest is = subst (λ (s : Stage). RestsIn s machine session rest) (sym is) tt

owed_like : (before after : HubState) (old new : ClientState) (given owed : List ℕ) → IsLike old new → SamePhase old before after
    → IsOwed before old given owed → IsOwed after new given owed
owed_like before after old new given owed same phases owes = record {
  left = owes.left;
  rest = owes.rest;
  waits = subst (λ (unsent : List ℕ). WaitsFor unsent given owes.left) (sym same.3) owes.waits;
  rests = to_stage old.stage new.stage after old.session new.session owes.rest same.0 same.1
      (rests_on old.stage before after old.session owes.rest phases owes.rests);
  is = owes.is;
}

owed_cut : (before after : HubState) (old new : ClientState) (given owed : List ℕ) → new.stage ≡ Cut → new.unsent ≡ old.unsent
    → IsOwed before old given owed → IsOwed after new given owed
owed_cut before after old new given owed is unsent owes = record {
  left = owes.left;
  rest = owes.rest;
  waits = subst (λ (bytes : List ℕ). WaitsFor bytes given owes.left) (sym unsent) owes.waits;
  rests = to_cut new.stage after new.session owes.rest is;
  is = owes.is;
}

owed_stays : (before after : HubState) (old new : ClientState) (given owed : List ℕ) → Stays old new → SamePhase old before after
    → IsOwed before old given owed → IsOwed after new given owed
owed_stays before after old new given owed (inl same) phases owes = owed_like before after old new given owed same phases owes
owed_stays before after old new given owed (inr is) phases owes = owed_cut before after old new given owed is.0 is.3 owes

-- nothing is owed to a connection that is cut before its head is complete
pub owes_nothing : (machine : HubState) (client : ClientState) → client.stage ≡ Cut → client.unsent ≡ [] → IsOwed machine client [] []
owes_nothing machine client is none = record {
  left = [];
  rest = [];
  waits = inr (none, refl);
  rests = to_cut client.stage machine client.session [] is;
  is = refl;
}

-- ---- so many bytes were written
written_of : (machine : HubState) (old mid : ClientState) (bytes given owed : List ℕ) (count : ℕ) → bytes ≡ given → count ≤ length given
    → HasWritten bytes count old mid → IsOwed machine old given owed
    → (left : List ℕ) × (owed ≡ take count bytes ++ left) × IsOwed machine mid [] left
written_of machine old mid bytes given owed count same within (inl (some, again)) owes =
    let (more, unsent, left_is) = some_unsent old.unsent given owes.left some owes.waits in
    let kept = drop count old.unsent in
    let front : take count old.unsent ≡ take count bytes =
    ap (take count) unsent ∙ take-append-le count given more within ∙ ap (take count) (sym same) in (
      kept ++ owes.rest,
      owes.is ∙ ap (λ (l : List ℕ). l ++ owes.rest) (left_is ∙ sym (take-append-drop count old.unsent) ∙ ap (λ (l : List ℕ). l ++ kept) front)
          ∙ append_assoc (take count bytes) kept owes.rest,
      subst (λ (one : ClientState). IsOwed machine one [] (kept ++ owes.rest)) (sym again)
          (record { left = kept; rest = owes.rest; waits = nothing_given kept; rests = owes.rests; is = refl }),
    )
written_of machine old mid bytes given owed count same within (inr (none, inl anew)) owes =
    let kept = drop count bytes in (
      kept ++ owes.rest,
      owes.is ∙ ap (λ (l : List ℕ). l ++ owes.rest) (no_unsent old.unsent given owes.left none owes.waits ∙ sym same ∙ sym (take-append-drop count bytes))
          ∙ append_assoc (take count bytes) kept owes.rest,
      subst (λ (one : ClientState). IsOwed machine one [] (kept ++ owes.rest)) (sym anew)
          (record { left = kept; rest = owes.rest; waits = nothing_given kept; rests = owes.rests; is = refl }),
    )
written_of machine old mid bytes given owed count same within (inr (none, inr (lacks, short))) owes =
    let kept = drop count bytes in (
      kept ++ owes.rest,
      owes.is ∙ ap (λ (l : List ℕ). l ++ owes.rest) (no_unsent old.unsent given owes.left none owes.waits ∙ sym same ∙ sym (take-append-drop count bytes))
          ∙ append_assoc (take count bytes) kept owes.rest,
      subst (λ (one : ClientState). IsOwed machine one [] (kept ++ owes.rest)) (sym short)
          (record { left = []; rest = kept ++ owes.rest; waits = inr (none, refl); rests = tt; is = refl }),
    )

-- ---- bytes that are given
none_left : (rest : List ℕ) → is_nothing rest ≡ true → rest ≡ []
none_left [] e = refl
none_left (byte ∷ rest) e = cc

after_done : (done : Bool) (machine : HubState) (id : ℕ) (session : Option ℕ) (rest : List ℕ) → done ≡ is_nothing rest → session ≡ Some id
    → phase_of machine id ≡ Some (IsSending rest) → RestsIn (if done then Ending else Sending) machine session rest
after_done true machine id session rest said of phase = none_left rest (sym said)
after_done false machine id session rest said of phase = (id, of, phase)

-- who is owed a response hears nothing
silent : (stage : Stage) (machine : HubState) (session : Option ℕ) (rest : List ℕ) → RestsIn stage machine session rest → is_hearing stage ≡ false
silent Sending machine session rest rests = refl
silent Ending machine session rest rests = refl
silent Closing machine session rest rests = refl
silent Cut machine session rest rests = refl
silent Asking machine session rest rests = refl
silent Offering machine session rest rests = refl
silent Waiting machine session rest rests = refl
silent Feeding machine session rest rests = refl
silent Reading machine session rest rests = refl
silent Hearing machine session rest rests = absurd rests

-- what was given only tells since when the peer may take bytes
pub given_like : (count now : ℕ) (ending : Bool) (client : ClientState) → is_hearing client.stage ≡ false → IsLike client (given_to count ending now client)
given_like zero now ending client deaf =
    subst (λ (b : Bool). IsLike client (ended_if (b && ending) (record client { idle = true }))) (sym deaf) (refl, refl, refl, refl, refl)
given_like (suc count) now ending client deaf = either client.idle
  where
    either : (b : Bool) → IsLike client (if b then record client { idle = false; since = now } else client)
    either true = (refl, refl, refl, refl, refl)
    either false = (refl, refl, refl, refl, refl)

hears_not : (stage : Stage) (machine : HubState) (session : Option ℕ) (rest : List ℕ) → RestsIn stage machine session rest → stage ≡ Hearing → ⊥
hears_not stage machine session rest rests is = subst (λ (s : Stage). RestsIn s machine session rest) is rests

sending_of : (client : ClientState) (machine : HubState) (id : ℕ) (rest : List ℕ) → client.stage ≡ Sending → client.session ≡ Some id
    → RestsIn client.stage machine client.session rest → phase_of machine id ≡ Some (IsSending rest)
sending_of client machine id rest stage session rests =
    let (other, of, phase) = subst (λ (s : Stage). RestsIn s machine client.session rest) stage rests in
    subst (λ (one : ℕ). phase_of machine one ≡ Some (IsSending rest)) (same_some other id (sym of ∙ session)) phase
  where
    same_some : (one two : ℕ) → Some one ≡ Some two → one ≡ two
    same_some one two e = cc

given_owed : OwnLaws → (before after : HubState) (client mid : ClientState) (size count : ℕ) (buffer owed : List ℕ) → GaveBy before after client size count buffer mid
    → IsOwed before client [] owed → IsOwed after mid (take count buffer) owed × (is_hearing mid.stage ≡ false)
given_owed laws before after client mid size count buffer owed (Again some same bytes stays) owes =
    let left_is = none_given client.unsent owes.left owes.waits in (
      subst (λ (machine : HubState). IsOwed machine mid (take count buffer) owed) (sym stays)
          (subst (λ (one : ClientState). IsOwed before one (take count buffer) owed) (sym same)
          (record {
            left = owes.left;
            rest = owes.rest;
            waits = inl (drop size client.unsent, sym (take-append-drop size client.unsent) ∙ ap (λ (l : List ℕ). l ++ drop size client.unsent) (sym bytes), left_is);
            rests = owes.rests;
            is = owes.is;
          })),
      ap (λ (one : ClientState). is_hearing one.stage) same ∙ silent client.stage before client.session owes.rest owes.rests,
    )
given_owed laws before after client mid size count buffer owed (Pulled id (Err fault) none sends of step pulled) owes = (
  record {
    left = [];
    rest = owed;
    waits = inr (ap (λ (one : ClientState). one.unsent) pulled.1 ∙ none, sym (ap (λ (n : ℕ). take n buffer) pulled.0));
    rests = to_cut mid.stage after mid.session owed (ap (λ (one : ClientState). one.stage) pulled.1);
    is = refl;
  },
  ap (λ (one : ClientState). is_hearing one.stage) pulled.1,
)
given_owed laws before after client mid size count buffer owed (Pulled id (Ok gave) none sends of step pulled) owes =
    let phase = sending_of client before id owes.rest sends of owes.rests in
    let given = laws.pull before after id size owes.rest gave phase step in
    let stage : mid.stage ≡ (if gave.done then Ending else Sending) = ap (λ (one : ClientState). one.stage) pulled.1 in
    let session : mid.session ≡ client.session = ap (λ (one : ClientState). one.session) pulled.1 in
    let left_is : owes.left ≡ [] = none_given client.unsent owes.left owes.waits ∙ none in (
      record {
        left = take count buffer;
        rest = drop size owes.rest;
        waits = inr (ap (λ (one : ClientState). one.unsent) pulled.1 ∙ none, refl);
        rests = to_stage (if gave.done then Ending else Sending) mid.stage after client.session mid.session (drop size owes.rest) stage session
            (after_done gave.done after id client.session (drop size owes.rest) given.done of given.left);
        is = owes.is ∙ ap (λ (l : List ℕ). l ++ owes.rest) left_is ∙ sym (take-append-drop size owes.rest)
            ∙ ap (λ (l : List ℕ). l ++ drop size owes.rest) (sym given.bytes ∙ pulled.0);
      },
      ap is_hearing stage ∙ deaf gave.done,
    )
  where
    deaf : (done : Bool) → is_hearing (if done then Ending else Sending) ≡ false
    deaf true = refl
    deaf false = refl
given_owed laws before after client mid size count buffer owed (Heard none hears stays session stage heard) owes =
    absurd (hears_not client.stage before client.session owes.rest owes.rests hears)
given_owed laws before after client mid size count buffer owed (Nothing none nothing same stays) owes = (
  subst (λ (bytes : List ℕ). IsOwed after mid bytes owed) (sym (ap (λ (n : ℕ). take n buffer) nothing))
      (subst (λ (machine : HubState). IsOwed machine mid [] owed) (sym stays) (subst (λ (one : ClientState). IsOwed before one [] owed) (sym same) owes)),
  ap (λ (one : ClientState). is_hearing one.stage) same ∙ silent client.stage before client.session owes.rest owes.rests,
)

-- ---- a call, and a connection that is owed its response
pub closed_not : (key : ℕ) (given : List ℕ) (call : Call) → call ≡ Closed key → IsTold key given call → ⊥
closed_not key given call is told = (subst (IsTold key given) is told) refl

pub shuts_at : (stage : Stage) (unsent : List ℕ) → after_in stage unsent ≡ Shuts → stage ≡ Ending
shuts_at Ending unsent e = refl
shuts_at Cut unsent e = cc
shuts_at Asking unsent e = cc
shuts_at Offering unsent e = cc
shuts_at Waiting unsent e = cc
shuts_at Feeding unsent e = cc
shuts_at Reading unsent e = cc
shuts_at Sending unsent e = cc
shuts_at Hearing unsent e = cc
shuts_at Closing unsent e = cc

no_source : (stage : Stage) (machine : HubState) (session : Option ℕ) (rest : List ℕ) → RestsIn stage machine session rest → is_source stage ≡ true → ⊥
no_source Sending machine session rest rests e = cc
no_source Ending machine session rest rests e = cc
no_source Closing machine session rest rests e = cc
no_source Cut machine session rest rests e = cc
no_source Asking machine session rest rests e = absurd rests
no_source Offering machine session rest rests e = absurd rests
no_source Waiting machine session rest rests e = absurd rests
no_source Feeding machine session rest rests e = absurd rests
no_source Reading machine session rest rests e = absurd rests
no_source Hearing machine session rest rests e = absurd rests

asks_not : (stage : Stage) (machine : HubState) (session : Option ℕ) (rest : List ℕ) → RestsIn stage machine session rest → stage ≡ Asking → ⊥
asks_not stage machine session rest rests is = subst (λ (s : Stage). RestsIn s machine session rest) is rests

reads_not : (stage : Stage) (machine : HubState) (session : Option ℕ) (rest : List ℕ) → RestsIn stage machine session rest → stage ≡ Reading → ⊥
reads_not stage machine session rest rests is = subst (λ (s : Stage). RestsIn s machine session rest) is rests

-- what is owed then, after what was written by the call
abbrev OwesOn : HubState → ClientState → List ℕ → List ℕ → List ℕ → Type 0
OwesOn machine client given written owed = (left : List ℕ) × (owed ≡ written ++ left) × IsOwed machine client given left

nothing_written : (machine : HubState) (client : ClientState) (given written owed : List ℕ) → written ≡ [] → IsOwed machine client given owed
    → OwesOn machine client given written owed
nothing_written machine client given written owed none owes = (owed, ap (λ (l : List ℕ). l ++ owed) (sym none), owes)

pub with_given : (machine : HubState) (client : ClientState) (given other owed : List ℕ) → other ≡ given → IsOwed machine client given owed
    → IsOwed machine client other owed
with_given machine client given other owed same owes = subst (λ (bytes : List ℕ). IsOwed machine client bytes owed) (sym same) owes

owed_seen : OwnLaws → (key : ℕ) (call : Call) (places : PlacesState) (before after : HubState) (old new : ClientState) (given owed : List ℕ) → Seen key call places before after old new
    → IsTold key given call → IsOwed before old given owed → OwesOn after new (given_after key given call) (written_by key call) owed
owed_seen laws key call places before after old new given owed (Kept same phases aside) told owes =
    nothing_written after new (given_after key given call) (written_by key call) owed aside.written
    (with_given after new given (given_after key given call) owed (aside.given given) (owed_like before after old new given owed same phases owes))
owed_seen laws key call places before after old new given owed (WasCut is session unsent written kept) told owes =
    nothing_written after new (given_after key given call) (written_by key call) owed written
    (with_given after new given (given_after key given call) owed (kept given) (owed_cut before after old new given owed is unsent owes))
owed_seen laws key call places before after old new given owed (Ignored why same phases written kept) told owes =
    nothing_written after new (given_after key given call) (written_by key call) owed written
    (with_given after new given (given_after key given call) owed (kept given) (owed_like before after old new given owed same phases owes))
owed_seen laws key call places before after old new given owed (Offered bytes now is asks source session none) told owes =
    absurd (asks_not old.stage before old.session owes.rest owes.rests asks)
owed_seen laws key call places before after old new given owed (Answered bytes now resource head is asks own answered joins same) told owes =
    absurd (asks_not old.stage before old.session owes.rest owes.rests asks)
owed_seen laws key call places before after old new given owed (Declined bytes now is asks last) told owes =
    absurd (asks_not old.stage before old.session owes.rest owes.rests asks)
owed_seen laws key call places before after old new given owed (Parted source session none) told owes =
    absurd (no_source old.stage before old.session owes.rest owes.rests source)
owed_seen laws key call places before after old new given owed (Shut shuts same phases aside) told owes =
    let ends : old.stage ≡ Ending = shuts_at old.stage old.unsent shuts in
    let rests : owes.rest ≡ [] = to_stage old.stage Ending before old.session old.session owes.rest (sym ends) refl owes.rests in
    let closes : IsOwed before (with_stage Closing old) given owed =
    record { left = owes.left; rest = owes.rest; waits = owes.waits; rests = rests; is = owes.is } in
    nothing_written after new (given_after key given call) (written_by key call) owed aside.written
    (with_given after new given (given_after key given call) owed (aside.given given) (owed_like before after (with_stage Closing old) new given owed same phases closes))
owed_seen laws key call places before after old new given owed (Awaited bytes now is asks becomes) told owes =
    absurd (asks_not old.stage before old.session owes.rest owes.rests asks)
owed_seen laws key call places before after old new given owed (Connected bytes now id progress between is asks connects receives becomes) told owes =
    absurd (asks_not old.stage before old.session owes.rest owes.rests asks)
owed_seen laws key call places before after old new given owed (Read bytes now id progress is reads of receives becomes) told owes =
    absurd (reads_not old.stage before old.session owes.rest owes.rests reads)
owed_seen laws key call places before after old new given owed (Gave size now count buffer mid ending is by becomes) told owes =
    let none : given ≡ [] = (subst (IsTold key given) is told) refl in
    let (gave, deaf) = given_owed laws before after old mid size count buffer owed by (with_given before old given [] owed (sym none) owes) in
    let next : given_after key given call ≡ take count buffer =
    ap (given_after key given) is ∙ cond-true (nat_eq key key) (take count buffer) given (own_key key) in
    nothing_written after new (given_after key given call) (written_by key call) owed (ap (written_by key) is)
    (with_given after new (take count buffer) (given_after key given call) owed next
    (subst (λ (one : ClientState). IsOwed after one (take count buffer) owed) (sym becomes)
    (owed_like after after mid (given_to count ending now mid) (take count buffer) owed (given_like count now ending mid deaf) (λ id of. refl) gave)))
owed_seen laws key call places before after old new given owed (Told bytes count mid tells written stays phases) told owes =
    let (same, within) = tells.told given told in
    let (left, front, kept) = written_of before old mid bytes given owed count same within written owes in (
      left,
      front ∙ ap (λ (l : List ℕ). l ++ left) (sym tells.written),
      with_given after new [] (given_after key given call) left (tells.given given)
          (owed_stays before after mid new [] left stays (λ id of. phases id (sym (written_session bytes count old mid written) ∙ of)) kept),
    )

-- ---- over all calls
module _ {D : Type 0} (model : DiskModel D) (laws : OwnLaws) where
  -- what is written is the front of what is owed
  pub owed_all : (key : ℕ) (calls : List (After D)) (old : Station D) (machine : HubState) (client : ClientState) (given owed : List ℕ)
      → AreCalls model old calls → AreTold key given calls → Shows model old.live.hub machine → AreApart machine old.clients.slots
      → get old.clients.slots key ≡ Some client → IsOwed machine client given owed → (left : List ℕ) × (owed ≡ written key calls ++ left)
  owed_all key [] old machine client given owed are told shown apart found owes = (owed, refl)
  owed_all key (one ∷ later) old machine client given owed are told shown apart found owes =
      let sight = sees model laws.any key one.call old one.after machine are.0 shown apart in
      elim (sight.seen client found) [
        | inl closed ↦ absurd (closed_not key given one.call closed told.0)
        | inr (after, left, seen) ↦
            let (rest, front, on) = owed_seen laws key one.call old.live.places machine sight.machine client after given owed seen told.0 owes in
            let (end, back) = owed_all key later one.after sight.machine after (given_after key given one.call) rest are.1 told.1 sight.shown sight.apart left on in
            (end, front ∙ ap (λ (l : List ℕ). written_by key one.call ++ l) back ∙ sym (append_assoc (written_by key one.call) (written key later) end))
      ]
