-- What a connection sees of a call, while its head comes.
use Rattle.std.proofs.Common.{◌≡◌, ◌≢◌, ◌⊎◌, ◌&&◌, ℕ, zero, suc, Bool, true, false, Option, Some, None, Result, Ok, List, [], ◌++◌, take, drop, if◌then◌else◌, refl, sym, ◌∙◌, ap, subst, inl, inr}
use Rattle.std.specs.Prelude.{nat_eq}
use Rattle.std.proofs.lemmas.Bool.{cond-true}
use Rattle.serve_clients.specs.Client.{ClientState, HasLast, HasWritten, ended_if, given as given_to, is_hearing, with_stage}
use Rattle.serve_clients.specs.declared.client.Stage.{Stage}
use Rattle.serve_clients.specs.declared.client.Stage.TheVariants.{Asking, Reading, Sending, Ending, Cut}
use Rattle.serve_machine.specs.Hub.{Connect, HubState, Reading as IsReading, Receive, Sending as IsSending, hub_step, phase_of}
use Rattle.serve_machine.specs.declared.answers.Progress.{Progress}
use Rattle.serve_machine.specs.declared.fault.HubFault.{HubFault}
use Rattle.station_hub.specs.Asking.{stage_after}
use Rattle.serve_sources.specs.Asking.{IsOwn, is_source as is_source_head}
use Rattle.serve_sources.specs.declared.own.OwnResource.{OwnResource}
use Rattle.station_hub.specs.Places.{PlacesState}
use Rattle.serve_sources.specs.declared.answers.TheConstants.{FULL}
use Rattle.station.specs.Asked.{IsAnswered, heard, moved}
use Rattle.station_laws.specs.Calling.{Call, Received}
use Rattle.station.specs.Passing.{IsLike, Stays, expects_nothing, is_source}
use Rattle.station_laws.specs.Written.{IsTold, given_after, received_by, written, written_by}
use Rattle.station.specs.PassingLaws.{given_session, stays_session, stays_then}
use Rattle.station_laws.proofs.Seen.{Again, Answered, Awaited, Connected, Declined, Gave, Heard, Ignored, JoinsHere, Kept, Nothing, Offered, Parted, Pulled, Read, SamePhase, Seen, Shut, Told, WasCut, needs_none, own_key}
use Rattle.station_laws.proofs.Sights.{written_session}
use Rattle.station_laws.proofs.Owing.{IsOwed, given_like, shuts_at, to_stage}

-- what a session becomes that has taken bytes, by the progress
pub owed_whole : (machine : HubState) (client : ClientState) (id : ℕ) (response : List ℕ) → client.stage ≡ Sending → client.session ≡ Some id → client.unsent ≡ []
    → phase_of machine id ≡ Some (IsSending response) → IsOwed machine client [] response
owed_whole machine client id response sends of none phase = record {
  left = [];
  rest = response;
  waits = inr (none, refl);
  rests = to_stage Sending client.stage machine client.session client.session response sends refl (id, of, phase);
  is = refl;
}

-- the session has taken bytes, of which this was complete or not
abbrev pub IsReadingOn : HubState → ClientState → List ℕ → Type 0
IsReadingOn machine client received =
    (client.stage ≡ Reading) × (client.unsent ≡ []) × ((id : ℕ) × (client.session ≡ Some id) × (phase_of machine id ≡ Some (IsReading received)))

pub reads_on : (before after : HubState) (old new : ClientState) (received : List ℕ) → IsLike old new → SamePhase old before after
    → IsReadingOn before old received → IsReadingOn after new received
reads_on before after old new received same phases (reads, none, (id, of, phase)) =
    (same.0 ∙ reads, same.3 ∙ none, (id, same.1 ∙ of, phases id of ∙ phase))

-- what was written of nothing
nothing_of : (bytes : List ℕ) (count : ℕ) → bytes ≡ [] → take count bytes ≡ []
nothing_of bytes zero none = refl
nothing_of bytes (suc count) none = ap (take (suc count)) none

nothing_kept : (bytes : List ℕ) (count : ℕ) (old mid : ClientState) → bytes ≡ [] → old.unsent ≡ [] → HasWritten bytes count old mid
    → Stays old mid × (mid.unsent ≡ [])
nothing_kept bytes count old mid nothing none (inl (some, again)) = absurd (some none)
nothing_kept bytes count old mid nothing none (inr (empty, inl anew)) =
    let left : drop count bytes ≡ [] = drop_nothing count bytes nothing in (
      inl (
        ap (λ (one : ClientState). one.stage) anew,
        ap (λ (one : ClientState). one.session) anew,
        ap (λ (one : ClientState). one.head) anew,
        ap (λ (one : ClientState). one.unsent) anew ∙ left ∙ sym none,
        ap (λ (one : ClientState). one.listener) anew,
      ),
      ap (λ (one : ClientState). one.unsent) anew ∙ left,
    )
  where
    drop_nothing : (n : ℕ) (none : List ℕ) → none ≡ [] → drop n none ≡ []
    drop_nothing zero none is = is
    drop_nothing (suc n) none is = ap (drop (suc n)) is
nothing_kept bytes count old mid nothing none (inr (empty, inr (lacks, short))) = (
  inr (
    ap (λ (one : ClientState). one.stage) short,
    ap (λ (one : ClientState). one.session) short,
    ap (λ (one : ClientState). one.head) short,
    ap (λ (one : ClientState). one.unsent) short,
    ap (λ (one : ClientState). one.listener) short,
  ),
  ap (λ (one : ClientState). one.unsent) short ∙ none,
)

-- ---- a call that comes before the head is complete
is_early : Stage → Bool
is_early Asking = true
is_early Reading = true
is_early stage = false

abbrev IsEarly : Stage → Type 0
IsEarly stage = (stage ≡ Asking) ⊎ (stage ≡ Reading)

true_false : false ≡ true → ⊥
true_false e = cc

early_not : (f : Stage → Bool) (stage : Stage) → f Asking ≡ false → f Reading ≡ false → IsEarly stage → f stage ≡ true → ⊥
early_not f stage asks reads (inl is) e = true_false (sym asks ∙ sym (ap f is) ∙ e)
early_not f stage asks reads (inr is) e = true_false (sym reads ∙ sym (ap f is) ∙ e)

early_deaf : (stage : Stage) → IsEarly stage → is_hearing stage ≡ false
early_deaf stage (inl is) = ap is_hearing is
early_deaf stage (inr is) = ap is_hearing is

abbrev is_at_end : Stage → Bool
is_at_end Ending = true
is_at_end stage = false

abbrev is_sending : Stage → Bool
is_sending Sending = true
is_sending stage = false

-- The connection is as it was, or was cut, or isn't the hub's. Or the call is one of its head's.
pub data Early (key : ℕ) (call : Call) (places : PlacesState) (before after : HubState) (old new : ClientState) (given : List ℕ) : Type 0 where
  Same : IsLike old new → SamePhase old before after → written_by key call ≡ [] → received_by key call ≡ [] → given_after key given call ≡ []
      → Early key call places before after old new given
  Gone : new.stage ≡ Cut → new.unsent ≡ [] → written_by key call ≡ [] → given_after key given call ≡ [] → Early key call places before after old new given
  Offers : (bytes : List ℕ) (now : ℕ) → call ≡ Received key bytes now → old.stage ≡ Asking → is_source_head (old.head ++ bytes) ≡ true
      → new.session ≡ old.session → needs_none new.stage ≡ true → Early key call places before after old new given
  Replies : (bytes : List ℕ) (now : ℕ) (resource : OwnResource) (head : Bool) → call ≡ Received key bytes now → old.stage ≡ Asking
      → IsOwn resource head (old.head ++ bytes) → ((room : ℕ) × IsAnswered resource head (heard room bytes old) new) → JoinsHere resource head places before new
      → after ≡ before → Early key call places before after old new given
  Declines : (bytes : List ℕ) (now : ℕ) → call ≡ Received key bytes now → old.stage ≡ Asking → ((room : ℕ) × HasLast FULL.now (heard room bytes old) new)
      → Early key call places before after old new given
  Awaits : (bytes : List ℕ) (now : ℕ) → call ≡ Received key bytes now → old.stage ≡ Asking → new ≡ heard new.head_room bytes old → Early key call places before after old new given
  Connects : (bytes : List ℕ) (now id : ℕ) (progress : Result Progress HubFault) (between : HubState) → call ≡ Received key bytes now → old.stage ≡ Asking
      → hub_step before (Connect (Ok id)) between → hub_step between (Receive id (old.head ++ bytes) progress) after
      → new ≡ record (heard new.head_room bytes old) { stage = stage_after progress; session = Some id; head = [] } → Early key call places before after old new given
  Reads : (bytes : List ℕ) (now id : ℕ) (progress : Result Progress HubFault) → call ≡ Received key bytes now → old.stage ≡ Reading → old.session ≡ Some id
      → hub_step before (Receive id bytes progress) after → new ≡ with_stage (stage_after progress) (moved old) → Early key call places before after old new given

kept_or_gone : (key : ℕ) (call : Call) (places : PlacesState) (before after : HubState) (old new : ClientState) (given : List ℕ) → Stays old new → SamePhase old before after
    → old.unsent ≡ [] → written_by key call ≡ [] → received_by key call ≡ [] → given_after key given call ≡ [] → Early key call places before after old new given
kept_or_gone key call places before after old new given (inl is) phases none written received nothing = Same is phases written received nothing
kept_or_gone key call places before after old new given (inr is) phases none written received nothing = Gone is.0 (is.3 ∙ none) written nothing

pub early : (key : ℕ) (call : Call) (places : PlacesState) (before after : HubState) (old new : ClientState) (given : List ℕ) → IsEarly old.stage → old.unsent ≡ [] → given ≡ []
    → (old.stage ≡ Reading → old.session ≢ None) → IsTold key given call → Seen key call places before after old new → Early key call places before after old new given
early key call places before after old new given is none nothing connected told (Kept same phases aside) =
    Same same phases aside.written aside.received (aside.given given ∙ nothing)
early key call places before after old new given is none nothing connected told (WasCut cuts session unsent written kept) =
    Gone cuts (unsent ∙ none) written (kept given ∙ nothing)
early key call places before after old new given is none nothing connected told (Ignored (inl expects) same phases written kept) =
    absurd (early_not expects_nothing old.stage refl refl is expects)
early key call places before after old new given is none nothing connected told (Ignored (inr (reads, no_one)) same phases written kept) =
    absurd (connected reads no_one)
early key call places before after old new given is none nothing connected told (Offered bytes now call_is asks source session needs) =
    Offers bytes now call_is asks source session needs
early key call places before after old new given is none nothing connected told (Answered bytes now resource head call_is asks own answered joins same) =
    Replies bytes now resource head call_is asks own answered joins same
early key call places before after old new given is none nothing connected told (Declined bytes now call_is asks last) = Declines bytes now call_is asks last
early key call places before after old new given is none nothing connected told (Parted source session needs) =
    absurd (early_not is_source old.stage refl refl is source)
early key call places before after old new given is none nothing connected told (Shut shuts same phases aside) =
    absurd (early_not is_at_end old.stage refl refl is (ap is_at_end (shuts_at old.stage old.unsent shuts)))
early key call places before after old new given is none nothing connected told (Awaited bytes now call_is asks becomes) = Awaits bytes now call_is asks becomes
early key call places before after old new given is none nothing connected told (Connected bytes now id progress between call_is asks connects receives becomes) =
    Connects bytes now id progress between call_is asks connects receives becomes
early key call places before after old new given is none nothing connected told (Read bytes now id progress call_is reads of receives becomes) =
    Reads bytes now id progress call_is reads of receives becomes
early key call places before after old new given is none nothing connected told (Gave size now count buffer mid ending call_is (Again some same again stays) becomes) =
    absurd (some none)
early key call places before after old new given is none nothing connected told (Gave size now count buffer mid ending call_is (Pulled id answer empty sends of step pulled) becomes) =
    absurd (early_not is_sending old.stage refl refl is (ap is_sending sends))
early key call places before after old new given is none nothing connected told (Gave size now count buffer mid ending call_is (Heard empty hears stays session stage heard) becomes) =
    absurd (early_not is_hearing old.stage refl refl is (ap is_hearing hears))
early key call places before after old new given is none nothing connected told (Gave size now count buffer mid ending call_is (Nothing empty none_given same stays) becomes) =
    Same
    (subst (λ (one : ClientState). IsLike old one) (sym (becomes ∙ ap (given_to count ending now) same)) (given_like count now ending old (early_deaf old.stage is)))
    (λ id of. ap (λ (machine : HubState). phase_of machine id) stays)
    (ap (written_by key) call_is) (ap (received_by key) call_is)
    (ap (given_after key given) call_is ∙ cond-true (nat_eq key key) (take count buffer) given (own_key key) ∙ ap (λ (n : ℕ). take n buffer) none_given)
early key call places before after old new given is none nothing connected told (Told bytes count mid tells written stays phases) =
    let (same, within) = tells.told given told in
    let (kept, unsent) = nothing_kept bytes count old mid (same ∙ nothing) none written in
    kept_or_gone key call places before after old new given (stays_then old mid new kept stays) phases none (tells.written ∙ nothing_of bytes count (same ∙ nothing))
    tells.received (tells.given given)

-- ---- a connection that isn't a session's stays so
never : (stage : Stage) → needs_none stage ≡ true → IsEarly stage → ⊥
never stage e is = early_not needs_none stage refl refl is e

given_needs : (count now : ℕ) (ending : Bool) (client : ClientState) → needs_none client.stage ≡ true → needs_none (given_to count ending now client).stage ≡ true
given_needs zero now ending client needs = ended (is_hearing client.stage && ending)
  where
    ended : (b : Bool) → needs_none (ended_if b (record client { idle = true })).stage ≡ true
    ended true = refl
    ended false = needs
given_needs (suc count) now ending client needs = either client.idle
  where
    either : (b : Bool) → needs_none (if b then record client { idle = false; since = now } else client).stage ≡ true
    either true = needs
    either false = needs

written_needs : (bytes : List ℕ) (count : ℕ) (old mid : ClientState) → HasWritten bytes count old mid → needs_none old.stage ≡ true → needs_none mid.stage ≡ true
written_needs bytes count old mid (inl again) needs = ap (λ (one : ClientState). needs_none one.stage) again.1 ∙ needs
written_needs bytes count old mid (inr (none, inl anew)) needs = ap (λ (one : ClientState). needs_none one.stage) anew ∙ needs
written_needs bytes count old mid (inr (none, inr (lacks, short))) needs = ap (λ (one : ClientState). needs_none one.stage) short

stays_needs : (old new : ClientState) → Stays old new → needs_none old.stage ≡ true → needs_none new.stage ≡ true
stays_needs old new (inl is) needs = ap needs_none is.0 ∙ needs
stays_needs old new (inr is) needs = ap needs_none is.0

pub asks_and_reads : (stage : Stage) → stage ≡ Asking → stage ≡ Reading → ⊥
asks_and_reads stage asks reads = let e : Asking ≡ Reading = sym asks ∙ reads in cc

pub same_number : (one other : ℕ) → Some one ≡ Some other → one ≡ other
same_number one other e = cc

pub no_one : (id : ℕ) (session : Option ℕ) → session ≡ None → session ≡ Some id → ⊥
no_one id session none some = let e : None ≡ Some id = sym none ∙ some in cc

pub apart_seen : (key : ℕ) (call : Call) (places : PlacesState) (before after : HubState) (old new : ClientState) → old.session ≡ None → needs_none old.stage ≡ true
    → Seen key call places before after old new → (new.session ≡ None) × (needs_none new.stage ≡ true)
apart_seen key call places before after old new none needs (Kept same phases aside) = (same.1 ∙ none, ap needs_none same.0 ∙ needs)
apart_seen key call places before after old new none needs (WasCut cuts session unsent written kept) = (session ∙ none, ap needs_none cuts)
apart_seen key call places before after old new none needs (Ignored why same phases written kept) = (same.1 ∙ none, ap needs_none same.0 ∙ needs)
apart_seen key call places before after old new none needs (Parted source session none_needed) = (session ∙ none, none_needed)
apart_seen key call places before after old new none needs (Offered bytes now is asks source session none_needed) = (session ∙ none, none_needed)
apart_seen key call places before after old new none needs (Answered bytes now resource head is asks own answered joins same) = absurd (never old.stage needs (inl asks))
apart_seen key call places before after old new none needs (Declined bytes now is asks last) = absurd (never old.stage needs (inl asks))
apart_seen key call places before after old new none needs (Shut shuts same phases aside) = (same.1 ∙ none, ap needs_none same.0)
apart_seen key call places before after old new none needs (Awaited bytes now is asks becomes) = absurd (never old.stage needs (inl asks))
apart_seen key call places before after old new none needs (Connected bytes now id progress between is asks connects receives becomes) = absurd (never old.stage needs (inl asks))
apart_seen key call places before after old new none needs (Read bytes now id progress is reads of receives becomes) = absurd (never old.stage needs (inr reads))
apart_seen key call places before after old new none needs (Gave size now count buffer mid ending is (Again some same again stays) becomes) =
    let mid_needs = ap (λ (one : ClientState). needs_none one.stage) same ∙ needs in (
      ap (λ (one : ClientState). one.session) becomes ∙ given_session count now ending mid ∙ ap (λ (one : ClientState). one.session) same ∙ none,
      ap (λ (one : ClientState). needs_none one.stage) becomes ∙ given_needs count now ending mid mid_needs,
    )
apart_seen key call places before after old new none needs (Gave size now count buffer mid ending is (Pulled id answer empty sends of step pulled) becomes) =
    absurd (no_one id old.session none of)
apart_seen key call places before after old new none needs (Gave size now count buffer mid ending is (Heard empty hears stays session (inl stage) heard) becomes) = (
  ap (λ (one : ClientState). one.session) becomes ∙ given_session count now ending mid ∙ session ∙ none,
  ap (λ (one : ClientState). needs_none one.stage) becomes ∙ given_needs count now ending mid (ap needs_none stage),
)
apart_seen key call places before after old new none needs (Gave size now count buffer mid ending is (Heard empty hears stays session (inr stage) heard) becomes) = (
  ap (λ (one : ClientState). one.session) becomes ∙ given_session count now ending mid ∙ session ∙ none,
  ap (λ (one : ClientState). needs_none one.stage) becomes ∙ given_needs count now ending mid (ap needs_none stage),
)
apart_seen key call places before after old new none needs (Gave size now count buffer mid ending is (Nothing empty nothing same stays) becomes) =
    let mid_needs = ap (λ (one : ClientState). needs_none one.stage) same ∙ needs in (
      ap (λ (one : ClientState). one.session) becomes ∙ given_session count now ending mid ∙ ap (λ (one : ClientState). one.session) same ∙ none,
      ap (λ (one : ClientState). needs_none one.stage) becomes ∙ given_needs count now ending mid mid_needs,
    )
apart_seen key call places before after old new none needs (Told bytes count mid tells written stays phases) =
    (stays_session mid new stays ∙ written_session bytes count old mid written ∙ none, stays_needs mid new stays (written_needs bytes count old mid written needs))
