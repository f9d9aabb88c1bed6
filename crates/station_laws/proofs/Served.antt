-- A connection's session gets its response, over any calls of a station.
use Rattle.std.proofs.Common.{◌≡◌, ◌⊎◌, ℕ, true, Some, None, Result, Ok, Err, List, [], ◌∷◌, ◌++◌, refl, sym, ◌∙◌, ap, subst, inl, inr, append-nil}
use Rattle.std.specs.Prelude.{nat_eq}
use Rattle.std.proofs.lemmas.Bool.{cond-true}
use Rattle.std.proofs.lemmas.Bool.Decides.{leb_tells}
use Rattle.disk_model.specs.declared.disk.Disk.{Ghosts as DiskModel}
use Rattle.serve_clients.specs.Client.{ClientState, fresh}
use Rattle.serve_clients.specs.declared.client.Stage.TheVariants.{Asking, Sending, Cut}
use Rattle.serve_hub.specs.Showing.{Shows}
use Rattle.serve_machine.specs.Hub.{HubState, Reading as IsReading, Receive, hub_step, phase_of}
use Rattle.serve_machine.specs.Own.{AreNumbered}
use Rattle.serve_machine.specs.declared.answers.Progress.{Progress}
use Rattle.serve_machine.specs.declared.answers.Progress.TheVariants.{More, Ready}
use Rattle.serve_machine.specs.declared.fault.HubFault.{HubFault}
use Rattle.serve_responses.specs.Response.{IsResponse}
use Rattle.slab.specs.Slab.{Slab, get, slab_len}
use Rattle.station_hub.specs.Asking.{stage_after}
use Rattle.station.specs.Asked.{heard}
use Rattle.station_laws.specs.Calling.{Accepted, After, AreCalls, Call, IsAccepted, IsCall, Received, left_by}
use Rattle.station.specs.Passing.{session_in}
use Rattle.station.specs.Turning.{IsTurnedAway}
use Rattle.station_laws.specs.Written.{AreApart, AreTold, Completes, GetsResponse, given_after, received_by, written, written_by}
use Rattle.station.specs.declared.station.Station.{Station}
use Rattle.station.specs.Found.{same_client}
use Rattle.station_laws.proofs.Seen.{needs_none, own_key}
use Rattle.station_laws.proofs.Sights.{answered_session, last_session, sees}
use Rattle.station_laws.proofs.Owing.{IsOwed, OwnLaws, closed_not, owed_all, owes_nothing, with_given}
use Rattle.serve_sources.specs.declared.answers.TheConstants.{FULL}
use Rattle.station_laws.proofs.Early.{Awaits, Connects, Declines, Early, Gone, IsReadingOn, Offers, Reads, Replies, Same, apart_seen, asks_and_reads, early, no_one, owed_whole, reads_on, same_number}

module _ {D : Type 0} (model : DiskModel D) (laws : OwnLaws) where
  -- ---- a connection whose head comes
  -- nothing is written before it is complete
  abbrev pub Gets : ℕ → Station D → List (After D) → List ℕ → Type 0
  Gets key old calls before = (written key calls ≡ []) ⊎ GetsResponse model key old calls before

  nil_owed : (bytes left : List ℕ) → [] ≡ bytes ++ left → bytes ≡ []
  nil_owed [] left e = refl
  nil_owed (byte ∷ bytes) left e = cc

  -- the same from the call before on
  pub one_before : (key : ℕ) (old : Station D) (one : After D) (later : List (After D)) (before next : List ℕ) → written_by key one.call ≡ []
      → next ≡ before ++ received_by key one.call → Gets key one.after later next → Gets key old (one ∷ later) before
  one_before key old one later before next none is (inl nothing) =
      inl (ap (λ (l : List ℕ). l ++ written key later) none ∙ nothing)
  one_before key old one later before next none is (inr gets) = inr (record {
    head = gets.head;
    committed = gets.committed;
    completes = inr (subst (λ (bytes : List ℕ). Completes model key one.after later bytes gets.head gets.committed) is gets.completes);
    response = gets.response;
    is_response = gets.is_response;
    left = gets.left;
    front = gets.front ∙ ap (λ (l : List ℕ). (l ++ written key later) ++ gets.left) (sym none);
  })

  -- the call completed it
  head_complete : (key : ℕ) (old : Station D) (one : After D) (later : List (After D)) (before bytes : List ℕ) (now : ℕ) (from machine : HubState)
      (client : ClientState) (response committed : List ℕ) → one.call ≡ Received key bytes now → Shows model old.live.hub from → committed ≡ from.committed
      → get one.after.clients.slots key ≡ Some client → client.stage ≡ Sending → IsResponse committed (before ++ bytes) response
      → (left : List ℕ) × (response ≡ written key later ++ left) → Gets key old (one ∷ later) before
  head_complete key old one later before bytes now from machine client response committed is shown same found sends is_response (left, front) = inr (record {
    head = before ++ bytes;
    committed = committed;
    completes = inl (record {
      bytes = bytes;
      now = now;
      call = is;
      head_is = refl;
      machine = from;
      shown = shown;
      committed_is = same;
      client = client;
      found = found;
      sends = sends;
    });
    response = response;
    is_response = is_response;
    left = left;
    front = front ∙ ap (λ (l : List ℕ). (l ++ written key later) ++ left) (sym (ap (written_by key) is));
  })

  pub received_is : (key : ℕ) (call : Call) (bytes : List ℕ) (now : ℕ) → call ≡ Received key bytes now → received_by key call ≡ bytes
  received_is key call bytes now is = ap (received_by key) is ∙ cond-true (nat_eq key key) bytes [] (own_key key)

  stays_apart : (key : ℕ) (calls : List (After D)) (old : Station D) (machine : HubState) (client last : ClientState) (given : List ℕ)
      → AreCalls model old calls → AreTold key given calls → Shows model old.live.hub machine → AreApart machine old.clients.slots
      → get old.clients.slots key ≡ Some client → client.session ≡ None → needs_none client.stage ≡ true
      → get (left_by old calls).clients.slots key ≡ Some last → last.session ≡ None
  stays_apart key [] old machine client last given are told shown apart found none needs left =
      ap (λ (one : ClientState). one.session) (same_client last client (sym left ∙ found)) ∙ none
  stays_apart key (one ∷ later) old machine client last given are told shown apart found none needs left =
      let sight = sees model laws.any key one.call old one.after machine are.0 shown apart in
      elim (sight.seen client found) [
        | inl closed ↦ absurd (closed_not key given one.call closed told.0)
        | inr (after, stands, seen) ↦
            let (session, stage) = apart_seen key one.call old.live.places machine sight.machine client after none needs seen in
            stays_apart key later one.after sight.machine after last (given_after key given one.call) are.1 told.1 sight.shown sight.apart stands session stage left
      ]

  -- ---- a call, while the head comes
  -- what is written later is the front of what is owed after the call
  abbrev pub OwesLater : ℕ → List (After D) → HubState → ClientState → List ℕ → Type 0
  OwesLater key later machine client given = (owed : List ℕ) → IsOwed machine client given owed → (left : List ℕ) × (owed ≡ written key later ++ left)

  gone : (key : ℕ) (later : List (After D)) (machine : HubState) (client : ClientState) (given : List ℕ) → client.stage ≡ Cut → client.unsent ≡ [] → given ≡ []
      → OwesLater key later machine client given → written key later ≡ []
  gone key later machine client given cuts none nothing owes =
      let (left, front) = owes [] (with_given machine client [] given [] nothing (owes_nothing machine client cuts none)) in
      nil_owed (written key later) left front

  pub gone_now : (key : ℕ) (old : Station D) (one : After D) (later : List (After D)) (before : List ℕ) (machine : HubState) (client : ClientState) (given : List ℕ)
      → client.stage ≡ Cut → client.unsent ≡ [] → given ≡ [] → written_by key one.call ≡ [] → OwesLater key later machine client given
      → Gets key old (one ∷ later) before
  gone_now key old one later before machine client given cuts none nothing unwritten owes =
      inl (ap (λ (l : List ℕ). l ++ written key later) unwritten ∙ gone key later machine client given cuts none nothing owes)

  -- the session has taken bytes of the head
  pub taken : (progress : Result Progress HubFault) (key : ℕ) (old : Station D) (one : After D) (later : List (After D)) (before bytes received more : List ℕ) (now id : ℕ)
      (from between machine : HubState) (client : ClientState) (given : List ℕ) → one.call ≡ Received key bytes now → Shows model old.live.hub from
      → between.committed ≡ from.committed → phase_of between id ≡ Some (IsReading received) → hub_step between (Receive id more progress) machine
      → received ++ more ≡ before ++ bytes → get one.after.clients.slots key ≡ Some client → client.stage ≡ stage_after progress → client.session ≡ Some id
      → client.unsent ≡ [] → given ≡ [] → OwesLater key later machine client given
      → (IsReadingOn machine client (before ++ bytes) → Gets key one.after later (before ++ bytes)) → Gets key old (one ∷ later) before
  taken (Ok More) key old one later before bytes received more now id from between machine client given is shown same phase step all found stage of none nothing owes reads =
      let (awaited, reading) = laws.receive between machine id received more More phase step in
      one_before key old one later before (before ++ bytes) (ap (written_by key) is) (ap (λ (l : List ℕ). before ++ l) (sym (received_is key one.call bytes now is)))
      (reads (stage, none, (id, of, subst (λ (l : List ℕ). phase_of machine id ≡ Some (IsReading l)) all reading)))
  taken (Ok Ready) key old one later before bytes received more now id from between machine client given is shown same phase step all found stage of none nothing owes reads =
      let (response, is_response, sends) = laws.receive between machine id received more Ready phase step in
      head_complete key old one later before bytes now from machine client response between.committed is shown same found stage
      (subst (λ (l : List ℕ). IsResponse between.committed l response) all is_response)
      (owes response (with_given machine client [] given response nothing (owed_whole machine client id response stage of none sends)))
  taken (Err fault) key old one later before bytes received more now id from between machine client given is shown same phase step all found stage of none nothing owes reads =
      gone_now key old one later before machine client given stage none nothing (ap (written_by key) is) owes

  reads_step : (key : ℕ) (old : Station D) (one : After D) (later : List (After D)) (machine after : HubState) (client new : ClientState) (given before : List ℕ)
      → Shows model old.live.hub machine → get one.after.clients.slots key ≡ Some new → given ≡ [] → IsReadingOn machine client before
      → Early key one.call old.live.places machine after client new given → OwesLater key later after new (given_after key given one.call)
      → ((bytes : List ℕ) → given_after key given one.call ≡ [] → IsReadingOn after new bytes → Gets key one.after later bytes)
      → Gets key old (one ∷ later) before
  reads_step key old one later machine after client new given before shown found nothing reading (Same same phases unwritten none kept) owes next =
      one_before key old one later before before unwritten (sym (append-nil before) ∙ ap (λ (l : List ℕ). before ++ l) (sym none))
      (next before kept (reads_on machine after client new before same phases reading))
  reads_step key old one later machine after client new given before shown found nothing reading (Gone cuts unsent unwritten kept) owes next =
      gone_now key old one later before after new (given_after key given one.call) cuts unsent kept unwritten owes
  reads_step key old one later machine after client new given before shown found nothing (reads, none, reading) (Offers bytes now is asks source session needs) owes next =
      absurd (asks_and_reads client.stage asks reads)
  reads_step key old one later machine after client new given before shown found nothing (reads, none, reading) (Replies bytes now resource head is asks own answered joins same) owes next =
      absurd (asks_and_reads client.stage asks reads)
  reads_step key old one later machine after client new given before shown found nothing (reads, none, reading) (Declines bytes now is asks last) owes next =
      absurd (asks_and_reads client.stage asks reads)
  reads_step key old one later machine after client new given before shown found nothing (reads, none, reading) (Awaits bytes now is asks becomes) owes next =
      absurd (asks_and_reads client.stage asks reads)
  reads_step key old one later machine after client new given before shown found nothing (reads, none, reading) (Connects bytes now id progress between is asks connects receives becomes) owes next =
      absurd (asks_and_reads client.stage asks reads)
  reads_step key old one later machine after client new given before shown found nothing (stage, none, (id, of, phase)) (Reads bytes now other progress is reads of_too receives becomes) owes next =
      let same : other ≡ id = same_number other id (sym of_too ∙ of) in
      let kept : given_after key given one.call ≡ [] = ap (given_after key given) is ∙ nothing in
      taken progress key old one later before bytes before bytes now id machine machine after new (given_after key given one.call) is shown refl phase
      (subst (λ (k : ℕ). hub_step machine (Receive k bytes progress) after) same receives) refl found (ap (λ (one : ClientState). one.stage) becomes)
      (ap (λ (one : ClientState). one.session) becomes ∙ of) (ap (λ (one : ClientState). one.unsent) becomes ∙ none) kept owes (next (before ++ bytes) kept)

  pub reads_all : (key : ℕ) (calls : List (After D)) (old : Station D) (machine : HubState) (client : ClientState) (given before : List ℕ)
      → AreCalls model old calls → AreTold key given calls → Shows model old.live.hub machine → AreApart machine old.clients.slots
      → get old.clients.slots key ≡ Some client → given ≡ [] → IsReadingOn machine client before → Gets key old calls before
  reads_all key [] old machine client given before are told shown apart found nothing reading = inl refl
  reads_all key (one ∷ later) old machine client given before are told shown apart found nothing reading =
      let sight = sees model laws.any key one.call old one.after machine are.0 shown apart in
      elim (sight.seen client found) [
        | inl closed ↦ absurd (closed_not key given one.call closed told.0)
        | inr (after, stands, seen) ↦
            reads_step key old one later machine sight.machine client after given before shown stands nothing reading
            (early key one.call old.live.places machine sight.machine client after given (inr reading.0) reading.1 nothing (λ is no_session. no_one reading.2.0 client.session no_session reading.2.1) told.0 seen)
            (λ owed owes. owed_all model laws key later one.after sight.machine after (given_after key given one.call) owed are.1 told.1 sight.shown sight.apart stands owes)
            (λ bytes kept reads_later. reads_all key later one.after sight.machine after (given_after key given one.call) bytes are.1 told.1 sight.shown sight.apart stands kept reads_later)
      ]

  -- ---- a connection that has asked for nothing yet
  abbrev pub IsAskingOn : ClientState → List ℕ → Type 0
  IsAskingOn client received = (client.stage ≡ Asking) × (client.session ≡ None) × (client.unsent ≡ []) × (client.head ≡ received)

  asks_step : (key : ℕ) (old : Station D) (one : After D) (later : List (After D)) (machine after : HubState) (client new : ClientState) (given before : List ℕ)
      → Shows model old.live.hub machine → AreApart machine old.clients.slots → get one.after.clients.slots key ≡ Some new → given ≡ [] → IsAskingOn client before
      → Early key one.call old.live.places machine after client new given → OwesLater key later after new (given_after key given one.call)
      → ((bytes : List ℕ) → given_after key given one.call ≡ [] → IsReadingOn after new bytes → Gets key one.after later bytes)
      → ((bytes : List ℕ) → given_after key given one.call ≡ [] → IsAskingOn new bytes → Gets key one.after later bytes)
      → (new.session ≡ None → needs_none new.stage ≡ true → ⊥)
      → Gets key old (one ∷ later) before
  asks_step key old one later machine after client new given before shown apart found nothing (asks, none, unsent, head) (Same same phases unwritten unread kept) owes reads next other =
      one_before key old one later before before unwritten (sym (append-nil before) ∙ ap (λ (l : List ℕ). before ++ l) (sym unread))
      (next before kept (same.0 ∙ asks, same.1 ∙ none, same.3 ∙ unsent, same.2 ∙ head))
  asks_step key old one later machine after client new given before shown apart found nothing asking (Gone cuts unsent unwritten kept) owes reads next other =
      gone_now key old one later before after new (given_after key given one.call) cuts unsent kept unwritten owes
  asks_step key old one later machine after client new given before shown apart found nothing (asks, none, unsent, head) (Offers bytes now is too source session needs) owes reads next other =
      absurd (other (session ∙ none) needs)
  asks_step key old one later machine after client new given before shown apart found nothing (asks, none, unsent, head_is) (Replies bytes now resource head is too own answered joins same) owes reads next other =
      let (room, replied) = answered in
      let (session, needs) = answered_session resource head (heard room bytes client) new replied in
      absurd (other (session ∙ none) needs)
  asks_step key old one later machine after client new given before shown apart found nothing (asks, none, unsent, head) (Declines bytes now is too last) owes reads next other =
      let (room, saying) = last in
      let (session, needs) = last_session FULL.now (heard room bytes client) new saying in
      absurd (other (session ∙ none) needs)
  asks_step key old one later machine after client new given before shown apart found nothing (asks, none, unsent, head) (Awaits bytes now is too becomes) owes reads next other =
      one_before key old one later before (before ++ bytes) (ap (written_by key) is) (ap (λ (l : List ℕ). before ++ l) (sym (received_is key one.call bytes now is)))
      (next (before ++ bytes) (ap (given_after key given) is ∙ nothing) (
        ap (λ (one : ClientState). one.stage) becomes ∙ asks,
        ap (λ (one : ClientState). one.session) becomes ∙ none,
        ap (λ (one : ClientState). one.unsent) becomes ∙ unsent,
        ap (λ (one : ClientState). one.head) becomes ∙ ap (λ (l : List ℕ). l ++ bytes) head,
      ))
  asks_step key old one later machine after client new given before shown apart found nothing (asks, none, unsent, head) (Connects bytes now id progress between is too connects receives becomes) owes reads next other =
      let kept : given_after key given one.call ≡ [] = ap (given_after key given) is ∙ nothing in
      let free : phase_of machine id ≡ None = ap (λ (k : ℕ). phase_of machine k) connects.1 ∙ laws.unused machine apart.given in
      taken progress key old one later before bytes [] (client.head ++ bytes) now id machine between after new (given_after key given one.call) is shown
      (ap (λ (hub : HubState). hub.committed) connects.2) (laws.connect machine between id connects free) receives (ap (λ (l : List ℕ). l ++ bytes) head) found
      (ap (λ (one : ClientState). one.stage) becomes) (ap (λ (one : ClientState). one.session) becomes) (ap (λ (one : ClientState). one.unsent) becomes ∙ unsent) kept owes (reads (before ++ bytes) kept)
  asks_step key old one later machine after client new given before shown apart found nothing (asks, none, unsent, head) (Reads bytes now id progress is reading of receives becomes) owes reads next other =
      absurd (asks_and_reads client.stage asks reading)

  pub asks_all : (key : ℕ) (calls : List (After D)) (old : Station D) (machine : HubState) (client last : ClientState) (id : ℕ) (given before : List ℕ)
      → AreCalls model old calls → AreTold key given calls → Shows model old.live.hub machine → AreApart machine old.clients.slots
      → get old.clients.slots key ≡ Some client → given ≡ [] → IsAskingOn client before
      → get (left_by old calls).clients.slots key ≡ Some last → last.session ≡ Some id → Gets key old calls before
  asks_all key [] old machine client last id given before are told shown apart found nothing asking left of = inl refl
  asks_all key (one ∷ later) old machine client last id given before are told shown apart found nothing asking left of =
      let sight = sees model laws.any key one.call old one.after machine are.0 shown apart in
      elim (sight.seen client found) [
        | inl closed ↦ absurd (closed_not key given one.call closed told.0)
        | inr (after, stands, seen) ↦
            asks_step key old one later machine sight.machine client after given before shown apart stands nothing asking
            (early key one.call old.live.places machine sight.machine client after given (inl asking.0) asking.2 nothing (λ is no_session. asks_and_reads client.stage asking.0 is) told.0 seen)
            (λ owed owes. owed_all model laws key later one.after sight.machine after (given_after key given one.call) owed are.1 told.1 sight.shown sight.apart stands owes)
            (λ bytes kept reads_later. reads_all key later one.after sight.machine after (given_after key given one.call) bytes are.1 told.1 sight.shown sight.apart stands kept reads_later)
            (λ bytes kept asks_later. asks_all key later one.after sight.machine after last id (given_after key given one.call) bytes are.1 told.1 sight.shown sight.apart stands kept asks_later left of)
            (λ none needs. no_one id last.session (stays_apart key later one.after sight.machine after last (given_after key given one.call) are.1 told.1 sight.shown sight.apart stands none needs left) of)
      ]

  -- ---- from the call on by which a connection was accepted
  pub kept : (old new : Station D) (call : Call) (before : HubState) → IsCall model call old new → Shows model old.live.hub before
      → AreApart before old.clients.slots → (after : HubState) × Shows model new.live.hub after × AreApart after new.clients.slots
  kept old new call before is shown apart =
      let sight = sees model laws.any 0 call old new before is shown apart in
      (sight.machine, sight.shown, sight.apart)

  turned_away : (now : ℕ) (client : ClientState) → IsTurnedAway now client → (client.session ≡ None) × (needs_none client.stage ≡ true)
  turned_away now client (inl is) = (ap (λ (one : ClientState). one.session) is, ap (λ (one : ClientState). needs_none one.stage) is)
  turned_away now client (inr (lacks, is)) = (ap (λ (one : ClientState). one.session) is, ap (λ (one : ClientState). needs_none one.stage) is)

  pub served : (old : Station D) (accepted : After D) (later : List (After D)) (machine : HubState) (key now id : ℕ) (client : ClientState)
      → Shows model old.live.hub machine → AreApart machine old.clients.slots → accepted.call ≡ Accepted now (Ok key)
      → AreCalls model old (accepted ∷ later) → AreTold key [] later
      → get (left_by accepted.after later).clients.slots key ≡ Some client → client.session ≡ Some id
      → (written key later ≡ []) ⊎ GetsResponse model key accepted.after later []
  served old accepted later machine key now id client shown apart is are told found of =
      let call : IsAccepted model now key old accepted.after = subst (λ (one : Call). IsCall model one old accepted.after) is are.0 in
      let (after, shows, still) = kept old accepted.after accepted.call machine are.0 shown apart in
      elim (leb_tells old.options.most (slab_len old.clients.slots)) [
        | inl full ↦ elim (call.too_many full.1) [
          | inl spare ↦ asks after shows still spare
          | inr (one, stands, away) ↦
              let (none, needs) = turned_away now one away in
              absurd (no_one id client.session (stays_apart key later accepted.after after one client [] are.1 told shows still stands none needs found) of)
        ]
        | inr place ↦ asks after shows still (call.some place.1)
      ]
    where
      asks : (after : HubState) → Shows model accepted.after.live.hub after → AreApart after accepted.after.clients.slots
          → get accepted.after.clients.slots key ≡ Some (fresh now) → (written key later ≡ []) ⊎ GetsResponse model key accepted.after later []
      asks after shows still stands =
          asks_all key later accepted.after after (fresh now) client id [] [] are.1 told shows still stands refl (refl, refl, refl, refl) found of

none_is : (id : ℕ) → None ≡ Some id → ⊥
none_is id e = cc

-- nobody is connected
pub none_apart : (machine : HubState) (slots : Slab ClientState) → AreNumbered machine → ((key : ℕ) → get slots key ≡ None) → AreApart machine slots
none_apart machine slots are none = record {
  given = are;
  numbered = λ key id is. absurd (none_is id (sym (ap session_in (none key)) ∙ is));
  apart = λ key other id is too. absurd (none_is id (sym (ap session_in (none key)) ∙ is));
}
