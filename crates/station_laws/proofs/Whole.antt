-- What a connection gets, over any calls of a station.
use Rattle.std.proofs.Common.{◌≡◌, ◌⊎◌, ℕ, Bool, true, false, Option, Some, None, Ok, List, [], ◌∷◌, ◌++◌, refl, sym, ◌∙◌, ap, subst, inl, inr, append-nil}
use Rattle.std.proofs.lemmas.Bool.Decides.{leb_tells}
use Rattle.disk_model.specs.declared.disk.Disk.{Ghosts as DiskModel}
use Rattle.serve_clients.specs.Client.{ClientState, HasLast, fresh, told, with_stage}
use Rattle.serve_clients.specs.declared.client.Stage.{Stage}
use Rattle.serve_clients.specs.declared.client.Stage.TheVariants.{Ending, Hearing, Cut}
use Rattle.serve_hub.specs.Listening.{waiting_at}
use Rattle.serve_hub.specs.Parts.{HubParts}
use Rattle.serve_hub.specs.Showing.{Shows}
use Rattle.serve_live.specs.Boundaries.{place_to_join}
use Rattle.serve_live.specs.Hearing.{IsHearing}
use Rattle.serve_live.specs.Listening.{ListenerState}
use Rattle.serve_live.specs.Live.{Moment}
use Rattle.serve_live.specs.declared.listener.JoinPlace.{JoinPlace}
use Rattle.serve_machine.specs.Hub.{HubState, phase_of}
use Rattle.serve_machine.specs.Sound.{Extends}
use Rattle.serve_sources.specs.Asking.{IsOwn, is_source as is_source_head}
use Rattle.serve_sources.specs.declared.answers.TheConstants.{FULL, LIVE}
use Rattle.serve_sources.specs.declared.own.OwnResource.{OwnResource}
use Rattle.serve_sources.specs.declared.own.OwnResource.TheVariants.{Live, Player, Status}
use Rattle.serve_texts.specs.Player.{player_response}
use Rattle.serve_texts.specs.Status.{status_response}
use Rattle.slab.specs.Slab.{get, slab_len}
use Rattle.station_hub.specs.Asking.{Listens, headless}
use Rattle.station_hub.specs.LiveLaws.{tracks_then}
use Rattle.station_hub.specs.Places.{PlacesState}
use Rattle.station_hub.specs.Tracking.{IsJoinMoment, IsMomentAt, JoinsAt, TracksOn}
use Rattle.station.specs.Asked.{IsAnswered, heard}
use Rattle.station_laws.specs.Calling.{Accepted, After, AreCalls, Call, IsAccepted, IsCall, Received, left_by}
use Rattle.station_laws.specs.Serving.{AsksOwn, AsksSource, AtCall, HasHeardOf, IsServed, IsTextOf}
use Rattle.station.specs.Turning.{IsTurnedAway}
use Rattle.station_laws.specs.Written.{AreApart, AreTold, given_after, received_by, written, written_by}
use Rattle.station.specs.declared.station.Station.{Station}
use Rattle.station_laws.proofs.Early.{Awaits, Connects, Declines, Early, Gone, IsReadingOn, Offers, Reads, Replies, Same, asks_and_reads, early}
use Rattle.station_laws.proofs.Listened.{HearsOn, hears_all}
use Rattle.station_laws.proofs.Owing.{IsOwed, OwnLaws, RestsIn, WaitsFor, closed_not, nothing_given, owed_all, owes_nothing, with_given}
use Rattle.station_laws.proofs.Seen.{JoinsHere}
use Rattle.station_laws.proofs.Served.{Gets, IsAskingOn, OwesLater, gone_now, one_before, reads_all, received_is, taken}
use Rattle.station_laws.proofs.Sights.{sees}

-- the text is all that is owed
owes_text : (machine : HubState) (client : ClientState) (text : List ℕ) → client.stage ≡ Ending → client.unsent ≡ text → IsOwed machine client [] text
owes_text machine client text ends unsent = record {
  left = text;
  rest = [];
  waits = subst (λ (l : List ℕ). WaitsFor l [] text) (sym unsent) (nothing_given text);
  rests = ending client.stage ends;
  is = sym (append-nil text);
}
  where
    ending : (stage : Stage) → stage ≡ Ending → RestsIn stage machine client.session []
    ending stage is = subst (λ (s : Stage). RestsIn s machine client.session []) (sym is) refl

-- what is told follows what waits, which is nothing
told_text : (client new : ClientState) (text : List ℕ) → client.unsent ≡ [] → new.unsent ≡ client.unsent ++ text → new.unsent ≡ text
told_text client new text none is = is ∙ ap (λ (l : List ℕ). l ++ text) none

nothing_left : (bytes left : List ℕ) → [] ≡ bytes ++ left → bytes ≡ []
nothing_left [] left e = refl
nothing_left (byte ∷ bytes) left e = cc

module _ {D : Type 0} (model : DiskModel D) (laws : OwnLaws)
    (lasts : (old new : HubParts D) (before after : HubState) (moment : Moment) (listener : ListenerState) (given : List ℕ) → Shows model old before → Shows model new after
    → Extends before.committed after.committed → IsHearing moment before.committed listener given → IsHearing moment after.committed listener given)
    (first : HubState) (begun : PlacesState) where
  -- ---- one call before
  embed : (key : ℕ) (old : Station D) (calls : List (After D)) (before : List ℕ) → Gets model laws key old calls before → IsServed model first begun key old calls before
  embed key old calls before (inl nothing) = inl nothing
  embed key old calls before (inr gets) = inr (inl gets)

  also_written : (key : ℕ) (one : After D) (later : List (After D)) (text left : List ℕ) → written_by key one.call ≡ [] → text ≡ written key later ++ left
      → text ≡ (written_by key one.call ++ written key later) ++ left
  also_written key one later text left none front = front ∙ ap (λ (l : List ℕ). (l ++ written key later) ++ left) (sym none)

  later_call : (P : Station D → After D → List ℕ → Type 0) (key : ℕ) (old : Station D) (one : After D) (later : List (After D)) (before next : List ℕ)
      → next ≡ before ++ received_by key one.call → AtCall P key one.after later next → AtCall P key old (one ∷ later) before
  later_call P key old one later before next is at = inr (subst (AtCall P key one.after later) is at)

  heard_before : (front : List ℕ) (moment : Moment) (station : Station D) (key : ℕ) (one : After D) (later : List (After D)) → written_by key one.call ≡ []
      → HasHeardOf model front moment station (written key later) → HasHeardOf model front moment station (written_by key one.call ++ written key later)
  heard_before front moment station key one later none heard_so =
      subst (λ (l : List ℕ). HasHeardOf model front moment station (l ++ written key later)) (sym none) heard_so

  one_more : (key : ℕ) (old : Station D) (one : After D) (later : List (After D)) (before next : List ℕ) → written_by key one.call ≡ []
      → next ≡ before ++ received_by key one.call → IsServed model first begun key one.after later next → IsServed model first begun key old (one ∷ later) before
  one_more key old one later before next none is (inl nothing) = inl (ap (λ (l : List ℕ). l ++ written key later) none ∙ nothing)
  one_more key old one later before next none is (inr (inl gets)) =
      embed key old (one ∷ later) before (one_before model laws key old one later before next none is (inr gets))
  one_more key old one later before next none is (inr (inr (inl gets))) = inr (inr (inl (record {
    resource = gets.resource;
    head = gets.head;
    asks = later_call (λ station at so_far. AsksOwn key gets.resource gets.head at so_far) key old one later before next is gets.asks;
    text = gets.text;
    is_text = gets.is_text;
    left = gets.left;
    front = also_written key one later gets.text gets.left none gets.front;
  })))
  one_more key old one later before next none is (inr (inr (inr (inl gets)))) = inr (inr (inr (inl (record {
    places = gets.places;
    machine = gets.machine;
    tracked = gets.tracked;
    joins = later_call (λ station at so_far. AsksOwn key Live false at so_far × (gets.places ≡ station.live.places) × Shows model station.live.hub gets.machine)
        key old one later before next is gets.joins;
    hears = λ start tracks.
        let (moment, at, heard_so) = gets.hears start tracks in
        (moment, at, heard_before LIVE.now moment (left_by one.after later) key one later none heard_so);
  }))))
  one_more key old one later before next none is (inr (inr (inr (inr sends)))) =
      inr (inr (inr (inr (later_call (λ station at so_far. AsksSource key at so_far) key old one later before next is sends))))

  -- ---- an answer of the station's own
  answer : (key : ℕ) (old : Station D) (one : After D) (later : List (After D)) (after : HubState) (client new : ClientState) (given before bytes text : List ℕ) (now : ℕ)
      (resource : OwnResource) (head : Bool) → one.call ≡ Received key bytes now → IsOwn resource head (before ++ bytes) → IsTextOf resource head text
      → client.unsent ≡ [] → (new ≡ with_stage Ending (told new.room text client)) ⊎ ((new.stage ≡ Cut) × (new.unsent ≡ client.unsent)) → given_after key given one.call ≡ []
      → OwesLater model laws key later after new (given_after key given one.call) → IsServed model first begun key old (one ∷ later) before
  answer key old one later after client new given before bytes text now resource head is own is_text none (inr (cuts, unsent)) kept_none owes =
      embed key old (one ∷ later) before
      (gone_now model laws key old one later before after new (given_after key given one.call) cuts (unsent ∙ none) kept_none (ap (written_by key) is) owes)
  answer key old one later after client new given before bytes text now resource head is own is_text none (inl told_it) kept_none owes =
      let unsent = told_text client new text none (ap (λ (c : ClientState). c.unsent) told_it) in
      let owed = owes_text after new text (ap (λ (c : ClientState). c.stage) told_it) unsent in
      let (left, front) = owes text (with_given after new [] (given_after key given one.call) text kept_none owed) in
      inr (inr (inl (record {
        resource = resource;
        head = head;
        asks = inl (record { bytes = bytes; now = now; call = is; own = own });
        text = text;
        is_text = is_text;
        left = left;
        front = also_written key one later text left (ap (written_by key) is) front;
      })))

  last : (text : List ℕ) (old new : ClientState) → HasLast text old new → (new ≡ with_stage Ending (told new.room text old)) ⊎ ((new.stage ≡ Cut) × (new.unsent ≡ old.unsent))
  last text old new (inl is) = inl is
  last text old new (inr (lacks, is)) = inr (ap (λ (c : ClientState). c.stage) is, ap (λ (c : ClientState). c.unsent) is)

  -- ---- a listener
  joined : (machine : HubState) (client new : ClientState) (places : PlacesState) (listener : ListenerState) → client.unsent ≡ []
      → new ≡ record (told new.room LIVE.now (headless client)) { stage = Hearing; listener = Some listener } → JoinsAt (place_to_join places.boundaries) machine.committed listener
      → (moment : Moment) × IsJoinMoment places machine.committed moment × HearsOn LIVE.now moment machine new [] []
  joined machine client new places listener none becomes joins = by (place_to_join places.boundaries) joins
    where
      unsent : new.unsent ≡ LIVE.now
      unsent = told_text client new LIVE.now none (ap (λ (c : ClientState). c.unsent) becomes)

      hears : (moment : Moment) → IsHearing moment machine.committed listener [] → HearsOn LIVE.now moment machine new [] []
      hears moment hearing = record {
        listener = listener;
        so_far = [];
        hearing = hearing;
        left = new.unsent;
        rest = [];
        waits = nothing_given new.unsent;
        all = append-nil LIVE.now ∙ sym unsent ∙ sym (append-nil new.unsent);
        stands = inl (ap (λ (c : ClientState). c.stage) becomes, refl, ap (λ (c : ClientState). c.listener) becomes);
      }

      by : (place : Option JoinPlace) → JoinsAt place machine.committed listener → (moment : Moment) × IsMomentAt place machine.committed moment × HearsOn LIVE.now moment machine new [] []
      by None hearing = (waiting_at machine.committed, refl, hears (waiting_at machine.committed) hearing)
      by (Some place) (links, moment, are, is_place, hearing) = (moment, (links, are, is_place), hears moment hearing)

  some_listener : (one other : ListenerState) → Some one ≡ Some other → one ≡ other
  some_listener one other e = cc

  listens : (key : ℕ) (old : Station D) (one : After D) (later : List (After D)) (machine after : HubState) (client new : ClientState) (given before bytes : List ℕ) (now : ℕ)
      → one.call ≡ Received key bytes now → IsOwn Live false (before ++ bytes) → Listens false client new → JoinsHere Live false old.live.places machine new
      → after ≡ machine → client.unsent ≡ [] → Shows model old.live.hub machine → TracksOn first begun machine old.live.places → given_after key given one.call ≡ []
      → OwesLater model laws key later after new (given_after key given one.call)
      → ((moment : Moment) → HearsOn LIVE.now moment after new (given_after key given one.call) [] → HasHeardOf model LIVE.now moment (left_by one.after later) ([] ++ written key later))
      → IsServed model first begun key old (one ∷ later) before
  listens key old one later machine after client new given before bytes now is own (inr cuts) joins stays none shown tracks kept_none owes hears =
      embed key old (one ∷ later) before
      (gone_now model laws key old one later before after new (given_after key given one.call) (ap (λ (c : ClientState). c.stage) cuts)
      (ap (λ (c : ClientState). c.unsent) cuts ∙ none) kept_none (ap (written_by key) is) owes)
  listens key old one later machine after client new given before bytes now is own (inl (listener, becomes)) joins stays none shown tracks kept_none owes hears = inr (inr (inr (inl (record {
    places = old.live.places;
    machine = machine;
    tracked = tracks;
    joins = inl (record { bytes = bytes; now = now; call = is; own = own }, refl, shown);
    hears = λ start tracks.
        let (found, has, joins_at) = joins start tracks (ap (λ (c : ClientState). c.stage) becomes) in
        let same : found ≡ listener = some_listener found listener (sym has ∙ ap (λ (c : ClientState). c.listener) becomes) in
        let (moment, at, on) = joined machine client new old.live.places listener none becomes
        (subst (JoinsAt (place_to_join old.live.places.boundaries) machine.committed) same joins_at) in
        let given_none = subst (λ (l : List ℕ). HearsOn LIVE.now moment machine new l []) (sym kept_none) on in (
          moment,
          at,
          heard_before LIVE.now moment (left_by one.after later) key one later (ap (written_by key) is)
              (hears moment (subst (λ (m : HubState). HearsOn LIVE.now moment m new (given_after key given one.call) []) (sym stays) given_none)),
        );
  }))))

  replies : (resource : OwnResource) (head : Bool) (key : ℕ) (old : Station D) (one : After D) (later : List (After D)) (machine after : HubState) (client new : ClientState)
      (given before bytes : List ℕ) (now : ℕ) → one.call ≡ Received key bytes now → IsOwn resource head (before ++ bytes) → IsAnswered resource head client new
      → JoinsHere resource head old.live.places machine new → after ≡ machine → client.unsent ≡ [] → Shows model old.live.hub machine → TracksOn first begun machine old.live.places → given_after key given one.call ≡ []
      → OwesLater model laws key later after new (given_after key given one.call)
      → ((moment : Moment) → HearsOn LIVE.now moment after new (given_after key given one.call) [] → HasHeardOf model LIVE.now moment (left_by one.after later) ([] ++ written key later))
      → IsServed model first begun key old (one ∷ later) before
  replies Live false key old one later machine after client new given before bytes now is own answered joins stays none shown tracks kept_none owes hears =
      listens key old one later machine after client new given before bytes now is own answered joins stays none shown tracks kept_none owes hears
  replies Live true key old one later machine after client new given before bytes now is own answered joins stays none shown tracks kept_none owes hears =
      answer key old one later after (headless client) new given before bytes LIVE.now now Live true is own refl none (last LIVE.now (headless client) new answered) kept_none owes
  replies Player head key old one later machine after client new given before bytes now is own answered joins stays none shown tracks kept_none owes hears =
      answer key old one later after client new given before bytes (player_response head) now Player head is own refl none (last (player_response head) client new answered) kept_none owes
  replies Status head key old one later machine after client new given before bytes now is own (numbers, answered) joins stays none shown tracks kept_none owes hears =
      answer key old one later after client new given before bytes (status_response numbers head) now Status head is own (numbers, refl) none
      (last (status_response numbers head) client new answered) kept_none owes

  -- ---- over all calls, of a connection that has asked for nothing yet
  -- it is served, or told that there are too many
  abbrev IsAnyhow : ℕ → Station D → List (After D) → List ℕ → Type 0
  IsAnyhow key old calls before = IsServed model first begun key old calls before ⊎ ((left : List ℕ) × (FULL.now ≡ written key calls ++ left))

  one_more_anyhow : (key : ℕ) (old : Station D) (one : After D) (later : List (After D)) (before next : List ℕ) → written_by key one.call ≡ []
      → next ≡ before ++ received_by key one.call → IsAnyhow key one.after later next → IsAnyhow key old (one ∷ later) before
  one_more_anyhow key old one later before next none is (inl serves) = inl (one_more key old one later before next none is serves)
  one_more_anyhow key old one later before next none is (inr (left, front)) = inr (left, also_written key one later FULL.now left none front)

  -- it is told that there are too many
  declined : (key : ℕ) (old : Station D) (one : After D) (later : List (After D)) (after : HubState) (client new : ClientState) (given before : List ℕ)
      → written_by key one.call ≡ [] → client.unsent ≡ [] → (new ≡ with_stage Ending (told new.room FULL.now client)) ⊎ ((new.stage ≡ Cut) × (new.unsent ≡ client.unsent))
      → given_after key given one.call ≡ [] → OwesLater model laws key later after new (given_after key given one.call) → IsAnyhow key old (one ∷ later) before
  declined key old one later after client new given before unwritten none (inr (cuts, unsent)) kept_none owes =
      inl (embed key old (one ∷ later) before
      (gone_now model laws key old one later before after new (given_after key given one.call) cuts (unsent ∙ none) kept_none unwritten owes))
  declined key old one later after client new given before unwritten none (inl told_it) kept_none owes =
      let unsent = told_text client new FULL.now none (ap (λ (c : ClientState). c.unsent) told_it) in
      let owed = owes_text after new FULL.now (ap (λ (c : ClientState). c.stage) told_it) unsent in
      let (left, front) = owes FULL.now (with_given after new [] (given_after key given one.call) FULL.now kept_none owed) in
      inr (left, also_written key one later FULL.now left unwritten front)

  step : (key : ℕ) (old : Station D) (one : After D) (later : List (After D)) (machine after : HubState) (client new : ClientState) (given before : List ℕ)
      → Shows model old.live.hub machine → TracksOn first begun machine old.live.places → AreApart machine old.clients.slots → get one.after.clients.slots key ≡ Some new → given ≡ [] → IsAskingOn model laws client before
      → Early key one.call old.live.places machine after client new given → OwesLater model laws key later after new (given_after key given one.call)
      → ((bytes : List ℕ) → given_after key given one.call ≡ [] → IsReadingOn after new bytes → Gets model laws key one.after later bytes)
      → ((bytes : List ℕ) → given_after key given one.call ≡ [] → IsAskingOn model laws new bytes → IsAnyhow key one.after later bytes)
      → ((moment : Moment) → HearsOn LIVE.now moment after new (given_after key given one.call) [] → HasHeardOf model LIVE.now moment (left_by one.after later) ([] ++ written key later))
      → IsAnyhow key old (one ∷ later) before
  step key old one later machine after client new given before shown tracks apart found nothing (asks, none, unsent, head) (Same same phases unwritten unread kept_none) owes reads next hears =
      one_more_anyhow key old one later before before unwritten (sym (append-nil before) ∙ ap (λ (l : List ℕ). before ++ l) (sym unread))
      (next before kept_none (same.0 ∙ asks, same.1 ∙ none, same.3 ∙ unsent, same.2 ∙ head))
  step key old one later machine after client new given before shown tracks apart found nothing asking (Gone cuts unsent unwritten kept_none) owes reads next hears =
      inl (embed key old (one ∷ later) before (gone_now model laws key old one later before after new (given_after key given one.call) cuts unsent kept_none unwritten owes))
  step key old one later machine after client new given before shown tracks apart found nothing (asks, none, unsent, head) (Offers bytes now is too source session needs) owes reads next hears =
      inl (inr (inr (inr (inr (inl (record {
        bytes = bytes;
        now = now;
        call = is;
        source = ap (λ (l : List ℕ). is_source_head (l ++ bytes)) (sym head) ∙ source;
      }))))))
  step key old one later machine after client new given before shown tracks apart found nothing (asks, none, unsent, head_is) (Replies bytes now resource head is too own answered joins stays) owes reads next hears =
      let (room, replied) = answered in
      inl (replies resource head key old one later machine after (heard room bytes client) new given before bytes now is
      (subst (λ (l : List ℕ). IsOwn resource head (l ++ bytes)) head_is own) replied joins stays unsent shown tracks (ap (given_after key given) is ∙ nothing) owes hears)
  step key old one later machine after client new given before shown tracks apart found nothing (asks, none, unsent, head) (Declines bytes now is too saying) owes reads next hears =
      let (room, says) = saying in
      declined key old one later after (heard room bytes client) new given before (ap (written_by key) is) unsent (last FULL.now (heard room bytes client) new says)
      (ap (given_after key given) is ∙ nothing) owes
  step key old one later machine after client new given before shown tracks apart found nothing (asks, none, unsent, head) (Awaits bytes now is too becomes) owes reads next hears =
      one_more_anyhow key old one later before (before ++ bytes) (ap (written_by key) is) (ap (λ (l : List ℕ). before ++ l) (sym (received_is model laws key one.call bytes now is)))
      (next (before ++ bytes) (ap (given_after key given) is ∙ nothing) (
        ap (λ (c : ClientState). c.stage) becomes ∙ asks,
        ap (λ (c : ClientState). c.session) becomes ∙ none,
        ap (λ (c : ClientState). c.unsent) becomes ∙ unsent,
        ap (λ (c : ClientState). c.head) becomes ∙ ap (λ (l : List ℕ). l ++ bytes) head,
      ))
  step key old one later machine after client new given before shown tracks apart found nothing (asks, none, unsent, head) (Connects bytes now id progress between is too connects receives becomes) owes reads next hears =
      let kept_none : given_after key given one.call ≡ [] = ap (given_after key given) is ∙ nothing in
      let free : phase_of machine id ≡ None = ap (λ (k : ℕ). phase_of machine k) connects.1 ∙ laws.unused machine apart.given in
      inl (embed key old (one ∷ later) before
      (taken model laws progress key old one later before bytes [] (client.head ++ bytes) now id machine between after new (given_after key given one.call) is shown
      (ap (λ (hub : HubState). hub.committed) connects.2) (laws.connect machine between id connects free) receives (ap (λ (l : List ℕ). l ++ bytes) head) found
      (ap (λ (c : ClientState). c.stage) becomes) (ap (λ (c : ClientState). c.session) becomes) (ap (λ (c : ClientState). c.unsent) becomes ∙ unsent) kept_none owes (reads (before ++ bytes) kept_none)))
  step key old one later machine after client new given before shown tracks apart found nothing (asks, none, unsent, head) (Reads bytes now id progress is reading of receives becomes) owes reads next hears =
      absurd (asks_and_reads client.stage asks reading)

  whole_all : (key : ℕ) (calls : List (After D)) (old : Station D) (machine : HubState) (client : ClientState) (given before : List ℕ)
      → AreCalls model old calls → AreTold key given calls → Shows model old.live.hub machine → TracksOn first begun machine old.live.places → AreApart machine old.clients.slots
      → get old.clients.slots key ≡ Some client → given ≡ [] → IsAskingOn model laws client before → IsAnyhow key old calls before
  whole_all key [] old machine client given before are told shown tracks apart found nothing asking = inl (inl refl)
  whole_all key (one ∷ later) old machine client given before are told shown tracks apart found nothing asking =
      let sight = sees model laws.any key one.call old one.after machine are.0 shown apart in
      elim (sight.seen client found) [
        | inl closed ↦ absurd (closed_not key given one.call closed told.0)
        | inr (after, stands, seen) ↦
            step key old one later machine sight.machine client after given before shown tracks apart stands nothing asking
            (early key one.call old.live.places machine sight.machine client after given (inl asking.0) asking.2 nothing (λ is no_session. asks_and_reads client.stage asking.0 is) told.0 seen)
            (λ owed owes. owed_all model laws key later one.after sight.machine after (given_after key given one.call) owed are.1 told.1 sight.shown sight.apart stands owes)
            (λ bytes kept_none reads_later. reads_all model laws key later one.after sight.machine after (given_after key given one.call) bytes are.1 told.1 sight.shown sight.apart stands kept_none reads_later)
            (λ bytes kept_none asks_later. whole_all key later one.after sight.machine after (given_after key given one.call) bytes are.1 told.1 sight.shown
            (tracks_then first machine sight.machine begun old.live.places one.after.live.places tracks sight.tracked) sight.apart stands kept_none asks_later)
            (λ moment hears. hears_all model laws lasts LIVE.now moment key later one.after sight.machine after (given_after key given one.call) [] are.1 told.1 sight.shown sight.apart stands hears)
      ]

  -- ---- from the call on by which it was accepted
  pub whole : (old : Station D) (accepted : After D) (later : List (After D)) (machine : HubState) (key now : ℕ)
      → TracksOn first begun machine old.live.places → Shows model old.live.hub machine → AreApart machine old.clients.slots → accepted.call ≡ Accepted now (Ok key)
      → AreCalls model old (accepted ∷ later) → AreTold key [] later
      → IsServed model first begun key accepted.after later [] ⊎ ((left : List ℕ) × (FULL.now ≡ written key later ++ left))
  whole old accepted later machine key now tracks shown apart is are tells =
      let call : IsAccepted model now key old accepted.after = subst (λ (one : Call). IsCall model one old accepted.after) is are.0 in
      let sight = sees model laws.any key accepted.call old accepted.after machine are.0 shown apart in
      let on = tracks_then first machine sight.machine begun old.live.places accepted.after.live.places tracks sight.tracked in
      elim (leb_tells old.options.most (slab_len old.clients.slots)) [
        | inl full ↦ elim (call.too_many full.1) [
          | inl spare ↦ asks sight.machine sight.shown on sight.apart spare
          | inr (one, stands, away) ↦ turned_away sight.machine one sight.shown sight.apart stands away
        ]
        | inr place ↦ asks sight.machine sight.shown on sight.apart (call.some place.1)
      ]
    where
      asks : (after : HubState) → Shows model accepted.after.live.hub after → TracksOn first begun after accepted.after.live.places
          → AreApart after accepted.after.clients.slots → get accepted.after.clients.slots key ≡ Some (fresh now)
          → IsServed model first begun key accepted.after later [] ⊎ ((left : List ℕ) × (FULL.now ≡ written key later ++ left))
      asks after shows on still stands =
          whole_all key later accepted.after after (fresh now) [] [] are.1 tells shows on still stands refl (refl, refl, refl, refl)

      turned_away : (after : HubState) (one : ClientState) → Shows model accepted.after.live.hub after → AreApart after accepted.after.clients.slots
          → get accepted.after.clients.slots key ≡ Some one → IsTurnedAway now one
          → IsServed model first begun key accepted.after later [] ⊎ ((left : List ℕ) × (FULL.now ≡ written key later ++ left))
      turned_away after one shows still stands (inl told_it) =
          inr (owed_all model laws key later accepted.after after one [] FULL.now are.1 tells shows still stands
          (owes_text after one FULL.now (ap (λ (c : ClientState). c.stage) told_it) (ap (λ (c : ClientState). c.unsent) told_it)))
      turned_away after one shows still stands (inr (lacks, cuts)) =
          let (left, front) = owed_all model laws key later accepted.after after one [] [] are.1 tells shows still stands
          (owes_nothing after one (ap (λ (c : ClientState). c.stage) cuts) (ap (λ (c : ClientState). c.unsent) cuts)) in
          inl (inl (nothing_left (written key later) left front))
