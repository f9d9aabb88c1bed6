-- What a connection sees of each call of its station.
use Rattle.std.proofs.Common.{◌≡◌, ◌≢◌, ◌⊎◌, ◌<◌, ◌-◌, ℕ, zero, suc, Bool, true, false, Option, Some, None, Ok, Err, List, [], ◌∷◌, ◌++◌, take, refl, sym, ◌∙◌, ap, subst, inl, inr, arith}
use Rattle.std.specs.Prelude.{nat_eq}
use Rattle.std.proofs.lemmas.Bool.{cond-true}
use Rattle.std.proofs.lemmas.Bool.Decides.{eqb_tells, leb_tells}
use Rattle.disk_model.specs.declared.disk.Disk.{Ghosts as DiskModel}
use Rattle.serve_clients.specs.Client.{ClientState, HasLast, HasWritten, given as given_to, moved_if, with_line, with_stage}
use Rattle.serve_clients.specs.Clients.{told_by, unread_by, unwritten_by}
use Rattle.serve_clients.specs.Line.{taken_off}
use Rattle.serve_clients.specs.declared.client.Stage.{Stage}
use Rattle.serve_clients.specs.declared.client.Stage.TheVariants.{Asking, Offering, Waiting, Feeding, Reading, Sending, Hearing, Ending, Closing, Cut}
use Rattle.serve_clients.specs.declared.line.Trouble.{Trouble}
use Rattle.serve_clients.specs.declared.line.Trouble.TheVariants.{Blocked, Interrupted, Broken}
use Rattle.serve_hub.specs.Showing.{Shows}
use Rattle.serve_machine.specs.Hub.{Close, Connect, Event, HubState, Pull, Receive, hub_step}
use Rattle.serve_machine.specs.Run.{session_of}
use Rattle.serve_sources.specs.declared.own.OwnResource.{OwnResource}
use Rattle.serve_sources.specs.declared.own.OwnResource.TheVariants.{Live, Player, Status}
use Rattle.slab.specs.Slab.{Slab, get, slab_len}
use Rattle.station_hub.specs.Asking.{Listens, stage_after}
use Rattle.station_hub.specs.LiveLaws.{tracks_same, tracks_then}
use Rattle.station_hub.specs.Places.{PlacesState}
use Rattle.station_hub.specs.Tracking.{TracksOn}
use Rattle.serve_hub.specs.Parts.{HubParts}
use Rattle.serve_sources.specs.declared.answers.TheConstants.{FULL}
use Rattle.serve_sources.specs.declared.password.Password.{Password}
use Rattle.station.specs.Asked.{EndsSession, IsAnswered, IsAsked, Joins, heard, moved}
use Rattle.station.specs.Spare.{IsAskedIn, is_spare}
use Rattle.station_laws.specs.Calling.{Accepted, Aside, Call, Closed, EndedOpen, HasGiven, HasReceived, IsAccepted, IsCall, IsClosed, Looked, Next, NextTurn, PeerEnded, ReadFailed, Received, Stepped, Turned, Woken, WriteFailed, Wrote}
use Rattle.station.specs.Ending.{is_over}
use Rattle.station.specs.Passing.{Stays, expects_nothing, is_source, session_in}
use Rattle.station.specs.Turning.{IsTurnedAway, half_closed, stage_at_half_close}
use Rattle.station_laws.specs.Written.{AreApart}
use Rattle.station.specs.declared.station.Station.{Station}
use Rattle.station.specs.PassingLaws.{all_stay, given_session, has_turn, like, looked, stays_session}
use Rattle.station_laws.proofs.Seen.{Again, Awaited, Connected, Declined, Gave, Heard, Answered, Ignored, IsAside, JoinsHere, Kept, Nothing, Offered, Parted, Pulled, Read, Seen, Sees, Shut, Told, WasCut, all_passed, aside_next, aside_received, aside_write_failed, aside_wrote, had, had_own, keyed, keyed_none, keyed_quiet, needs_none, no_session, none_is_some, offered_needs_none, own_key, stays_shown}
use Rattle.station_laws.proofs.Sides.{Laws, Leaves, leaves_all, leaves_step, leaves_then, one_more_apart, own_step, side_records, still_apart}

-- ---- what is known of a call's own connection
kept_by : (key : ℕ) (call : Call) (places : PlacesState) (before : HubState) (client after : ClientState) → Stays client after → IsAside key call
    → Seen key call places before before client after
kept_by key call places before client after (inl is) aside = Kept is (λ id of. refl) aside
kept_by key call places before client after (inr is) aside = WasCut is.0 is.1 is.3 aside.written aside.given

unread : (trouble : Trouble) (client : ClientState) → Stays client (unread_by trouble client)
unread Blocked client = inl (like client)
unread Interrupted client = inl (like client)
unread Broken client = inr (refl, refl, refl, refl, refl)

unwritten : (trouble : Trouble) (client : ClientState) → Stays client (unwritten_by trouble client)
unwritten Blocked client = inl (like client)
unwritten Interrupted client = inl (like client)
unwritten Broken client = inr (refl, refl, refl, refl, refl)

moved_stays : (count now : ℕ) (client : ClientState) → Stays client (moved_if count now client)
moved_stays zero now client = inl (like client)
moved_stays (suc count) now client = inl (like client)

pub written_session : (bytes : List ℕ) (count : ℕ) (old new : ClientState) → HasWritten bytes count old new → new.session ≡ old.session
written_session bytes count old new (inl again) = ap (λ (one : ClientState). one.session) again.1
written_session bytes count old new (inr (none, inl anew)) = ap (λ (one : ClientState). one.session) anew
written_session bytes count old new (inr (none, inr (lacks, short))) = ap (λ (one : ClientState). one.session) short

stage_kind : (stage : Stage) → (stage ≡ Sending) ⊎ ((stage ≡ Hearing) ⊎ ((stage ≢ Sending) × (stage ≢ Hearing)))
stage_kind Sending = inl refl
stage_kind Hearing = inr (inl refl)
stage_kind Asking = inr (inr ((λ e. cc), (λ e. cc)))
stage_kind Offering = inr (inr ((λ e. cc), (λ e. cc)))
stage_kind Waiting = inr (inr ((λ e. cc), (λ e. cc)))
stage_kind Feeding = inr (inr ((λ e. cc), (λ e. cc)))
stage_kind Reading = inr (inr ((λ e. cc), (λ e. cc)))
stage_kind Ending = inr (inr ((λ e. cc), (λ e. cc)))
stage_kind Closing = inr (inr ((λ e. cc), (λ e. cc)))
stage_kind Cut = inr (inr ((λ e. cc), (λ e. cc)))

waits_or_not : (stage : Stage) → (stage ≡ Waiting) ⊎ (stage ≢ Waiting)
waits_or_not Waiting = inl refl
waits_or_not Sending = inr (λ e. cc)
waits_or_not Hearing = inr (λ e. cc)
waits_or_not Asking = inr (λ e. cc)
waits_or_not Offering = inr (λ e. cc)
waits_or_not Feeding = inr (λ e. cc)
waits_or_not Reading = inr (λ e. cc)
waits_or_not Ending = inr (λ e. cc)
waits_or_not Closing = inr (λ e. cc)
waits_or_not Cut = inr (λ e. cc)

-- by what bytes mean that come
receiving : (stage : Stage) → (stage ≡ Asking) ⊎ ((stage ≡ Reading) ⊎ ((is_source stage ≡ true) ⊎ (expects_nothing stage ≡ true)))
receiving Asking = inl refl
receiving Reading = inr (inl refl)
receiving Offering = inr (inr (inl refl))
receiving Waiting = inr (inr (inl refl))
receiving Feeding = inr (inr (inl refl))
receiving Sending = inr (inr (inr refl))
receiving Hearing = inr (inr (inr refl))
receiving Ending = inr (inr (inr refl))
receiving Closing = inr (inr (inr refl))
receiving Cut = inr (inr (inr refl))

empty_or_not : (bytes : List ℕ) → (bytes ≡ []) ⊎ (bytes ≢ [])
empty_or_not [] = inl refl
empty_or_not (byte ∷ bytes) = inr (λ e. cc)

-- a session that is given, if it is one
of_session : (session : Option ℕ) → (session ≡ None) ⊎ ((id : ℕ) × (session ≡ Some id))
of_session None = inl refl
of_session (Some id) = inr (id, refl)

-- ---- a peer that sends no more
goes : (client : ClientState) → stage_at_half_close client.stage ≡ client.stage → Stays client (half_closed client)
goes client same = inl (same, refl, refl, refl, refl)

gone : (client : ClientState) → stage_at_half_close client.stage ≡ Cut → Stays client (half_closed client)
gone client cuts = inr (cuts, refl, refl, refl, refl)

half_closed_in : (stage : Stage) (client : ClientState) → client.stage ≡ stage → Stays client (half_closed client)
half_closed_in Asking client is = gone client (ap stage_at_half_close is)
half_closed_in Offering client is = gone client (ap stage_at_half_close is)
half_closed_in Reading client is = gone client (ap stage_at_half_close is)
half_closed_in Hearing client is = gone client (ap stage_at_half_close is)
half_closed_in Closing client is = gone client (ap stage_at_half_close is)
half_closed_in Cut client is = gone client (ap stage_at_half_close is)
half_closed_in Waiting client is = goes client (ap stage_at_half_close is ∙ sym is)
half_closed_in Feeding client is = goes client (ap stage_at_half_close is ∙ sym is)
half_closed_in Sending client is = goes client (ap stage_at_half_close is ∙ sym is)
half_closed_in Ending client is = goes client (ap stage_at_half_close is ∙ sym is)

half_closed_stays : (client : ClientState) → Stays client (half_closed client)
half_closed_stays client = half_closed_in client.stage client refl

listens_session : (head : Bool) (old new : ClientState) → Listens head old new → (new.session ≡ old.session) × (needs_none new.stage ≡ true)
listens_session true old new (inl is) = (ap (λ (one : ClientState). one.session) is, ap (λ (one : ClientState). needs_none one.stage) is)
listens_session true old new (inr (lacks, is)) = (ap (λ (one : ClientState). one.session) is, ap (λ (one : ClientState). needs_none one.stage) is)
listens_session false old new (inl (listener, is)) = (ap (λ (one : ClientState). one.session) is, ap (λ (one : ClientState). needs_none one.stage) is)
listens_session false old new (inr is) = (ap (λ (one : ClientState). one.session) is, ap (λ (one : ClientState). needs_none one.stage) is)

pub last_session : (text : List ℕ) (old new : ClientState) → HasLast text old new → (new.session ≡ old.session) × (needs_none new.stage ≡ true)
last_session text old new (inl is) = (ap (λ (one : ClientState). one.session) is, ap (λ (one : ClientState). needs_none one.stage) is)
last_session text old new (inr (lacks, is)) = (ap (λ (one : ClientState). one.session) is, ap (λ (one : ClientState). needs_none one.stage) is)

pub answered_session : (resource : OwnResource) (head : Bool) (old new : ClientState) → IsAnswered resource head old new
    → (new.session ≡ old.session) × (needs_none new.stage ≡ true)
answered_session Live head old new is = listens_session head old new is
answered_session Player head old new is = last_session _ old new is
answered_session Status head old new (numbers, is) = last_session _ old new is

module _ {D : Type 0} (model : DiskModel D) (laws : Laws) where
  -- ---- bytes that come
  -- a session's call leaves the places as they are
  moves : (before after : HubState) (event : Event) (id : ℕ) → hub_step before event after → session_of event ≡ Some id
      → (places now : PlacesState) → now ≡ places → TracksOn before places after now
  moves before after event id step of places now same = tracks_same before after places now (laws.file before after event id step of) same

  -- what a head asks for is taken as that of any connection, or the connection is told that there are too many
  asked_any : (spare : Bool) (password : Option Password) (places : PlacesState) (bytes : List ℕ) (old new : HubParts D) (client after : ClientState)
      → IsAskedIn model spare password places bytes old new client after
      → IsAsked model password places bytes old new client after ⊎ ((new ≡ old) × ((room : ℕ) × HasLast FULL.now (heard room bytes client) after))
  asked_any false password places bytes old new client after asked = inl asked
  asked_any true password places bytes old new client after (same, inl awaits) = inl (inl (same, awaits))
  asked_any true password places bytes old new client after (same, inr (inl (source, set, goes))) = inl (inr (inl (same, source, set, goes)))
  asked_any true password places bytes old new client after (same, inr (inr (inl (Status, head, room, own, answered)))) =
      inl (inr (inr (inl (Status, head, room, own, (λ machine shows. subst (λ (hub : HubParts D). Shows model hub machine) (sym same) shows), answered, tt, tt))))
  asked_any true password places bytes old new client after (same, inr (inr (inl (Live, head, room, own, last)))) = inr (same, (room, last))
  asked_any true password places bytes old new client after (same, inr (inr (inl (Player, head, room, own, last)))) = inr (same, (room, last))
  asked_any true password places bytes old new client after (same, inr (inr (inr (cause, last)))) = inr (same, last)

  received_own : (key other : ℕ) (bytes : List ℕ) (now : ℕ) (old new : Station D) (before : HubState) (client : ClientState)
      → HasReceived model other bytes now old new → get old.clients.slots other ≡ Some client
      → Shows model old.live.hub before → AreApart before old.clients.slots → Sees model key (Received other bytes now) old new before
  received_own key other bytes now old new before client is found shown are =
      let call : ℕ → Call = λ k. Received k bytes now in
      let aside = aside_received key other bytes now in
      elim (receiving client.stage) [
        | inl asks ↦
            let (after, left, asked_in) = is.asks client found asks in
            elim (asked_any (is_spare other old.spare.items) old.options.password old.live.places bytes old.live.hub new.live.hub client after asked_in) [
              | inr (same, (room, last)) ↦
                  keyed_quiet model key other call old new before client after is.others found left same is.recorded.1 (last_session FULL.now (heard room bytes client) after last).0 shown are aside
                  (Declined bytes now refl asks (room, last))
              | inl asked ↦ elim asked [
                | inl (same, inl (may, becomes)) ↦
                    keyed_quiet model key other call old new before client after is.others found left same is.recorded.1 (ap (λ (one : ClientState). one.session) becomes) shown are aside
                    (Awaited bytes now refl asks becomes)
                | inl (same, inr (lacks, becomes)) ↦
                    keyed_quiet model key other call old new before client after is.others found left same is.recorded.1 (ap (λ (one : ClientState). one.session) becomes) shown are aside
                    (WasCut (ap (λ (one : ClientState). one.stage) becomes) (ap (λ (one : ClientState). one.session) becomes) (ap (λ (one : ClientState). one.unsent) becomes) refl (λ given. refl))
                | inr (inl (same, source, some, goes)) ↦
                    keyed_quiet model key other call old new before client after is.others found left same is.recorded.1 goes.1 shown are aside
                    (Offered bytes now refl asks source goes.1 (offered_needs_none after.stage goes.0))
                | inr (inr (inl (resource, head, room, own, keeps, answered, joins, cause))) ↦
                    let (session, none) = answered_session resource head (heard room bytes client) after answered in
                    keyed model key other call old new before before None client after is.others found left (keeps before shown)
                    (tracks_same before before old.live.places new.live.places refl is.recorded.1) (leaves_all None before)
                    (λ id e. absurd (no_session id e)) are
                    (still_apart None before before old.clients.slots new.clients.slots are (leaves_all None before)
                    (had model old.clients.slots new.clients.slots other is.others (had_own model old.clients.slots new.clients.slots other client after found left session)))
                    aside (Answered bytes now resource head refl asks own (room, answered) (joins_here resource head after joins) refl)
                | inr (inr (inr (why, (room, inr (none, same, becomes))))) ↦
                    keyed_quiet model key other call old new before client after is.others found left same is.recorded.1 (ap (λ (one : ClientState). one.session) becomes) shown are aside
                    (WasCut (ap (λ (one : ClientState). one.stage) becomes) (ap (λ (one : ClientState). one.session) becomes) (ap (λ (one : ClientState). one.unsent) becomes) refl (λ given. refl))
                | inr (inr (inr (why, (room, inl connected)))) ↦
                    let id = connected.id in
                    let (between, shows_between, connects) = connected.connects before shown in
                    let (machine, shows_machine, receives) = connected.receives between shows_between in
                    let number : id ≡ before.next_id = connects.1 in
                    let first = leaves_step laws (Some id) before between (Connect (Ok id)) connects (λ one apart below same. apart same) in
                    let second = own_step laws id between machine (Receive id (client.head ++ bytes) connected.progress) receives refl in
                    let leaves = leaves_then (Some id) before between machine first second in
                    let more : before.next_id < machine.next_id =
                    omega (arith, second.rise, ap (λ (one : HubState). one.next_id) connects.2) in
                    keyed model key other call old new before machine (Some id) client after is.others found left shows_machine
                    (tracks_then before between machine old.live.places old.live.places new.live.places
                    (moves before between (Connect (Ok id)) id connects refl old.live.places old.live.places refl)
                    (moves between machine (Receive id (client.head ++ bytes) connected.progress) id receives refl old.live.places new.live.places is.recorded.1)) leaves
                    (λ one e. inr (omega (arith, number, same_some id one e))) are
                    (one_more_apart (Some id) before machine old.clients.slots new.clients.slots other are leaves more
                    (ap session_in left ∙ ap (λ (one : ClientState). one.session) connected.client ∙ ap Some number)
                    (λ one number apart of. sym (ap session_in (is.others one apart)) ∙ of))
                    aside (Connected bytes now id connected.progress between refl asks connects receives (connected.client
                    ∙ ap (λ n. record (heard n bytes client) { stage = stage_after connected.progress; session = Some id; head = [] })
                    (sym (ap (λ (one : ClientState). one.head_room) connected.client))))
              ]
            ]
        | inr (inl reads) ↦ elim (of_session client.session) [
          | inl none ↦
              let (after, left, same, hub) = is.unread client found reads none in
              keyed_quiet model key other call old new before client after is.others found left hub is.recorded.1 same.1 shown are aside
              (Ignored (inr (reads, none)) same (λ id of. refl) refl (λ given. refl))
          | inr (id, of) ↦
              let (progress, steps, left) = is.reads client id found reads of in
              let (machine, shows_machine, receives) = steps before shown in
              let leaves = own_step laws id before machine (Receive id bytes progress) receives refl in
              keyed model key other call old new before machine (Some id) client (with_stage (stage_after progress) (moved client)) is.others found left shows_machine
              (moves before machine (Receive id bytes progress) id receives refl old.live.places new.live.places is.recorded.1) leaves
              (λ one e. inl (of ∙ e)) are
              (still_apart (Some id) before machine old.clients.slots new.clients.slots are leaves
              (had model old.clients.slots new.clients.slots other is.others (had_own model old.clients.slots new.clients.slots other client (with_stage (stage_after progress) (moved client)) found left refl)))
              aside (Read bytes now id progress refl reads of receives refl)
        ]
        | inr (inr (inl source)) ↦
            let (after, left, goes, hub) = is.offers client found source in
            keyed_quiet model key other call old new before client after is.others found left hub is.recorded.1 goes.1 shown are aside
            (Parted source goes.1 (offered_needs_none after.stage goes.0))
        | inr (inr (inr nothing)) ↦
            let (after, left, same, hub) = is.ignores client found nothing in
            keyed_quiet model key other call old new before client after is.others found left hub is.recorded.1 same.1 shown are aside
            (Ignored (inl nothing) same (λ id of. refl) refl (λ given. refl))
      ]
    where
      joins_here : (resource : OwnResource) (head : Bool) (after : ClientState) → Joins model resource head old.live.places old.live.hub after
          → JoinsHere resource head old.live.places before after
      joins_here Live false after joins = λ start tracks hears. joins start before shown tracks hears
      joins_here Live true after joins = tt
      joins_here Player head after joins = tt
      joins_here Status head after joins = tt

      same_some : (one two : ℕ) → Some one ≡ Some two → one ≡ two
      same_some one two e = cc

  -- ---- bytes that are given
  gave_own : (key other size now count : ℕ) (buffer : List ℕ) (old new : Station D) (before : HubState) (client : ClientState)
      → HasGiven model other size now count buffer old new → get old.clients.slots other ≡ Some client
      → Shows model old.live.hub before → AreApart before old.clients.slots → Sees model key (Next other size now count buffer) old new before
  gave_own key other size now count buffer old new before client is found shown are =
      let call : ℕ → Call = λ k. Next k size now count buffer in
      let aside = aside_next key other size now count buffer in
      elim (waits_or_not client.stage) [
        | inl waits ↦
            let (after, left, goes, hub) = is.waits client found waits in
            keyed_quiet model key other call old new before client after is.others found left hub is.recorded.1 goes.1 shown are aside
            (Parted (ap is_source waits) goes.1 (offered_needs_none after.stage goes.0))
        | inr gets ↦
            let (mid, gives, left) = is.gives client found gets in
            let ending = is_over old.air old.ending in
            let after = given_to count ending now mid in
            let session : after.session ≡ client.session = given_session count now ending mid ∙ ap (λ (one : ClientState). one.session) gives.rest in
            elim (empty_or_not client.unsent) [
              | inr some ↦
                  let (hub, same, again) = gives.again some in
                  keyed_quiet model key other call old new before client after is.others found left hub is.recorded.1 session shown are aside
                  (Gave size now count buffer mid ending refl (Again some same again refl) refl)
              | inl none ↦ elim (stage_kind client.stage) [
                | inl sends ↦ elim (of_session client.session) [
                  | inl no_one ↦
                      let (nothing, hub, same) = gives.unconnected none sends no_one in
                      keyed_quiet model key other call old new before client after is.others found left hub is.recorded.1 session shown are aside
                      (Gave size now count buffer mid ending refl (Nothing none nothing same refl) refl)
                  | inr (id, of) ↦
                      let (answer, steps, pulled) = gives.pulls id none sends of in
                      let (machine, shows_machine, pulls) = steps before shown in
                      let leaves = own_step laws id before machine (Pull id size answer) pulls refl in
                      keyed model key other call old new before machine (Some id) client after is.others found left shows_machine
                      (moves before machine (Pull id size answer) id pulls refl old.live.places new.live.places is.recorded.1) leaves
                      (λ one e. inl (of ∙ e)) are
                      (still_apart (Some id) before machine old.clients.slots new.clients.slots are leaves
                      (had model old.clients.slots new.clients.slots other is.others (had_own model old.clients.slots new.clients.slots other client after found left session)))
                      aside (Gave size now count buffer mid ending refl (Pulled id answer none sends of pulls pulled) refl)
                ]
                | inr (inl hears) ↦
                    keyed model key other call old new before before None client after is.others found left (gives.keeps hears before shown)
                    (tracks_same before before old.live.places new.live.places refl is.recorded.1) (leaves_all None before)
                    (λ id e. absurd (no_session id e)) are
                    (still_apart None before before old.clients.slots new.clients.slots are (leaves_all None before)
                    (had model old.clients.slots new.clients.slots other is.others (had_own model old.clients.slots new.clients.slots other client after found left session)))
                    aside (Gave size now count buffer mid ending refl (Heard none hears refl (ap (λ (one : ClientState). one.session) gives.rest) (gives.goes_on hears) (λ moment heard listener of hearing. gives.hears before moment heard listener none hears shown of hearing)) refl)
                | inr (inr (silent, deaf)) ↦
                    let (nothing, hub, same) = gives.nothing none silent deaf in
                    keyed_quiet model key other call old new before client after is.others found left hub is.recorded.1 session shown are aside
                    (Gave size now count buffer mid ending refl (Nothing none nothing same refl) refl)
              ]
            ]
      ]

  -- ---- a connection that is closed
  closed : (key other : ℕ) (old new : Station D) (before : HubState) → IsClosed model other old new
      → Shows model old.live.hub before → AreApart before old.clients.slots → Sees model key (Closed other) old new before
  closed key other old new before is shown are = by (session_in (get old.clients.slots other)) refl
    where
      still : (mine : Option ℕ) (after : HubState) → Leaves mine before after → Shows model new.live.hub after → TracksOn before old.live.places after new.live.places
          → ((id : ℕ) → mine ≡ Some id → session_in (get old.clients.slots other) ≡ Some id) → Sees model key (Closed other) old new before
      still mine after leaves shows_after tracks whose = record {
        machine = after;
        shown = shows_after;
        tracked = tracks;
        grows = leaves.grows;
        apart = still_apart mine before after old.clients.slots new.clients.slots are leaves
            (had model old.clients.slots new.clients.slots other is.others (λ id of. absurd (no_session id (sym (ap session_in is.gone) ∙ of))));
        seen = λ one found. elim (eqb_tells other key) [
          | inl same ↦ inl (ap Closed same.1)
          | inr apart ↦ inr (
            one,
            is.others key (λ e. apart.1 (sym e)) ∙ found,
            Kept (like one) (λ id of. leaves.phases id (λ e. apart.1 (are.apart other key id (whose id e) (ap session_in found ∙ of))) (are.numbered key id (ap session_in found ∙ of)))
                (record { written = refl; received = refl; given = λ bytes. refl }),
          )
        ];
      }

      by : (session : Option ℕ) → session_in (get old.clients.slots other) ≡ session → Sees model key (Closed other) old new before
      by None of =
          let same : new.live.hub ≡ old.live.hub = subst (λ (s : Option ℕ). EndsSession model s old.live.hub new.live.hub) of is.session in
          still None before (leaves_all None before) (stays_shown model old new before same shown)
          (tracks_same before before old.live.places new.live.places refl is.recorded.1) (λ id e. absurd (no_session id e))
      by (Some id) of =
          let (answer, steps) = subst (λ (s : Option ℕ). EndsSession model s old.live.hub new.live.hub) of is.session in
          let (after, shows_after, closes) = steps before shown in
          still (Some id) after (own_step laws id before after (Close id answer) closes refl) shows_after
          (moves before after (Close id answer) id closes refl old.live.places new.live.places is.recorded.1) (λ one e. of ∙ e)

  -- ---- a connection that is accepted
  accepted : (key other now : ℕ) (old new : Station D) (before : HubState) → IsAccepted model now other old new
      → Shows model old.live.hub before → AreApart before old.clients.slots → Sees model key (Accepted now (Ok other)) old new before
  accepted key other now old new before is shown are = record {
    machine = before;
    shown = stays_shown model old new before (ap (λ live. live.hub) is.live) shown;
    tracked = tracks_same before before old.live.places new.live.places refl (ap (λ live. live.places) is.live);
    grows = (leaves_all None before).grows;
    apart = still_apart None before before old.clients.slots new.clients.slots are (leaves_all None before)
        (had model old.clients.slots new.clients.slots other is.others (λ id of. absurd (no_session id (sym (none old.options.most) ∙ of))));
    seen = λ one found. inr (
      one,
      is.others key (λ e. none_is_some one (sym is.none ∙ ap (get old.clients.slots) (sym e) ∙ found)) ∙ found,
      Kept (like one) (λ id of. refl) (record { written = refl; received = refl; given = λ bytes. refl }),
    );
  }
    where
      away : (client : ClientState) → IsTurnedAway now client → client.session ≡ None
      away client (inl told) = ap (λ (one : ClientState). one.session) told
      away client (inr (lacks, short)) = ap (λ (one : ClientState). one.session) short

      none : ℕ → session_in (get new.clients.slots other) ≡ None
      none most = elim (leb_tells old.options.most (slab_len old.clients.slots)) [
        | inl full ↦
            elim (is.too_many full.1) [
              | inl left ↦ ap session_in left
              | inr (client, left, told) ↦ ap session_in left ∙ away client told
            ]
        | inr place ↦ ap session_in (is.some place.1)
      ]

  -- ---- any call
  with_found : (slots : Slab ClientState) (key : ℕ) (P : Type 0) → (get slots key ≡ None → P) → ((client : ClientState) → get slots key ≡ Some client → P) → P
  with_found slots key P none some = by (get slots key) refl
    where
      by : (found : Option ClientState) → get slots key ≡ found → P
      by None is = none is
      by (Some client) is = some client is

  pub sees : (key : ℕ) (call : Call) (old new : Station D) (before : HubState) → IsCall model call old new
      → Shows model old.live.hub before → AreApart before old.clients.slots → Sees model key call old new before
  sees key (Accepted now (Ok other)) old new before is shown are = accepted key other now old new before is shown are
  sees key (Accepted now (Err fault)) old new before is shown are =
      all_passed model key (Accepted now (Err fault)) old new before before (all_stay old.clients.slots new.clients.slots is.0)
      (stays_shown model old new before (ap (λ live. live.hub) is.1) shown)
      (tracks_same before before old.live.places new.live.places refl (ap (λ live. live.places) is.1)) (leaves_all None before) are
      (record { written = refl; received = refl; given = λ bytes. refl })
  sees key (Closed other) old new before is shown are = closed key other old new before is shown are
  sees key (Received other bytes now) old new before is shown are =
      with_found old.clients.slots other (Sees model key (Received other bytes now) old new before)
      (λ none. keyed_none model key other (Received other bytes now) old new before is.others none (ap (λ s. get s.clients.slots other) (is.none none) ∙ none)
      (ap (λ s. s.live.hub) (is.none none)) (ap (λ s. s.live.places) (is.none none)) shown are (aside_received key other bytes now))
      (λ client found. received_own key other bytes now old new before client is found shown are)
  sees key (PeerEnded other) old new before is shown are =
      with_found old.clients.slots other (Sees model key (PeerEnded other) old new before)
      (λ none. keyed_none model key other (PeerEnded other) old new before is.others none (ap (λ s. get s.clients.slots other) (is.none none) ∙ none)
      (ap (λ s. s.live.hub) (is.none none)) (ap (λ s. s.live.places) (is.none none)) shown are (λ apart. record { written = refl; received = refl; given = λ bytes. refl }))
      (λ client found.
      let after = half_closed client in
      let left = is.ends client found in
      let stays = half_closed_stays client in
      keyed_quiet model key other PeerEnded old new before client after is.others found left (ap (λ live. live.hub) is.live) (ap (λ live. live.places) is.live) (stays_session client after stays) shown are
      (λ apart. record { written = refl; received = refl; given = λ bytes. refl })
      (kept_by key (PeerEnded key) old.live.places before client after stays (record { written = refl; received = refl; given = λ bytes. refl })))
  sees key (Next other size now count buffer) old new before is shown are =
      with_found old.clients.slots other (Sees model key (Next other size now count buffer) old new before)
      (λ none. keyed_none model key other (Next other size now count buffer) old new before is.others none (is.none none).0 (is.none none).1 is.recorded.1 shown are (aside_next key other size now count buffer))
      (λ client found. gave_own key other size now count buffer old new before client is found shown are)
  sees key (Wrote other bytes count now) old new before is shown are =
      with_found old.clients.slots other (Sees model key (Wrote other bytes count now) old new before)
      (λ none. keyed_none model key other (Wrote other bytes count now) old new before is.others none (ap (λ s. get s.clients.slots other) (is.none none) ∙ none)
      (ap (λ s. s.live.hub) (is.none none)) (ap (λ s. s.live.places) (is.none none)) shown are (aside_wrote key other bytes count now))
      (λ client found.
      let (mid, written, left) = is.written client found in
      let stays = moved_stays count now mid in
      keyed_quiet model key other (λ k. Wrote k bytes count now) old new before client (moved_if count now mid) is.others found left (ap (λ live. live.hub) is.live) (ap (λ live. live.places) is.live)
      (stays_session mid (moved_if count now mid) stays ∙ written_session bytes count client mid written) shown are (aside_wrote key other bytes count now)
      (Told bytes count mid (record {
        written = cond-true (nat_eq key key) (take count bytes) [] (own_key key);
        received = refl;
        given = λ kept. cond-true (nat_eq key key) [] kept (own_key key);
        told = λ kept tells. tells refl;
      }) written stays (λ id of. refl)))
  sees key (ReadFailed other trouble) old new before is shown are =
      with_found old.clients.slots other (Sees model key (ReadFailed other trouble) old new before)
      (λ none. keyed_none model key other (ReadFailed other trouble) old new before is.others none (is.none none) (ap (λ live. live.hub) is.live) (ap (λ live. live.places) is.live) shown are
      (λ apart. record { written = refl; received = refl; given = λ bytes. refl }))
      (λ client found.
      keyed_quiet model key other (λ k. ReadFailed k trouble) old new before client (unread_by trouble client) is.others found (is.failed client found) (ap (λ live. live.hub) is.live) (ap (λ live. live.places) is.live)
      (stays_session client (unread_by trouble client) (unread trouble client)) shown are
      (λ apart. record { written = refl; received = refl; given = λ bytes. refl })
      (kept_by key (ReadFailed key trouble) old.live.places before client (unread_by trouble client) (unread trouble client) (record { written = refl; received = refl; given = λ bytes. refl })))
  sees key (WriteFailed other bytes trouble) old new before is shown are =
      with_found old.clients.slots other (Sees model key (WriteFailed other bytes trouble) old new before)
      (λ none. keyed_none model key other (WriteFailed other bytes trouble) old new before is.others none (is.none none) (ap (λ live. live.hub) is.live) (ap (λ live. live.places) is.live) shown are
      (aside_write_failed key other bytes trouble))
      (λ client found.
      let (kept, written, left) = is.failed client found in
      keyed_quiet model key other (λ k. WriteFailed k bytes trouble) old new before client (unwritten_by trouble kept) is.others found left (ap (λ live. live.hub) is.live) (ap (λ live. live.places) is.live)
      (stays_session kept (unwritten_by trouble kept) (unwritten trouble kept) ∙ written_session bytes 0 client kept written) shown are (aside_write_failed key other bytes trouble)
      (Told bytes 0 kept (record {
        written = refl;
        received = refl;
        given = λ held. cond-true (nat_eq key key) [] held (own_key key);
        told = λ held tells. (tells refl, omega arith);
      }) written (unwritten trouble kept) (λ id of. refl)))
  sees key (Woken other readable writable) old new before is shown are =
      with_found old.clients.slots other (Sees model key (Woken other readable writable) old new before)
      (λ none. keyed_none model key other (Woken other readable writable) old new before is.others none (ap (λ s. get s.clients.slots other) (is.none none) ∙ none)
      (ap (λ s. s.live.hub) (is.none none)) (ap (λ s. s.live.places) (is.none none)) shown are (λ apart. record { written = refl; received = refl; given = λ bytes. refl }))
      (λ client found.
      let (after, left, same) = has_turn other (told_by readable writable client) old.clients new.clients (is.turn client found) in
      keyed_quiet model key other (λ k. Woken k readable writable) old new before client after is.others found left (ap (λ s. s.live.hub) is.rest) (ap (λ s. s.live.places) is.rest) same.1 shown are
      (λ apart. record { written = refl; received = refl; given = λ bytes. refl })
      (Kept same (λ id of. refl) (record { written = refl; received = refl; given = λ bytes. refl })))
  sees key (NextTurn None) old new before is shown are =
      all_passed model key (NextTurn None) old new before before (all_stay old.clients.slots new.clients.slots is.0)
      (stays_shown model old new before (ap (λ live. live.hub) is.1) shown)
      (tracks_same before before old.live.places new.live.places refl (ap (λ live. live.places) is.1)) (leaves_all None before) are
      (record { written = refl; received = refl; given = λ bytes. refl })
  sees key (NextTurn (Some other)) old new before is shown are =
      with_found old.clients.slots other (Sees model key (NextTurn (Some other)) old new before)
      (λ none. keyed_none model key other (NextTurn (Some other)) old new before is.others none (is.gone none) (ap (λ live. live.hub) is.live) (ap (λ live. live.places) is.live) shown are
      (λ apart. record { written = refl; received = refl; given = λ bytes. refl }))
      (λ client found.
      keyed_quiet model key other (λ k. NextTurn (Some k)) old new before client (with_line (taken_off client.line) client) is.others found (is.begins client found) (ap (λ live. live.hub) is.live) (ap (λ live. live.places) is.live)
      refl shown are (λ apart. record { written = refl; received = refl; given = λ bytes. refl })
      (Kept (refl, refl, refl, refl, refl) (λ id of. refl) (record { written = refl; received = refl; given = λ bytes. refl })))
  sees key (Turned other now) old new before is shown are =
      with_found old.clients.slots other (Sees model key (Turned other now) old new before)
      (λ none. keyed_none model key other (Turned other now) old new before is.others none (is.none none) (ap (λ live. live.hub) is.live) (ap (λ live. live.places) is.live) shown are
      (λ apart. record { written = refl; received = refl; given = λ bytes. refl }))
      (λ client found.
      let (after, left, stays) = is.stays client found in
      elim stays [
        | inl same ↦
            keyed_quiet model key other (λ k. Turned k now) old new before client after is.others found left (ap (λ live. live.hub) is.live) (ap (λ live. live.places) is.live) same.1 shown are
            (λ apart. record { written = refl; received = refl; given = λ bytes. refl })
            (Kept same (λ id of. refl) (record { written = refl; received = refl; given = λ bytes. refl }))
        | inr (shuts, same) ↦
            keyed_quiet model key other (λ k. Turned k now) old new before client after is.others found left (ap (λ live. live.hub) is.live) (ap (λ live. live.places) is.live) same.1 shown are
            (λ apart. record { written = refl; received = refl; given = λ bytes. refl })
            (Shut shuts same (λ id of. refl) (record { written = refl; received = refl; given = λ bytes. refl }))
      ])
  sees key (Looked now) old new before is shown are =
      all_passed model key (Looked now) old new before before
      (elim (leb_tells 1000 (now - old.looked)) [
        | inl late ↦ looked now old.clients new.clients (is.late late.1)
        | inr early ↦ all_stay old.clients.slots new.clients.slots (λ one. ap (λ s. get s.clients.slots one) (is.early early.1))
      ])
      (stays_shown model old new before (ap (λ live. live.hub) is.live) shown)
      (tracks_same before before old.live.places new.live.places refl (ap (λ live. live.places) is.live)) (leaves_all None before) are
      (record { written = refl; received = refl; given = λ bytes. refl })
  sees key (Stepped now) old new before is shown are =
      let (after, shows_after, tracks, leaves) = side_records laws model None old.live new.live before is.records shown in
      all_passed model key (Stepped now) old new before after is.passed shows_after tracks leaves are
      (record { written = refl; received = refl; given = λ bytes. refl })
  sees key EndedOpen old new before is shown are =
      let (after, shows_after, tracks, leaves) = side_records laws model None old.live new.live before is.0 shown in
      all_passed model key EndedOpen old new before after
      (all_stay old.clients.slots new.clients.slots (λ one. ap (λ clients. get clients.slots one) is.1)) shows_after tracks leaves are
      (record { written = refl; received = refl; given = λ bytes. refl })
  sees key Aside old new before is shown are =
      all_passed model key Aside old new before before
      (all_stay old.clients.slots new.clients.slots (λ one. ap (λ clients. get clients.slots one) is.0))
      (stays_shown model old new before (ap (λ live. live.hub) is.1) shown)
      (tracks_same before before old.live.places new.live.places refl (ap (λ live. live.places) is.1)) (leaves_all None before) are
      (record { written = refl; received = refl; given = λ bytes. refl })
