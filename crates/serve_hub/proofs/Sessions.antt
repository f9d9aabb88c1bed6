-- The machine of a hub, with other sessions.
use Rattle.std.proofs.Common.{◌≡◌, ℕ, ◌+◌, ◌<◌, ◌≤◌, ◌^◌, true, false, Option, Some, None, Ok, Err, List, [], ◌∷◌, ◌++◌, length, refl, sym, ap, subst, ◌∙◌, arith, inl, inr}
use Rattle.std.specs.Prelude.{is_some, nat_le}
use Rattle.std.proofs.lemmas.Bool.{cases_Bool, or_left, or_cases, le-leb, leb-true}
use Rattle.disk_model.specs.declared.disk.Disk.{Ghosts as DiskModel}
use Rattle.disk_model.specs.Image.{DiskState, IsImage}
use Rattle.link_index.specs.Adding.{IndexState, IsIndexOf}
use Rattle.file_recorder.specs.Recorder.{RecorderState, IsRecorder, committed, staged}
use Rattle.serve_machine.specs.Hub.{HubState, IsNewFor, Event, Phase, Reading, Session, close_step, connect_step, hub_step, is_full, with_session, without_in, without_session, phase_in}
use Rattle.serve_machine.specs.declared.fault.HubFault.TheVariants.{NoSession}
use Rattle.serve_sessions.specs.Indexing.{IsOfFront}
use Rattle.serve_sessions.specs.Laws.Found.{as_many, found, not_found}
use Rattle.serve_sessions.specs.Sessions.{AreSessions, place_in}
use Rattle.serve_sessions.specs.declared.session.Session.{Session as SessionParts}
use Rattle.serve_hub.specs.declared.opening.Lost.{Lost}
use Rattle.serve_hub.specs.Parts.{hub_parts, next_of}
use Rattle.serve_hub.specs.Showing.{FindsLinks, ShowsPlace, Shows}
use Rattle.serve_hub.proofs.Linked.{new_linked}
use Rattle.serve_hub.proofs.Stepping.{shows_good}

-- the session with this number is there
closes_it : (phase : Option Phase) (m : HubState) (id : ℕ) → is_some phase ≡ true → close_step phase m id (Ok tt) (without_session id m)
closes_it None m id there = cc
closes_it (Some phase) m id there = (refl, refl)

pub full : (m : HubState) (parts : List SessionParts) (room : ℕ) → m.room ≡ room → AreSessions m.committed parts m.sessions → room ≤ length parts → is_full m ≡ true
full m parts room is are many =
    or_left (nat_le m.room (length m.sessions)) (nat_le (2 ^ 64) m.next_id)
    (le-leb m.room (length m.sessions) (let n = as_many m.committed parts m.sessions are in omega (arith, n, is, many)))

not_full : (m : HubState) (parts : List SessionParts) (room : ℕ) → m.room ≡ room → AreSessions m.committed parts m.sessions → length parts < room → m.next_id < 2 ^ 64 → is_full m ≡ false
not_full m parts room same are few short =
    elim (cases_Bool (is_full m)) [
      | inl is ↦
          elim (or_cases (nat_le m.room (length m.sessions)) (nat_le (2 ^ 64) m.next_id) is) [
            | inl many ↦ let h = leb-true m.room (length m.sessions) many in let n = as_many m.committed parts m.sessions are in absurd (omega (arith, h, n, same, few))
            | inr last ↦ let h = leb-true (2 ^ 64) m.next_id last in absurd (omega (arith, h, short))
          ]
      | inr isnt ↦ isnt
    ]

module _ {D : Type 0} (model : DiskModel D) where
  pub other_sessions : (file : Option (RecorderState D)) (lost : Option (Lost D)) (m : HubState) (sessions : List Session) (next : ℕ)
      → ShowsPlace model file lost m → ShowsPlace model file lost (record m { sessions = sessions; next_id = next })
  other_sessions (Some r) lost m sessions next s = record {
    honest = s.honest;
    has_file = s.has_file;
    committed_is = s.committed_is;
    held_is = s.held_is;
    waiting_is = s.waiting_is;
    most_is = s.most_is;
    count_is = s.count_is;
    failed_is = s.failed_is;
    images = s.images;
  }
  other_sessions None (Some l) m sessions next s = record {
    honest = s.honest;
    has_file = s.has_file;
    committed_is = s.committed_is;
    long = s.long;
    held_is = s.held_is;
    waiting_is = s.waiting_is;
    most_is = s.most_is;
    count_is = s.count_is;
    images = s.images;
  }
  other_sessions None None m sessions next s = absurd s

  module _ (file : Option (RecorderState D)) (lost : Option (Lost D)) (index : IndexState) (sessions : List SessionParts) (next : Option ℕ) (most room : ℕ)
      (m : HubState) (s : Shows model (hub_parts file lost index sessions next most room) m) where
    pub closes : (id place : ℕ) (left : List SessionParts) → place_in id sessions ≡ Some place
        → ((committed : List ℕ) (machine : List Session) → AreSessions committed sessions machine → AreSessions committed left (without_in id machine))
        → (after : HubState) × Shows model (hub_parts file lost index left next most room) after × close_step (phase_in id m.sessions) m id (Ok tt) after
    closes id place left at ends =
        let f = found m.committed id place sessions m.sessions s.sessions_are at in (
          without_session id m,
          record {
            place = other_sessions file lost m (without_in id m.sessions) m.next_id s.place;
            linked = s.linked;
            indexed = s.indexed;
            sessions_are = ends m.committed m.sessions s.sessions_are;
            next_is = s.next_is;
            most_is = s.most_is;
            room_is = s.room_is;
          },
          closes_it (phase_in id m.sessions) m id (ap (λ (o : Option Phase). is_some o) f.phase_is),
        )

    pub closes_none : (id : ℕ) → place_in id sessions ≡ None
        → (after : HubState) × Shows model (hub_parts file lost index sessions next most room) after × close_step (phase_in id m.sessions) m id (Err NoSession) after
    closes_none id at =
        (m, s, subst (λ (o : Option Phase). close_step o m id (Err NoSession) m) (sym (not_found m.committed id sessions m.sessions s.sessions_are at)) (refl, refl))

    -- another session
    pub connects : (id : ℕ) (now : List SessionParts) (next_now : Option ℕ) → next ≡ Some id → id < 2 ^ 64 → next_of next_now ≡ id + 1 → length sessions < room
        → ((committed : List ℕ) (machine : List Session) → AreSessions committed sessions machine → AreSessions committed now (machine ++ record { id = id; phase = Reading [] } ∷ []))
        → (after : HubState) × Shows model (hub_parts file lost index now next_now most room) after × connect_step m (Ok id) after
    connects id now next_now is short more few adds =
        let number : m.next_id ≡ id = s.next_is ∙ ap next_of is in (
          with_session m,
          record {
            place = other_sessions file lost m (m.sessions ++ record { id = m.next_id; phase = Reading [] } ∷ []) (m.next_id + 1) s.place;
            linked = s.linked;
            indexed = s.indexed;
            sessions_are = subst (λ (n : ℕ). AreSessions m.committed now (m.sessions ++ record { id = n; phase = Reading [] } ∷ [])) (sym number) (adds m.committed m.sessions s.sessions_are);
            next_is = ap (λ (n : ℕ). n + 1) number ∙ sym more;
            most_is = s.most_is;
            room_is = s.room_is;
          },
          (not_full m sessions room s.room_is s.sessions_are few (omega (arith, number, short)), sym number, refl),
        )

    -- a call of the recorder
    pub goes_on : (file_now : Option (RecorderState D)) (lost_now : Option (Lost D)) (after : HubState) (event : Event)
        → ((before after : HubState) (event : Event) (index : IndexState) (parts : List SessionParts) → hub_step before event after → after.sessions ≡ before.sessions
        → IsOfFront before.committed index → AreSessions before.committed parts before.sessions → IsOfFront after.committed index × AreSessions after.committed parts after.sessions)
        → ShowsPlace model file_now lost_now after → FindsLinks after → hub_step m event after → after.sessions ≡ m.sessions → after.next_id ≡ m.next_id → after.room ≡ m.room → (most_now : ℕ) → after.most_after_reopening ≡ most_now
        → Shows model (hub_parts file_now lost_now index sessions next most_now room) after
    goes_on file_now lost_now after event law place linked step same numbers rooms most_now most_is =
        let (front, are) = law m after event index sessions step same s.indexed s.sessions_are in
        record { place = place; linked = linked; indexed = front; sessions_are = are; next_is = numbers ∙ s.next_is; most_is = most_is; room_is = rooms ∙ s.room_is }

  -- a new hub
  pub new_shows : (room : ℕ) (r : RecorderState D) (index : IndexState) (sessions : List SessionParts) → sessions ≡ [] → IsIndexOf [] index → IsRecorder model r → r.file.failed ≡ false → model.is_honest r.file.disk
      → IsImage (model.state r.file.disk) (model.state r.file.disk).contents → (m : HubState) × Shows model (hub_parts (Some r) None index sessions (Some 0) 1 room) m × IsNewFor room m
  new_shows room r index sessions none empty always good honest image =
      let m : HubState = record {
        committed = committed model.state r;
        held = staged model.state r;
        waiting = r.held;
        most = r.most;
        most_after_reopening = 1;
        count = r.kept + r.held;
        in_doubt = None;
        has_file = true;
        sessions = [];
        next_id = 0;
        room = room;
      } in (
        m,
        record {
          place = shows_good model r m honest always good refl refl refl refl refl refl refl;
          linked = new_linked model r m always good honest image refl refl;
          indexed = record {
            front = [];
            rest = committed model.state r;
            split = refl;
            added = record { pages = []; rest = []; after = []; are_pages = tt; spelled = refl; taken = refl; is_index = empty; left = refl };
          };
          sessions_are = subst (λ (l : List SessionParts). AreSessions (committed model.state r) l []) (sym none) tt;
          next_is = refl;
          most_is = refl;
          room_is = refl;
        },
        record { file = refl; sessions = refl; numbers = refl; group = refl; room = refl },
      )
