-- How long a source waits for the air, and how long it may be silent.
use Rattle.std.proofs.Common.{◌≡◌, ◌≢◌, ◌⊎◌, ◌<◌, ◌≤◌, ◌+◌, ◌-◌, ◌&&◌, ℕ, zero, suc, Bool, true, false, if◌then◌else◌, Option, None, Some, Ok, Err, List, [], ◌∷◌, drop, take, refl, sym, ◌∙◌, ap, subst, inl, inr, arith}
use Rattle.std.specs.Prelude.{nat_eq}
use Rattle.std.proofs.lemmas.Bool.{cases_Bool}
use Rattle.std.proofs.lemmas.Bool.Decides.{eqb_tells, leb_tells}
use Rattle.disk_model.specs.declared.disk.Disk.{Ghosts as DiskModel}
use Rattle.import_changes.specs.declared.options.Skeletons.{Skeletons}
use Rattle.serve_clients.specs.Client.{ClientState, HasLast, HasWritten, after_in, after_of, ended_if, given as given_to, is_hearing, moved_if, with_line, with_more}
use Rattle.serve_clients.specs.Clients.{HasTurn, MayHaveTurn, told_by, unread_by, unwritten_by, with_turn}
use Rattle.serve_clients.specs.Line.{moved_on, taken_off}
use Rattle.serve_clients.specs.Patience.{is_overdue, is_over_by, is_refused, is_refused_in, looked_at, patience}
use Rattle.serve_clients.specs.declared.client.After.TheVariants.{Shuts}
use Rattle.serve_clients.specs.declared.client.Stage.{Stage}
use Rattle.serve_clients.specs.declared.client.Stage.TheVariants.{Waiting, Feeding, Ending, Cut}
use Rattle.serve_clients.specs.declared.line.Trouble.{Trouble}
use Rattle.serve_clients.specs.declared.line.Trouble.TheVariants.{Blocked, Interrupted, Broken}
use Rattle.serve_sources.specs.Answers.{refusal}
use Rattle.serve_sources.specs.declared.body.Body.{Body}
use Rattle.serve_sources.specs.declared.offer.Offer.{Offer}
use Rattle.serve_sources.specs.declared.offer.Offer.TheVariants as Offered
use Rattle.serve_sources.specs.declared.password.Password.{Password}
use Rattle.serve_sources.specs.declared.refused.Refused.TheVariants.{OnTheAir}
use Rattle.slab.specs.Slab.{get}
use Rattle.station_sources.specs.declared.air.OnAir.{OnAir}
use Rattle.station.specs.Ending.{is_over}
use Rattle.station.specs.Kept.{InPlace, IsKept}
use Rattle.station.specs.Offering.{GetsAir, IsOffered, Leads}
use Rattle.station.specs.Parting.{HasParted}
use Rattle.station.specs.Succeeding.{is_waiting}
use Rattle.station.specs.Turning.{half_closed, stage_at_half_close}
use Rattle.station.specs.declared.station.Station.{Station}
use Rattle.station_laws.specs.Calling.{Accepted, After, Aside, AreCalls, Call, Closed, EndedOpen, HasGiven, HasLooked, HasPeerEnded, HasReadFailed, HasReceived, HasStepped, HasTurnNow, HasTurned, HasWriteFailed, IsCall, IsWoken, Looked, Next, NextTurn, PeerEnded, ReadFailed, Received, Stepped, Turned, WasWritten, Woken, WriteFailed, Wrote, left_by}
use Rattle.station_laws.specs.Patience.{AreNotBefore, IsAt, IsNotBefore, StaysAt, WaitsSince}
use Rattle.station_laws.specs.Written.{AreTold, IsTold, given_after}

-- ---- keys
by_key : (A : Type 0) (other key : ℕ) → (other ≡ key → A) → (key ≢ other → A) → A
by_key A other key own apart = elim (eqb_tells other key) [
  | inl is ↦ own is.1
  | inr not ↦ apart (λ e. not.1 (sym e))
]

none_some : (found : Option ClientState) (client : ClientState) → found ≡ None → found ≡ Some client → ⊥
none_some None client none is = cc
none_some (Some one) client none is = cc

same_client : (found : Option ClientState) (one other : ClientState) → found ≡ Some one → found ≡ Some other → one ≡ other
same_client None one other is same = cc
same_client (Some client) one other is same = cc

-- ---- stages
at_stage : (stage : Stage) (found : Option ClientState) (client : ClientState) → IsAt stage found → found ≡ Some client → client.stage ≡ stage
at_stage stage None client at is = absurd at
at_stage stage (Some one) client at is = ap (λ (it : Option ClientState). stage_in it) (sym is) ∙ at
  where
    stage_in : Option ClientState → Stage
    stage_in None = stage
    stage_in (Some it) = it.stage

some_at : (stage : Stage) (found : Option ClientState) → IsAt stage found → (client : ClientState) × (found ≡ Some client)
some_at stage None at = absurd at
some_at stage (Some client) at = (client, refl)

cut_waits : Cut ≡ Waiting → ⊥
cut_waits e = cc

ending_waits : Ending ≡ Waiting → ⊥
ending_waits e = cc

feeding_waits : Feeding ≡ Waiting → ⊥
feeding_waits e = cc

cut_feeds : Cut ≡ Feeding → ⊥
cut_feeds e = cc

ending_feeds : Ending ≡ Feeding → ⊥
ending_feeds e = cc

-- who was told the last, or was cut, doesn't wait
last_waits : (text : List ℕ) (old new : ClientState) → HasLast text old new → new.stage ≡ Waiting → ⊥
last_waits text old new (inl is) waits = ending_waits (ap (λ (one : ClientState). one.stage) (sym is) ∙ waits)
last_waits text old new (inr (lacks, is)) waits = cut_waits (ap (λ (one : ClientState). one.stage) (sym is) ∙ waits)

-- ---- what is given
given_stage : (count now : ℕ) (over : Bool) (client : ClientState) → is_hearing client.stage ≡ false → (given_to count over now client).stage ≡ client.stage
given_stage zero now over client hears =
    ap (λ (b : Bool). (ended_if (b && over) (record client { idle = true })).stage) hears
given_stage (suc count) now over client hears = either client.idle
  where
    either : (b : Bool) → (if b then record client { idle = false; since = now } else client).stage ≡ client.stage
    either true = refl
    either false = refl

given_nothing : (now : ℕ) (over : Bool) (client : ClientState) → is_hearing client.stage ≡ false → given_to zero over now client ≡ record client { idle = true }
given_nothing now over client hears = ap (λ (b : Bool). ended_if (b && over) (record client { idle = true })) hears

given_later : (since count now : ℕ) (over : Bool) (client : ClientState) → since ≤ client.since → since ≤ now → since ≤ (given_to count over now client).since
given_later since zero now over client before after = ended (is_hearing client.stage && over)
  where
    ended : (b : Bool) → since ≤ (ended_if b (record client { idle = true })).since
    ended true = before
    ended false = before
given_later since (suc count) now over client before after = either client.idle
  where
    either : (b : Bool) → since ≤ (if b then record client { idle = false; since = now } else client).since
    either true = after
    either false = before

moved_later : (since count now : ℕ) (client : ClientState) → since ≤ client.since → since ≤ now → since ≤ (moved_if count now client).since
moved_later since zero now client before after = before
moved_later since (suc count) now client before after = after

written_since : (bytes : List ℕ) (count : ℕ) (old new : ClientState) → HasWritten bytes count old new → new.since ≡ old.since
written_since bytes count old new (inl (some, is)) = ap (λ (one : ClientState). one.since) is
written_since bytes count old new (inr (none, inl is)) = ap (λ (one : ClientState). one.since) is
written_since bytes count old new (inr (none, inr (lacks, is))) = ap (λ (one : ClientState). one.since) is

unread_since : (trouble : Trouble) (client : ClientState) → (unread_by trouble client).since ≡ client.since
unread_since Blocked client = refl
unread_since Interrupted client = refl
unread_since Broken client = refl

unwritten_since : (trouble : Trouble) (client : ClientState) → (unwritten_by trouble client).since ≡ client.since
unwritten_since Blocked client = refl
unwritten_since Interrupted client = refl
unwritten_since Broken client = refl

looked_since : (client : ClientState) (now : ℕ) → (looked_at client now).since ≡ client.since
looked_since client now = either (is_overdue client now)
  where
    either : (b : Bool) → (if b then record client { stage = Cut } else client).since ≡ client.since
    either true = refl
    either false = refl

turn_since : (key : ℕ) (client after : ClientState) (found : Option ClientState) → (found ≡ Some client) ⊎ (found ≡ Some (with_turn client))
    → found ≡ Some after → after.since ≡ client.since
turn_since key client after found (inl is) left = ap (λ (one : ClientState). one.since) (same_client found after client left is)
turn_since key client after found (inr is) left = ap (λ (one : ClientState). one.since) (same_client found after (with_turn client) left is)

-- ---- one that waits
module _ {D : Type 0} (model : DiskModel D) where
  -- the same connection, but for how its socket stands
  still : (key since : ℕ) (old new : Station D) (w : WaitsSince key since old) (after : ClientState) → get new.clients.slots key ≡ Some after
      → after.stage ≡ Waiting → after.since ≡ w.client.since → after.unsent ≡ w.client.unsent → WaitsSince key since new
  still key since old new w after left stage same unsent =
      record { client = after; found = left; waits = stage; since_is = same ∙ w.since_is; told = unsent ∙ w.told }

  aside : (key since : ℕ) (old new : Station D) → WaitsSince key since old → get new.clients.slots key ≡ get old.clients.slots key → WaitsSince key since new
  aside key since old new w same = still key since old new w w.client (same ∙ w.found) w.waits refl refl

  not_hearing : (client : ClientState) → client.stage ≡ Waiting → is_hearing client.stage ≡ false
  not_hearing client waits = ap is_hearing waits

  own_received : (key since now : ℕ) (bytes : List ℕ) (old new : Station D) → WaitsSince key since old → HasReceived model key bytes now old new → WaitsSince key since new
  own_received key since now bytes old new w has =
      still key since old new w (with_line (moved_on w.client.line) w.client) (has.waits w.client w.found w.waits) w.waits refl refl

  own_ended : (key since : ℕ) (old new : Station D) → WaitsSince key since old → HasPeerEnded model key old new → WaitsSince key since new
  own_ended key since old new w has =
      still key since old new w (half_closed w.client) (has.ends w.client w.found) (ap stage_at_half_close w.waits) refl refl

  -- nothing is given for it, as long as it isn't refused
  given_none : (key since size now count : ℕ) (buffer : List ℕ) (old new : Station D) (w : WaitsSince key since old)
      → HasGiven model key size now count buffer old new → IsAt Waiting (get new.clients.slots key) → (is_refused w.client now ≡ false) × (count ≡ 0)
  given_none key since size now count buffer old new w has at = elim (cases_Bool (is_refused w.client now)) [
    | inl refused ↦
        let (after, last, left) = has.refuses w.client w.found w.waits refused in
        absurd (told after last left)
    | inr not ↦ (not, has.silent w.client w.found w.waits not w.told)
  ]
    where
      last_hears : (after : ClientState) → HasLast (refusal OnTheAir) w.client after → is_hearing after.stage ≡ false
      last_hears after (inl is) = ap (λ (one : ClientState). is_hearing one.stage) is
      last_hears after (inr (lacks, is)) = ap (λ (one : ClientState). is_hearing one.stage) is

      told : (after : ClientState) → HasLast (refusal OnTheAir) w.client after
          → get new.clients.slots key ≡ Some (given_to count (is_over old.air old.ending) now after) → ⊥
      told after last left =
          last_waits (refusal OnTheAir) w.client after last
          (sym (given_stage count now (is_over old.air old.ending) after (last_hears after last))
          ∙ at_stage Waiting (get new.clients.slots key) (given_to count (is_over old.air old.ending) now after) at left)

  own_given : (key since size now count : ℕ) (buffer : List ℕ) (old new : Station D) → WaitsSince key since old
      → HasGiven model key size now count buffer old new → IsAt Waiting (get new.clients.slots key) → WaitsSince key since new
  own_given key since size now count buffer old new w has at =
      let (not, none) = given_none key since size now count buffer old new w has at in
      let over = is_over old.air old.ending in
      still key since old new w (record w.client { idle = true })
      (has.goes_on w.client w.found w.waits not ∙ ap (λ (n : ℕ). Some (given_to n over now w.client)) none
      ∙ ap (λ (one : ClientState). Some one) (given_nothing now over w.client (not_hearing w.client w.waits))) w.waits refl refl

  own_wrote : (key since now count : ℕ) (bytes : List ℕ) (old new : Station D) → WaitsSince key since old → WasWritten model key bytes count now old new
      → bytes ≡ [] → count ≤ 0 → IsAt Waiting (get new.clients.slots key) → WaitsSince key since new
  own_wrote key since now count bytes old new w has none few at =
      let zero_is : count ≡ 0 = omega (arith, few) in
      let (after, written, left) = has.written w.client w.found in
      let found : get new.clients.slots key ≡ Some after = left ∙ ap (λ (n : ℕ). Some (moved_if n now after)) zero_is in
      wrote after found zero_is written
    where
      wrote : (after : ClientState) → get new.clients.slots key ≡ Some after → count ≡ 0 → HasWritten bytes count w.client after → WaitsSince key since new
      wrote after found zero_is (inl (some, is)) = absurd (some w.told)
      wrote after found zero_is (inr (empty, inl is)) =
          still key since old new w after found (ap (λ (one : ClientState). one.stage) is ∙ w.waits) (ap (λ (one : ClientState). one.since) is)
          (ap (λ (one : ClientState). one.unsent) is ∙ ap (λ (n : ℕ). drop n bytes) zero_is ∙ none ∙ sym w.told)
      wrote after found zero_is (inr (empty, inr (lacks, is))) =
          absurd (cut_waits (ap (λ (one : ClientState). one.stage) (sym is) ∙ at_stage Waiting (get new.clients.slots key) after at found))

  own_unread : (key since : ℕ) (trouble : Trouble) (old new : Station D) → WaitsSince key since old → HasReadFailed model key trouble old new
      → IsAt Waiting (get new.clients.slots key) → WaitsSince key since new
  own_unread key since trouble old new w has at = failed trouble (has.failed w.client w.found)
    where
      failed : (t : Trouble) → get new.clients.slots key ≡ Some (unread_by t w.client) → WaitsSince key since new
      failed Blocked left = still key since old new w (unread_by Blocked w.client) left w.waits refl refl
      failed Interrupted left = still key since old new w (unread_by Interrupted w.client) left w.waits refl refl
      failed Broken left = absurd (cut_waits (at_stage Waiting (get new.clients.slots key) (unread_by Broken w.client) at left))

  own_unwritten : (key since : ℕ) (bytes : List ℕ) (trouble : Trouble) (old new : Station D) → WaitsSince key since old → HasWriteFailed model key bytes trouble old new
      → bytes ≡ [] → IsAt Waiting (get new.clients.slots key) → WaitsSince key since new
  own_unwritten key since bytes trouble old new w has none at =
      let (kept, written, left) = has.failed w.client w.found in
      wrote kept left written
    where
      cut_in : (t : Trouble) (kept : ClientState) → kept.stage ≡ Cut → (unwritten_by t kept).stage ≡ Cut
      cut_in Blocked kept is = is
      cut_in Interrupted kept is = is
      cut_in Broken kept is = refl

      failed : (t : Trouble) (kept : ClientState) → get new.clients.slots key ≡ Some (unwritten_by t kept) → kept ≡ record w.client { unsent = bytes; room = kept.room }
          → WaitsSince key since new
      failed Blocked kept left is =
          still key since old new w (unwritten_by Blocked kept) left (ap (λ (one : ClientState). one.stage) is ∙ w.waits) (ap (λ (one : ClientState). one.since) is)
          (ap (λ (one : ClientState). one.unsent) is ∙ none ∙ sym w.told)
      failed Interrupted kept left is =
          still key since old new w (unwritten_by Interrupted kept) left (ap (λ (one : ClientState). one.stage) is ∙ w.waits) (ap (λ (one : ClientState). one.since) is)
          (ap (λ (one : ClientState). one.unsent) is ∙ none ∙ sym w.told)
      failed Broken kept left is = absurd (cut_waits (at_stage Waiting (get new.clients.slots key) (unwritten_by Broken kept) at left))

      wrote : (kept : ClientState) → get new.clients.slots key ≡ Some (unwritten_by trouble kept) → HasWritten bytes 0 w.client kept → WaitsSince key since new
      wrote kept left (inl (some, is)) = absurd (some w.told)
      wrote kept left (inr (empty, inl is)) = failed trouble kept left is
      wrote kept left (inr (empty, inr (lacks, is))) =
          absurd (cut_waits (sym (cut_in trouble kept (ap (λ (one : ClientState). one.stage) is))
          ∙ at_stage Waiting (get new.clients.slots key) (unwritten_by trouble kept) at left))

  own_woken : (key since : ℕ) (readable writable : Bool) (old new : Station D) → WaitsSince key since old → IsWoken model key readable writable old new → WaitsSince key since new
  own_woken key since readable writable old new w has = turn (has.turn w.client w.found)
    where
      client : ClientState
      client = told_by readable writable w.client

      turn : HasTurn key client old.clients new.clients → WaitsSince key since new
      turn (inl (queued, is, turns)) = still key since old new w client is w.waits refl refl
      turn (inr (inl (queued, is, turns))) = still key since old new w (with_turn client) is w.waits refl refl
      turn (inr (inr (queued, is, turns, full))) = still key since old new w client is w.waits refl refl

  own_turn : (key since : ℕ) (old new : Station D) → WaitsSince key since old → HasTurnNow model key old new → WaitsSince key since new
  own_turn key since old new w has =
      still key since old new w (with_line (taken_off w.client.line) w.client) (has.begins w.client w.found) w.waits refl refl

  shuts_not : (stage : Stage) (unsent : List ℕ) → (stage ≡ Waiting) ⊎ (stage ≡ Feeding) → after_in stage unsent ≢ Shuts
  shuts_not stage unsent (inl is) = λ e. waiting_goes (ap (λ (s : Stage). after_in s unsent) (sym is) ∙ e)
    where
      waiting_goes : after_in Waiting unsent ≡ Shuts → ⊥
      waiting_goes e = cc
  shuts_not stage unsent (inr is) = λ e. feeding_goes (ap (λ (s : Stage). after_in s unsent) (sym is) ∙ e)
    where
      feeding_goes : after_in Feeding unsent ≡ Shuts → ⊥
      feeding_goes e = cc

  not_shut : (client : ClientState) → (client.stage ≡ Waiting) ⊎ (client.stage ≡ Feeding) → after_of client ≢ Shuts
  not_shut client either = shuts_not client.stage client.unsent either

  own_turned : (key since : ℕ) (old new : Station D) → WaitsSince key since old → HasTurned model key old new → IsAt Waiting (get new.clients.slots key) → WaitsSince key since new
  own_turned key since old new w has at =
      let shuts = not_shut w.client (inl w.waits) in
      let (after, left, stays) = has.stays w.client w.found in
      elim stays [
        | inl like ↦
            still key since old new w after left (like.0 ∙ w.waits) (has.since w.client after w.found shuts left) like.3
        | inr closed ↦ absurd (shuts closed.0)
      ]

  own_looked : (key since now : ℕ) (old new : Station D) → WaitsSince key since old → HasLooked model now old new → IsAt Waiting (get new.clients.slots key) → WaitsSince key since new
  own_looked key since now old new w has at = elim (leb_tells 1000 (now - old.looked)) [
    | inl late ↦ turn (is_overdue w.client now) ((has.late late.1).without key w.client w.found)
    | inr early ↦ aside key since old new w (ap (λ (s : Station D). get s.clients.slots key) (has.early (omega (arith, early.1))))
  ]
    where
      if_cut : Bool → ClientState
      if_cut b = if b then record w.client { stage = Cut } else w.client

      turn : (b : Bool) → MayHaveTurn (if_cut b) (get new.clients.slots key) → WaitsSince key since new
      turn true (inl is) = absurd (cut_waits (at_stage Waiting (get new.clients.slots key) (with_turn (if_cut true)) at is))
      turn true (inr is) = absurd (cut_waits (at_stage Waiting (get new.clients.slots key) (if_cut true) at is))
      turn false (inl is) = still key since old new w (with_turn w.client) is w.waits refl refl
      turn false (inr is) = still key since old new w w.client is w.waits refl refl

  -- who is offered the air and waits on is as it was
  offered_waits : (key now : ℕ) (password : Option Password) (skeletons : Skeletons) (serials : List ℕ) (begun : Option OnAir) (client mid : ClientState)
      → IsOffered key [] now password skeletons serials None begun client mid → mid.stage ≡ Waiting → (room : ℕ) × (mid ≡ with_more room [] client)
  offered_waits key now password skeletons serials begun client mid (inl (none, lacks, is)) waits =
      absurd (cut_waits (ap (λ (one : ClientState). one.stage) (sym is) ∙ waits))
  offered_waits key now password skeletons serials begun client mid (inr (inl (none, unset, is))) waits =
      absurd (cut_waits (ap (λ (one : ClientState). one.stage) (sym is) ∙ waits))
  offered_waits key now password skeletons serials begun client mid (inr (inr (secret, offer, room, is, comes, leads))) waits = (room, led offer leads)
    where
      gets : (used : ℕ) (body : Body) (answer : List ℕ) → GetsAir key used body answer now skeletons serials begun (with_more room [] client) mid
          → mid ≡ with_more room [] client
      gets used body answer (inl (none, cut)) = absurd (cut_waits (ap (λ (one : ClientState). one.stage) (sym cut) ∙ waits))
      gets used body answer (inr (source, on, begins, inl feeds)) = absurd (feeding_waits (ap (λ (one : ClientState). one.stage) (sym feeds) ∙ waits))
      gets used body answer (inr (source, on, begins, inr (lacks, cut))) = absurd (cut_waits (ap (λ (one : ClientState). one.stage) (sym cut) ∙ waits))

      led : (o : Offer) → Leads key now skeletons serials o None begun (with_more room [] client) mid → mid ≡ with_more room [] client
      led Offered.More (none, same) = same
      led (Offered.Refused why) (none, last) = absurd (last_waits _ (with_more room [] client) mid last waits)
      led (Offered.Nothing used) (none, last) = absurd (last_waits _ (with_more room [] client) mid last waits)
      led (Offered.Body used body answer) air = gets used body answer.now air

  kept_waits : (key since now : ℕ) (password : Option Password) (old new : Station D) (w : WaitsSince key since old) (after : ClientState)
      → get new.clients.slots key ≡ Some after → after.stage ≡ Waiting → IsKept password now key w.client after → WaitsSince key since new
  kept_waits key since now password old new w after left waits (inl (line, is)) =
      still key since old new w after left waits (ap (λ (one : ClientState). one.since) is) (ap (λ (one : ClientState). one.unsent) is)
  kept_waits key since now password old new w after left waits (inr (inl (feeds, line, answer, parted))) =
      absurd (feeding_waits (sym feeds ∙ w.waits))
  kept_waits key since now password old new w after left waits (inr (inr (waited, skeletons, serials, begun, mid, line, offered, is))) =
      let (room, same) = offered_waits key now password skeletons serials begun w.client mid offered (ap (λ (one : ClientState). one.stage) (sym is) ∙ waits) in
      still key since old new w after left waits (ap (λ (one : ClientState). one.since) is ∙ ap (λ (one : ClientState). one.since) same)
      (ap (λ (one : ClientState). one.unsent) is ∙ ap (λ (one : ClientState). one.unsent) same)

  own_stepped : (key since now : ℕ) (old new : Station D) → WaitsSince key since old → HasStepped model now old new → IsAt Waiting (get new.clients.slots key) → WaitsSince key since new
  own_stepped key since now old new w has at =
      let (after, left) = some_at Waiting (get new.clients.slots key) at in
      let kept : InPlace (IsKept old.options.password now key) (Some w.client) (Some after) =
      subst (λ (one : Option ClientState). InPlace (IsKept old.options.password now key) one (Some after)) w.found
      (subst (InPlace (IsKept old.options.password now key) (get old.clients.slots key)) left (has.kept key)) in
      kept_waits key since now old.options.password old new w after left (at_stage Waiting (get new.clients.slots key) after at left) kept

  -- ---- any call
  call_waits : (call : Call) (key since : ℕ) (old new : Station D) → WaitsSince key since old → IsCall model call old new → IsTold key [] call
      → IsAt Waiting (get new.clients.slots key) → WaitsSince key since new
  call_waits (Accepted now (Ok other)) key since old new w is told at =
      by_key (WaitsSince key since new) other key
      (λ same. absurd (none_some (get old.clients.slots key) w.client (subst (λ (k : ℕ). get old.clients.slots k ≡ None) same is.none) w.found))
      (λ apart. aside key since old new w (is.others key apart))
  call_waits (Accepted now (Err fault)) key since old new w is told at = aside key since old new w (is.0 key)
  call_waits (Closed other) key since old new w is told at = aside key since old new w (is.others key (λ e. told (sym e)))
  call_waits (Received other bytes now) key since old new w is told at =
      by_key (WaitsSince key since new) other key
      (λ same. own_received key since now bytes old new w (subst (λ (k : ℕ). HasReceived model k bytes now old new) same is))
      (λ apart. aside key since old new w (is.others key apart))
  call_waits (PeerEnded other) key since old new w is told at =
      by_key (WaitsSince key since new) other key
      (λ same. own_ended key since old new w (subst (λ (k : ℕ). HasPeerEnded model k old new) same is))
      (λ apart. aside key since old new w (is.others key apart))
  call_waits (Next other size now count buffer) key since old new w is told at =
      by_key (WaitsSince key since new) other key
      (λ same. own_given key since size now count buffer old new w (subst (λ (k : ℕ). HasGiven model k size now count buffer old new) same is) at)
      (λ apart. aside key since old new w (is.others key apart))
  call_waits (Wrote other bytes count now) key since old new w is told at =
      by_key (WaitsSince key since new) other key
      (λ same. own_wrote key since now count bytes old new w (subst (λ (k : ℕ). WasWritten model k bytes count now old new) same is) (told same).0 (told same).1 at)
      (λ apart. aside key since old new w (is.others key apart))
  call_waits (ReadFailed other trouble) key since old new w is told at =
      by_key (WaitsSince key since new) other key
      (λ same. own_unread key since trouble old new w (subst (λ (k : ℕ). HasReadFailed model k trouble old new) same is) at)
      (λ apart. aside key since old new w (is.others key apart))
  call_waits (WriteFailed other bytes trouble) key since old new w is told at =
      by_key (WaitsSince key since new) other key
      (λ same. own_unwritten key since bytes trouble old new w (subst (λ (k : ℕ). HasWriteFailed model k bytes trouble old new) same is) (told same) at)
      (λ apart. aside key since old new w (is.others key apart))
  call_waits (Woken other readable writable) key since old new w is told at =
      by_key (WaitsSince key since new) other key
      (λ same. own_woken key since readable writable old new w (subst (λ (k : ℕ). IsWoken model k readable writable old new) same is))
      (λ apart. aside key since old new w (is.others key apart))
  call_waits (NextTurn None) key since old new w is told at = aside key since old new w (is.0 key)
  call_waits (NextTurn (Some other)) key since old new w is told at =
      by_key (WaitsSince key since new) other key
      (λ same. own_turn key since old new w (subst (λ (k : ℕ). HasTurnNow model k old new) same is))
      (λ apart. aside key since old new w (is.others key apart))
  call_waits (Turned other now) key since old new w is told at =
      by_key (WaitsSince key since new) other key
      (λ same. own_turned key since old new w (subst (λ (k : ℕ). HasTurned model k old new) same is) at)
      (λ apart. aside key since old new w (is.others key apart))
  call_waits (Looked now) key since old new w is told at = own_looked key since now old new w is at
  call_waits (Stepped now) key since old new w is told at = own_stepped key since now old new w is at
  call_waits EndedOpen key since old new w is told at = aside key since old new w (ap (λ c. get c.slots key) is.1)
  call_waits Aside key since old new w is told at = aside key since old new w (ap (λ c. get c.slots key) is.0)

  -- so nothing that was given for it is left to be told
  either_none : (b : Bool) (given : List ℕ) → given ≡ [] → (if b then [] else given) ≡ []
  either_none true given none = refl
  either_none false given none = none

  call_leaves : (call : Call) (key since : ℕ) (old new : Station D) → WaitsSince key since old → IsCall model call old new
      → IsAt Waiting (get new.clients.slots key) → given_after key [] call ≡ []
  call_leaves (Next other size now count buffer) key since old new w is at = elim (eqb_tells other key) [
    | inl same ↦
        let has = subst (λ (k : ℕ). HasGiven model k size now count buffer old new) same.1 is in
        either_taken (nat_eq other key) (given_none key since size now count buffer old new w has at).1
    | inr apart ↦ ap (λ (b : Bool). if b then take count buffer else []) apart.0
  ]
    where
      either_taken : (b : Bool) → count ≡ 0 → (if b then take count buffer else []) ≡ []
      either_taken true none = ap (λ (n : ℕ). take n buffer) none
      either_taken false none = refl
  call_leaves (Wrote other bytes count now) key since old new w is at = either_none (nat_eq other key) [] refl
  call_leaves (WriteFailed other bytes trouble) key since old new w is at = either_none (nat_eq other key) [] refl
  call_leaves (Accepted now answer) key since old new w is at = refl
  call_leaves (Closed other) key since old new w is at = refl
  call_leaves (Received other bytes now) key since old new w is at = refl
  call_leaves (PeerEnded other) key since old new w is at = refl
  call_leaves (ReadFailed other trouble) key since old new w is at = refl
  call_leaves (Woken other readable writable) key since old new w is at = refl
  call_leaves (NextTurn answer) key since old new w is at = refl
  call_leaves (Turned other now) key since old new w is at = refl
  call_leaves (Looked now) key since old new w is at = refl
  call_leaves (Stepped now) key since old new w is at = refl
  call_leaves EndedOpen key since old new w is at = refl
  call_leaves Aside key since old new w is at = refl

  pub wait : (key since : ℕ) (old : Station D) (calls : List (After D)) → WaitsSince key since old → AreCalls model old calls → AreTold key [] calls
      → StaysAt Waiting key calls → WaitsSince key since (left_by old calls)
  wait key since old [] w are told stays = w
  wait key since old (one ∷ later) w (is, are) (said, told) (at, stays) =
      let left = call_leaves one.call key since old one.after w is at in
      wait key since one.after later (call_waits one.call key since old one.after w is said at) are
      (subst (λ (given : List ℕ). AreTold key given later) left told) stays

  refused_by : (client : ClientState) (since now : ℕ) → client.stage ≡ Waiting → client.since ≡ since → since + 1000 ≤ now → is_refused client now ≡ true
  refused_by client since now waits is late =
      ap (λ (s : Stage). is_refused_in s (now - client.since)) waits
      ∙ elim (leb_tells 1000 (now - client.since)) [
        | inl so ↦ so.0
        | inr short ↦ absurd (omega (arith, is, late, short.1))
      ]

  pub refused : (key since size now count : ℕ) (buffer : List ℕ) (old : Station D) (calls : List (After D)) (last : After D)
      → WaitsSince key since old → AreCalls model old calls → AreTold key [] calls → StaysAt Waiting key calls
      → last.call ≡ Next key size now count buffer → AreCalls model (left_by old calls) (last ∷ []) → since + 1000 ≤ now
      → (client after : ClientState) × (get (left_by old calls).clients.slots key ≡ Some client) × HasLast (refusal OnTheAir) client after
      × (get last.after.clients.slots key ≡ Some (given_to count (is_over (left_by old calls).air (left_by old calls).ending) now after))
  refused key since size now count buffer old calls last w are told stays asked (is, none) late =
      let at = left_by old calls in
      let still_waits = wait key since old calls w are told stays in
      let has : HasGiven model key size now count buffer at last.after = subst (λ (call : Call). IsCall model call at last.after) asked is in
      let client = still_waits.client in
      let (after, text, left) = has.refuses client still_waits.found still_waits.waits (refused_by client since now still_waits.waits still_waits.since_is late) in
      (client, after, still_waits.found, text, left)

  -- ---- one that sends
  -- it has the air, and has sent or taken a byte then, or later
  record FeedsSince (key since : ℕ) (station : Station D) : Type 0 where
    pub client : ClientState
    pub found : get station.clients.slots key ≡ Some client
    pub feeds : client.stage ≡ Feeding
    pub later : since ≤ client.since

  feeds_on : (key since : ℕ) (new : Station D) (after : ClientState) → get new.clients.slots key ≡ Some after → IsAt Feeding (get new.clients.slots key)
      → since ≤ after.since → FeedsSince key since new
  feeds_on key since new after left at later =
      record { client = after; found = left; feeds = at_stage Feeding (get new.clients.slots key) after at left; later = later }

  same_since : (since : ℕ) (client after : ClientState) → after.since ≡ client.since → since ≤ client.since → since ≤ after.since
  same_since since client after same later = omega (arith, same, later)

  -- the connection is left as it was but for what isn't its time
  keeps_on : (key since : ℕ) (old new : Station D) (f : FeedsSince key since old) (after : ClientState) → get new.clients.slots key ≡ Some after
      → IsAt Feeding (get new.clients.slots key) → after.since ≡ f.client.since → FeedsSince key since new
  keeps_on key since old new f after left at same = feeds_on key since new after left at (same_since since f.client after same f.later)

  beside : (key since : ℕ) (old new : Station D) → FeedsSince key since old → get new.clients.slots key ≡ get old.clients.slots key
      → IsAt Feeding (get new.clients.slots key) → FeedsSince key since new
  beside key since old new f same at = keeps_on key since old new f f.client (same ∙ f.found) at refl

  feeding_given : (key since size now count : ℕ) (buffer : List ℕ) (old new : Station D) → FeedsSince key since old
      → HasGiven model key size now count buffer old new → IsAt Feeding (get new.clients.slots key) → since ≤ now → FeedsSince key since new
  feeding_given key since size now count buffer old new f has at late =
      let (after, gives, left) = has.gives f.client f.found (λ e. feeding_waits (sym f.feeds ∙ e)) in
      let over = is_over old.air old.ending in
      feeds_on key since new (given_to count over now after) left at
      (given_later since count now over after (same_since since f.client after (ap (λ (one : ClientState). one.since) gives.rest) f.later) late)

  feeding_stepped : (key since now : ℕ) (password : Option Password) (old new : Station D) (f : FeedsSince key since old) (after : ClientState)
      → get new.clients.slots key ≡ Some after → IsAt Feeding (get new.clients.slots key) → IsKept password now key f.client after → FeedsSince key since new
  feeding_stepped key since now password old new f after left at (inl (line, is)) =
      keeps_on key since old new f after left at (ap (λ (one : ClientState). one.since) is)
  feeding_stepped key since now password old new f after left at (inr (inl (feeds, line, answer, parted))) =
      absurd (gone answer parted)
    where
      gone : (answer : _) → HasParted answer (with_line line f.client) after → ⊥
      gone None is = ending_feeds (ap (λ (one : ClientState). one.stage) (sym is) ∙ at_stage Feeding (get new.clients.slots key) after at left)
      gone (Some outcome) (inl is) = ending_feeds (ap (λ (one : ClientState). one.stage) (sym is) ∙ at_stage Feeding (get new.clients.slots key) after at left)
      gone (Some outcome) (inr (lacks, is)) = cut_feeds (ap (λ (one : ClientState). one.stage) (sym is) ∙ at_stage Feeding (get new.clients.slots key) after at left)
  feeding_stepped key since now password old new f after left at (inr (inr (waited, skeletons, serials, begun, mid, line, offered, is))) =
      absurd (false_true (sym (ap is_waiting f.feeds) ∙ waited))
    where
      false_true : false ≡ true → ⊥
      false_true e = cc

  call_feeds : (call : Call) (key since : ℕ) (old new : Station D) → FeedsSince key since old → IsCall model call old new → IsNotBefore since call
      → IsAt Feeding (get new.clients.slots key) → FeedsSince key since new
  call_feeds (Accepted now (Ok other)) key since old new f is late at =
      by_key (FeedsSince key since new) other key
      (λ same. absurd (none_some (get old.clients.slots key) f.client (subst (λ (k : ℕ). get old.clients.slots k ≡ None) same is.none) f.found))
      (λ apart. beside key since old new f (is.others key apart) at)
  call_feeds (Accepted now (Err fault)) key since old new f is late at = beside key since old new f (is.0 key) at
  call_feeds (Closed other) key since old new f is late at =
      by_key (FeedsSince key since new) other key
      (λ same. absurd (subst (IsAt Feeding) (subst (λ (k : ℕ). get new.clients.slots k ≡ None) same is.gone) at))
      (λ apart. beside key since old new f (is.others key apart) at)
  call_feeds (Received other bytes now) key since old new f is late at =
      by_key (FeedsSince key since new) other key
      (λ same.
      let has = subst (λ (k : ℕ). HasReceived model k bytes now old new) same is in
      feeds_on key since new (record f.client { since = now; line = moved_on f.client.line }) (has.heard f.client f.found f.feeds) at late)
      (λ apart. beside key since old new f (is.others key apart) at)
  call_feeds (PeerEnded other) key since old new f is late at =
      by_key (FeedsSince key since new) other key
      (λ same.
      let has = subst (λ (k : ℕ). HasPeerEnded model k old new) same is in
      keeps_on key since old new f (half_closed f.client) (has.ends f.client f.found) at refl)
      (λ apart. beside key since old new f (is.others key apart) at)
  call_feeds (Next other size now count buffer) key since old new f is late at =
      by_key (FeedsSince key since new) other key
      (λ same. feeding_given key since size now count buffer old new f (subst (λ (k : ℕ). HasGiven model k size now count buffer old new) same is) at late)
      (λ apart. beside key since old new f (is.others key apart) at)
  call_feeds (Wrote other bytes count now) key since old new f is late at =
      by_key (FeedsSince key since new) other key
      (λ same.
      let has = subst (λ (k : ℕ). WasWritten model k bytes count now old new) same is in
      let (after, written, left) = has.written f.client f.found in
      feeds_on key since new (moved_if count now after) left at
      (moved_later since count now after (same_since since f.client after (written_since bytes count f.client after written) f.later) late))
      (λ apart. beside key since old new f (is.others key apart) at)
  call_feeds (ReadFailed other trouble) key since old new f is late at =
      by_key (FeedsSince key since new) other key
      (λ same.
      let has = subst (λ (k : ℕ). HasReadFailed model k trouble old new) same is in
      keeps_on key since old new f (unread_by trouble f.client) (has.failed f.client f.found) at (unread_since trouble f.client))
      (λ apart. beside key since old new f (is.others key apart) at)
  call_feeds (WriteFailed other bytes trouble) key since old new f is late at =
      by_key (FeedsSince key since new) other key
      (λ same.
      let has = subst (λ (k : ℕ). HasWriteFailed model k bytes trouble old new) same is in
      let (kept, written, left) = has.failed f.client f.found in
      keeps_on key since old new f (unwritten_by trouble kept) left at (unwritten_since trouble kept ∙ written_since bytes 0 f.client kept written))
      (λ apart. beside key since old new f (is.others key apart) at)
  call_feeds (Woken other readable writable) key since old new f is late at =
      by_key (FeedsSince key since new) other key
      (λ same.
      let has = subst (λ (k : ℕ). IsWoken model k readable writable old new) same is in
      woken (has.turn f.client f.found))
      (λ apart. beside key since old new f (is.others key apart) at)
    where
      woken : HasTurn key (told_by readable writable f.client) old.clients new.clients → FeedsSince key since new
      woken (inl (queued, left, turns)) = keeps_on key since old new f (told_by readable writable f.client) left at refl
      woken (inr (inl (queued, left, turns))) = keeps_on key since old new f (with_turn (told_by readable writable f.client)) left at refl
      woken (inr (inr (queued, left, turns, full))) = keeps_on key since old new f (told_by readable writable f.client) left at refl
  call_feeds (NextTurn None) key since old new f is late at = beside key since old new f (is.0 key) at
  call_feeds (NextTurn (Some other)) key since old new f is late at =
      by_key (FeedsSince key since new) other key
      (λ same.
      let has = subst (λ (k : ℕ). HasTurnNow model k old new) same is in
      keeps_on key since old new f (with_line (taken_off f.client.line) f.client) (has.begins f.client f.found) at refl)
      (λ apart. beside key since old new f (is.others key apart) at)
  call_feeds (Turned other now) key since old new f is late at =
      by_key (FeedsSince key since new) other key
      (λ same.
      let has = subst (λ (k : ℕ). HasTurned model k old new) same is in
      let (after, left, stays) = has.stays f.client f.found in
      keeps_on key since old new f after left at (has.since f.client after f.found (not_shut f.client (inr f.feeds)) left))
      (λ apart. beside key since old new f (is.others key apart) at)
  call_feeds (Looked now) key since old new f is late at = elim (leb_tells 1000 (now - old.looked)) [
    | inl due ↦ turn ((is.late due.1).without key f.client f.found)
    | inr early ↦ beside key since old new f (ap (λ (s : Station D). get s.clients.slots key) (is.early (omega (arith, early.1)))) at
  ]
    where
      turn : MayHaveTurn (looked_at f.client now) (get new.clients.slots key) → FeedsSince key since new
      turn (inl left) = keeps_on key since old new f (with_turn (looked_at f.client now)) left at (looked_since f.client now)
      turn (inr left) = keeps_on key since old new f (looked_at f.client now) left at (looked_since f.client now)
  call_feeds (Stepped now) key since old new f is late at =
      let (after, left) = some_at Feeding (get new.clients.slots key) at in
      let kept : InPlace (IsKept old.options.password now key) (Some f.client) (Some after) =
      subst (λ (one : Option ClientState). InPlace (IsKept old.options.password now key) one (Some after)) f.found
      (subst (InPlace (IsKept old.options.password now key) (get old.clients.slots key)) left (is.kept key)) in
      feeding_stepped key since now old.options.password old new f after left at kept
  call_feeds EndedOpen key since old new f is late at = beside key since old new f (ap (λ c. get c.slots key) is.1) at
  call_feeds Aside key since old new f is late at = beside key since old new f (ap (λ c. get c.slots key) is.0) at

  all_feed : (key since : ℕ) (old : Station D) (calls : List (After D)) → FeedsSince key since old → AreCalls model old calls → AreNotBefore since calls
      → StaysAt Feeding key calls → FeedsSince key since (left_by old calls)
  all_feed key since old [] f are late stays = f
  all_feed key since old (one ∷ later) f (is, are) (first, late) (at, stays) =
      all_feed key since one.after later (call_feeds one.call key since old one.after f is first at) are late stays

  not_overdue : (client : ClientState) (since now : ℕ) → client.stage ≡ Feeding → since ≤ client.since → now < since + 30000 → is_overdue client now ≡ false
  not_overdue client since now feeds later soon =
      ap (λ (s : Stage). is_over_by (patience s client.idle (is_some_of client)) (now - client.since)) feeds
      ∙ elim (leb_tells 30000 (now - client.since)) [
        | inl long ↦ absurd (omega (arith, long.1, later, soon))
        | inr short ↦ short.0
      ]
    where
      is_some_of : ClientState → Bool
      is_some_of one = some one.listener
        where
          some : {A : Type 0} → Option A → Bool
          some None = false
          some (Some a) = true

  heard_at : (key sent : ℕ) (bytes : List ℕ) (old new : Station D) (found : Option ClientState) → get old.clients.slots key ≡ found → IsAt Feeding found
      → HasReceived model key bytes sent old new → FeedsSince key sent new
  heard_at key sent bytes old new None is at has = absurd at
  heard_at key sent bytes old new (Some client) is at has = record {
    client = record client { since = sent; line = moved_on client.line };
    found = has.heard client is at;
    feeds = at;
    later = omega (arith);
  }

  pub not_silent : (key sent now : ℕ) (bytes : List ℕ) (old : Station D) (first last : After D) (later : List (After D))
      → first.call ≡ Received key bytes sent → IsAt Feeding (get old.clients.slots key) → AreCalls model old (first ∷ later)
      → StaysAt Feeding key later → AreNotBefore sent later → last.call ≡ Looked now → AreCalls model (left_by first.after later) (last ∷ [])
      → now < sent + 30000 → IsAt Feeding (get last.after.clients.slots key)
  not_silent key sent now bytes old first last later received at (is, are) stays late looks (ends, none) soon =
      let has : HasReceived model key bytes sent old first.after = subst (λ (call : Call). IsCall model call old first.after) received is in
      let begun = heard_at key sent bytes old first.after (get old.clients.slots key) refl at has in
      let before = left_by first.after later in
      let feeds = all_feed key sent first.after later begun are late stays in
      let looked : HasLooked model now before last.after = subst (λ (call : Call). IsCall model call before last.after) looks ends in
      elim (leb_tells 1000 (now - before.looked)) [
        | inl due ↦ kept before feeds ((looked.late due.1).without key feeds.client feeds.found)
        | inr early ↦
            subst (λ (s : Station D). IsAt Feeding (get s.clients.slots key)) (sym (looked.early (omega (arith, early.1))))
            (subst (IsAt Feeding) (sym feeds.found) feeds.feeds)
      ]
    where
      kept : (before : Station D) (feeds : FeedsSince key sent before) → MayHaveTurn (looked_at feeds.client now) (get last.after.clients.slots key)
          → IsAt Feeding (get last.after.clients.slots key)
      kept before feeds turn =
          let on_time = not_overdue feeds.client sent now feeds.feeds feeds.later soon in
          let same : looked_at feeds.client now ≡ feeds.client = ap (λ (b : Bool). if b then record feeds.client { stage = Cut } else feeds.client) on_time in
          elim turn [
            | inl is ↦ subst (IsAt Feeding) (sym is) (ap (λ (one : ClientState). one.stage) same ∙ feeds.feeds)
            | inr is ↦ subst (IsAt Feeding) (sym is) (ap (λ (one : ClientState). one.stage) same ∙ feeds.feeds)
          ]
