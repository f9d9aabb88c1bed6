-- What a step makes of the list of sessions.
use Rattle.std.proofs.Common.{◌≡◌, ℕ, ◌+◌, ◌<◌, ◌^◌, Bool, true, false, Option, Some, None, Result, Ok, Err, List, [], ◌∷◌, ◌++◌, length, drop, ap}
use Rattle.std.specs.Prelude.{nat_le, ⊤}
use Rattle.std.proofs.lemmas.Bool.{or_parts, leb-false}
use Rattle.serve_machine.specs.declared.fault.HubFault.{HubFault}
use Rattle.serve_machine.specs.declared.fault.HubFault.TheVariants.{NoSession, SessionsFull, Source, Memory, NoFile}
use Rattle.serve_machine.specs.declared.answers.Progress.{Progress}
use Rattle.serve_machine.specs.declared.answers.Progress.TheVariants.{More, Ready}
use Rattle.serve_machine.specs.Hub.{HubState, Phase, Reading, Sending, Given, Event, Connect, Receive, Pull, Close, Record, Flush, Group, Reopen, hub_step, phase_of, with_phase_in, without_in, connect_step, head_step, receive_step, send_step, pull_step, close_step}
use Rattle.serve_machine.proofs.Seen.{command_sessions, flush_sessions, group_sessions, reopen_sessions}

-- it stays, a session is in another phase, the sessions with a number have ended, or one more was connected
pub data Changes (old new : HubState) : Type 0 where
  Stays : (same : new.sessions ≡ old.sessions) → Changes old new
  Moves : (id : ℕ) (phase : Phase) (moved : new.sessions ≡ with_phase_in id phase old.sessions) → Changes old new
  Loses : (id : ℕ) (left : new.sessions ≡ without_in id old.sessions) → Changes old new
  Gains : (room : length old.sessions < old.room) (later : new.next_id ≡ old.next_id + 1)
      (more : new.sessions ≡ old.sessions ++ record { id = old.next_id; phase = Reading [] } ∷ []) → Changes old new

sessions_are : (new other : HubState) → new ≡ other → new.sessions ≡ other.sessions
sessions_are new other e = ap (λ (h : HubState). h.sessions) e

by_connect : (old new : HubState) (answer : Result ℕ HubFault) → connect_step old answer new → Changes old new
by_connect old new (Ok id) step =
    Gains (leb-false old.room (length old.sessions) (or_parts (nat_le old.room (length old.sessions)) (nat_le (2 ^ 64) old.next_id) step.0).0)
    (ap (λ (h : HubState). h.next_id) step.2) (ap (λ (h : HubState). h.sessions) step.2)
by_connect old new (Err SessionsFull) step = Stays (sessions_are new old step.1)
by_connect old new (Err Memory) step = Stays (sessions_are new old step.1)
by_connect old new (Err NoSession) step = absurd step
by_connect old new (Err Source) step = absurd step
by_connect old new (Err NoFile) step = absurd step

by_head : (old new : HubState) (id : ℕ) (received : List ℕ) (answer : Result Progress HubFault) → head_step old id received answer new → Changes old new
by_head old new id received (Ok More) step = Moves id (Reading received) (ap (λ (h : HubState). h.sessions) step.1)
by_head old new id received (Ok Ready) step = Moves id (Sending step.0) (ap (λ (h : HubState). h.sessions) step.2)
by_head old new id received (Err Source) step = Loses id (ap (λ (h : HubState). h.sessions) step.2)
by_head old new id received (Err Memory) step = Stays (sessions_are new old step)
by_head old new id received (Err NoSession) step = absurd step
by_head old new id received (Err SessionsFull) step = absurd step
by_head old new id received (Err NoFile) step = absurd step

by_receive : (old new : HubState) (id : ℕ) (phase : Option Phase) (has_file : Bool) (bytes : List ℕ) (answer : Result Progress HubFault) → receive_step phase has_file old id bytes answer new → Changes old new
by_receive old new id None has_file bytes answer step = Stays (sessions_are new old step.1)
by_receive old new id (Some phase) false bytes answer step = Stays (sessions_are new old step.1)
by_receive old new id (Some (Reading received)) true bytes answer step = by_head old new id (received ++ bytes) answer step
by_receive old new id (Some (Sending rest)) true bytes answer step = Stays (sessions_are new old step.1)

by_send : (old new : HubState) (id : ℕ) (rest : List ℕ) (size : ℕ) (answer : Result Given HubFault) → send_step old id rest size answer new → Changes old new
by_send old new id rest size (Ok given) step = Moves id (Sending (drop size rest)) (ap (λ (h : HubState). h.sessions) step.1)
by_send old new id rest size (Err Source) step = Loses id (ap (λ (h : HubState). h.sessions) step.1)
by_send old new id rest size (Err NoSession) step = absurd step
by_send old new id rest size (Err SessionsFull) step = absurd step
by_send old new id rest size (Err Memory) step = absurd step
by_send old new id rest size (Err NoFile) step = absurd step

by_pull : (old new : HubState) (id : ℕ) (phase : Option Phase) (has_file : Bool) (size : ℕ) (answer : Result Given HubFault) → pull_step phase has_file old id size answer new → Changes old new
by_pull old new id None has_file size answer step = Stays (sessions_are new old step.1)
by_pull old new id (Some phase) false size answer step = Stays (sessions_are new old step.1)
by_pull old new id (Some (Reading received)) true size answer step = Stays (sessions_are new old step.1)
by_pull old new id (Some (Sending rest)) true size answer step = by_send old new id rest size answer step

by_close : (old new : HubState) (id : ℕ) (phase : Option Phase) (answer : Result ⊤ HubFault) → close_step phase old id answer new → Changes old new
by_close old new id None answer step = Stays (sessions_are new old step.1)
by_close old new id (Some phase) answer step = Loses id (ap (λ (h : HubState). h.sessions) step.1)

pub changes : (old new : HubState) (event : Event) → hub_step old event new → Changes old new
changes old new (Connect answer) step = by_connect old new answer step
changes old new (Receive id bytes answer) step = by_receive old new id (phase_of old id) old.has_file bytes answer step
changes old new (Pull id size answer) step = by_pull old new id (phase_of old id) old.has_file size answer step
changes old new (Close id answer) step = by_close old new id (phase_of old id) answer step
changes old new (Record command answer) step = Stays (command_sessions old new command answer step).0
changes old new (Flush answer) step = Stays (flush_sessions old new answer step).0
changes old new (Group most) step = Stays (group_sessions old new most step).0
changes old new (Reopen found) step = Stays (reopen_sessions old new found step).0
