-- A step changes at most one session.
use Rattle.std.proofs.Common.{◌≡◌, ◌≢◌, ℕ, false, Some, Result, Ok, Err, [], sym, ◌∙◌, ap}
use Rattle.std.specs.Prelude.{nat_eq}
use Rattle.std.proofs.lemmas.Bool.{ne_eqb}
use Rattle.serve_machine.specs.declared.fault.HubFault.{HubFault}
use Rattle.serve_machine.specs.declared.fault.HubFault.TheVariants.{NoSession, SessionsFull, Source, Memory, NoFile}
use Rattle.serve_machine.specs.Hub.{HubState, Reading, Event, Connect, Receive, Pull, Close, Record, Flush, Group, Reopen, hub_step, phase_of, connect_step}
use Rattle.serve_machine.specs.Run.{session_of}
use Rattle.serve_machine.proofs.Sessions.{others_as_before}
use Rattle.serve_machine.proofs.Seen.{other_receive, other_pull, other_close, command_sessions, flush_sessions, group_sessions, reopen_sessions, same_sessions}

apart_from : (other id : ℕ) → Some other ≢ Some id → nat_eq other id ≡ false
apart_from other id apart = ne_eqb other id (λ e. apart (ap (λ (k : ℕ). Some k) e))

by_connect : (old new : HubState) (id : ℕ) (answer : Result ℕ HubFault) → connect_step old answer new → session_of (Connect answer) ≢ Some id → phase_of new id ≡ phase_of old id
by_connect old new id (Ok other) step apart =
    ap (λ (h : HubState). phase_of h id) step.2
    ∙ others_as_before old.next_id id (Reading []) old.sessions (ap (λ k. nat_eq k id) (sym step.1) ∙ apart_from other id apart)
by_connect old new id (Err SessionsFull) step apart = ap (λ (h : HubState). phase_of h id) step.1
by_connect old new id (Err Memory) step apart = ap (λ (h : HubState). phase_of h id) step.1
by_connect old new id (Err NoSession) step apart = absurd step
by_connect old new id (Err Source) step apart = absurd step
by_connect old new id (Err NoFile) step apart = absurd step

pub others_stay : (old new : HubState) (event : Event) (id : ℕ) → hub_step old event new → session_of event ≢ Some id → phase_of new id ≡ phase_of old id
others_stay old new (Connect answer) id step apart = by_connect old new id answer step apart
others_stay old new (Receive other bytes answer) id step apart = other_receive id other (phase_of old other) old.has_file old new bytes answer (apart_from other id apart) step
others_stay old new (Pull other size answer) id step apart = other_pull id other (phase_of old other) old.has_file old new size answer (apart_from other id apart) step
others_stay old new (Close other answer) id step apart = other_close id other (phase_of old other) old new answer (apart_from other id apart) step
others_stay old new (Record command answer) id step apart = same_sessions id old new (command_sessions old new command answer step).0
others_stay old new (Flush answer) id step apart = same_sessions id old new (flush_sessions old new answer step).0
others_stay old new (Group most) id step apart = same_sessions id old new (group_sessions old new most step).0
others_stay old new (Reopen found) id step apart = same_sessions id old new (reopen_sessions old new found step).0
