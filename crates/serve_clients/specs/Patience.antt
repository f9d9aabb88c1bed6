-- How long is waited for a connection. Times are milliseconds. Ours.
use Rattle.std.specs.Prelude.{ℕ, ◌-◌, Bool, true, false, nat_le, if◌then◌else◌, Option, Some, None}
use Rattle.std.specs.Option.{is_some}
use Rattle.serve_clients.specs.Client.{ClientState, cut}
use Rattle.serve_clients.specs.declared.client.Stage.{Stage}
use Rattle.serve_clients.specs.declared.client.Stage.TheVariants.{Asking, Offering, Waiting, Feeding, Reading, Sending, Hearing, Ending, Closing, Cut}

-- A head is complete within 10 seconds, a source sends within 30, and a peer takes bytes within 60, if there are any for
-- it; of a response over the file, and of what was recorded before it is heard, within ten minutes, since whoever plays it
-- may have stopped for a while: who has no listener of what is live. A peer that was told the end closes within 10 seconds.
-- Whoever is cut is given no time.
abbrev pub patience : Stage → Bool → Bool → Option ℕ
patience Asking idle live = Some 10000
patience Offering idle live = Some 10000
patience Waiting idle live = Some 10000
patience Reading idle live = Some 10000
patience Feeding idle live = Some 30000
patience Sending idle live = Some 600000
patience Ending idle live = Some 60000
patience Hearing true live = None
patience Hearing false true = Some 60000
patience Hearing false false = Some 600000
patience Closing idle live = Some 10000
patience Cut idle live = Some 0

abbrev pub is_over_by : Option ℕ → ℕ → Bool
is_over_by None waited = false
is_over_by (Some most) waited = nat_le most waited

abbrev pub is_overdue : ClientState → ℕ → Bool
is_overdue client now = is_over_by (patience client.stage client.idle (is_some client.listener)) (now - client.since)

-- who is overdue is cut
abbrev pub looked_at : ClientState → ℕ → ClientState
looked_at client now = if is_overdue client now then cut client else client

-- A source is refused if another one has the air and still has it after a second: an encoder that begins anew may be here
-- before its old connection is seen to end.
abbrev pub is_refused_in : Stage → ℕ → Bool
is_refused_in Waiting waited = nat_le 1000 waited
is_refused_in stage waited = false

abbrev pub is_refused : ClientState → ℕ → Bool
is_refused client now = is_refused_in client.stage (now - client.since)
