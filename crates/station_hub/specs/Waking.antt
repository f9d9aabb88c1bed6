-- When those who hear what is recorded are woken. Times are milliseconds. Ours.
use Rattle.std.specs.Prelude.{ℕ, ◌-◌, Bool, true, false, not, ◌&&◌, ◌||◌, nat_le, if◌then◌else◌, Option, Some, None}
use Rattle.station_hub.specs.declared.waking.Waking.{Waking}

-- for how long pages are gathered for them at most, and how many bytes of pages
abbrev pub listeners_every : ℕ
listeners_every = 1000

abbrev pub many_bytes : ℕ
many_bytes = 32768

-- enough bytes are committed, up to this end, since they were woken
abbrev pub are_many : Waking → ℕ → Bool
are_many waking end = nat_le many_bytes (end - waking.heard)

-- They are woken once there is more for them than they were woken for: at once if that was at least so long ago, or if so
-- many bytes are committed since, or if nothing is to be gathered.
abbrev pub is_due : Bool → Waking → ℕ → ℕ → Bool
is_due gathers waking now end =
    waking.unheard && (not gathers || (nat_le listeners_every (now - waking.woken) || are_many waking end))

-- how long is waited until then, if there is more for them
abbrev pub until_due_in : Bool → Bool → Bool → ℕ → Option ℕ
until_due_in false gathers many waited = None
until_due_in true false many waited = Some 0
until_due_in true true many waited = Some (if many then 0 else listeners_every - waited)

abbrev pub until_due : Bool → Waking → ℕ → ℕ → Option ℕ
until_due gathers waking now end = until_due_in waking.unheard gathers (are_many waking end) (now - waking.woken)

-- there is more for them than they were woken for
abbrev pub with_more : Waking → Waking
with_more waking = record waking { unheard = true }

-- they were woken now, for all that is committed up to this end
abbrev pub woken_at : ℕ → ℕ → Waking
woken_at now end = record { woken = now; heard = end; unheard = false }
