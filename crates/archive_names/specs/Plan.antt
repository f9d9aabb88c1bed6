-- When a file is begun, and which are thrown away. Ours.
use Rattle.std.specs.Prelude.{◌≢◌, ◌⊎◌, ℕ, ◌+◌, ◌-◌, ◌/◌, ◌≤◌, nat_lt, Bool, false, not, ◌&&◌, ◌||◌, List, length, take, sum_by, Option, Some, None, position}
use Rattle.archive_names.specs.declared.plan.Held.{Held}
use Rattle.archive_names.specs.declared.plan.Keeping.{Keeping}
use Rattle.archive_names.specs.declared.plan.Limits.{Limits}

-- so many bytes or more
abbrev pub IsFull : Option ℕ → ℕ → Type 0
IsFull None bytes = ⊥
IsFull (Some most) bytes = most ≤ bytes

-- the moment lies in another period since 1970 than the one in which the file was begun, or the file is full
abbrev pub IsOver : Limits → ℕ → ℕ → ℕ → Type 0
IsOver limits begin bytes now = (now / limits.every ≢ begin / limits.every) ⊎ IsFull limits.most_bytes bytes

-- all files together have more than is kept
abbrev pub is_too_much : Option ℕ → List Held → Bool
is_too_much None files = false
is_too_much (Some most) files = nat_lt most (sum_by (λ (file : Held). file.bytes) files)

-- the last time of a file is longer ago than is kept
abbrev pub is_old : Option ℕ → ℕ → Held → Bool
is_old None now file = false
is_old (Some span) now file = nat_lt (file.last + span) now

-- how many go by age each time
abbrev pub most_by_age : ℕ
most_by_age = 4

-- a file goes if nobody keeps it, and there is too much, or it is old and fewer than four went by age
abbrev pub goes : Keeping → ℕ → ℕ → Bool → Held → Bool
goes keeping now gone too_much file = not file.is_kept && (too_much || (is_old keeping.span now file && nat_lt gone most_by_age))

-- all but the newest, which is the last
abbrev pub all_but_newest : List Held → List Held
all_but_newest files = take (length files - 1) files

-- the oldest that goes
abbrev pub next_to_go : List Held → Keeping → ℕ → ℕ → Option ℕ
next_to_go files keeping now gone = position (goes keeping now gone (is_too_much keeping.bytes files)) (all_but_newest files)

-- the oldest that goes if no room is left on the device: only if not all bytes are kept anyway
abbrev pub next_for_room : List Held → Option ℕ → Option ℕ
next_for_room files None = None
next_for_room files (Some most) = position (λ (file : Held). not file.is_kept) (all_but_newest files)
