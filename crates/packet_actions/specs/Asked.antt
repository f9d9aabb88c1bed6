-- Which files of a folder are read for the packets of a time. Ours.
use Rattle.std.specs.Prelude.{ℕ, ◌+◌, ◌&&◌, nat_le, nat_lt, not, Bool, true, false, Option, None, Some}

-- All of the file was committed by this time: the next one was begun a second before it.
abbrev pub is_whole_by : ℕ → ℕ → Bool
is_whole_by later time = nat_le (later + 1000) time

-- All of a file that was begun then lies before the first time that is asked for.
abbrev pub is_all_before : Option ℕ → ℕ → Bool
is_all_before None later = false
is_all_before (Some since) later = is_whole_by later since

-- All of it lies after the last time that is asked for.
abbrev pub is_all_after : Option ℕ → ℕ → ℕ → Bool
is_all_after None begin later = false
is_all_after (Some until) begin later = nat_lt until begin && not (is_whole_by later until)

abbrev pub is_asked : Option ℕ → Option ℕ → ℕ → ℕ → Bool
is_asked since until begin later = not (is_all_before since later) && not (is_all_after until begin later)
