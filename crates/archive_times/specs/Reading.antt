-- A line as it is read before it is compared with its text: only what is said of the texts of lines matters.
use Rattle.std.specs.Prelude.{ℕ, ◌+◌, ◌-◌, ◌*◌, ◌^◌, min, List, [], ◌∷◌, if◌then◌else◌, Option, Some, None, slice_index, ◌==◌}
use Rattle.std.specs.Char.{is_ascii_digit}
use Rattle.archive_times.specs.declared.line.Join.{Join}
use Rattle.archive_times.specs.declared.line.Line.{Line}

-- the number at the front, and what follows the byte after it; no number is greater than 2^64 - 1
abbrev pub number_on : ℕ → List ℕ → ℕ × List ℕ
number_on value [] = (value, [])
number_on value (byte ∷ rest) =
    if is_ascii_digit byte then number_on (min (min (value * 10) (2 ^ 64 - 1) + (byte - 48)) (2 ^ 64 - 1)) rest
    else (value, rest)

abbrev pub join_read : List ℕ → Option Join
join_read text =
    if slice_index text 0 == 45 then None
    else Some (record { begin = (number_on 0 text).0; begun = (number_on 0 (number_on 0 text).1).0 })

abbrev pub line_read : List ℕ → Line
line_read text = record {
  offset = (number_on 0 text).0;
  time = (number_on 0 (number_on 0 text).1).0;
  join = join_read (number_on 0 (number_on 0 text).1).1;
}
