-- Decimal numbers as requests write them: one DIGIT or more (RFC 9110, section 2.1).
use Rattle.std.specs.Prelude.{ℕ, ◌-◌, ◌^◌, ◌&&◌, Bool, List, Option, Some, None, length, min, nat_lt, if◌then◌else◌}
use Rattle.std.specs.List.{list_all}
use Rattle.std.specs.Char.{is_ascii_digit}
use Rattle.std.specs.Str.Parse.{digits_value}

-- one digit or more, and nothing else
abbrev pub is_number : List ℕ → Bool
is_number text = nat_lt 0 (length text) && list_all is_ascii_digit text

-- ours: a number past 64 bits is read as the largest of 64 bits
abbrev pub value_of : List ℕ → ℕ
value_of digits = min (digits_value 10 digits) (2 ^ 64 - 1)

-- the value of a number; any other text has none
abbrev pub number_of : List ℕ → Option ℕ
number_of text = if is_number text then Some (value_of text) else None
