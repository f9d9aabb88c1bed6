-- Parts of a line of the log that others wrote. They are escaped as Apache's httpd does ("Log Files", "Security Warning"
-- of mod_log_config) and nginx does (log_format, escape=default).
use Rattle.std.specs.Prelude.{ℕ, ◌+◌, ◌/◌, ◌%◌, ◌^◌, ◌≤◌, ◌<◌, nat_lt, ◌==◌, ◌||◌, if◌then◌else◌, List, [], ◌∷◌, ◌++◌, Option, Some, None, option_map, length, codes}
use Rattle.std.specs.List.{flat_map}
use Rattle.std.specs.Str.{byte}

-- a hexadecimal digit, as a capital
abbrev pub hex_digit : ℕ → ℕ
hex_digit n = if nat_lt n 10 then 48 + n else 55 + n

abbrev pub hex_text : ℕ → List ℕ
hex_text b = byte "\\" ∷ byte "x" ∷ hex_digit (b / 16) ∷ hex_digit (b % 16) ∷ []

-- a quote and a backslash get a backslash; what isn't printable ASCII is written in hexadecimal
abbrev pub escape : ℕ → List ℕ
escape b =
    if b == byte "\"" then codes "\\\""
    else if b == byte "\\" then codes "\\\\"
    else if nat_lt b 32 || nat_lt 126 b then hex_text b
    else b ∷ []

abbrev pub escaped : List ℕ → List ℕ
escaped text = flat_map escape text

-- a part of a line; a part that isn't there is a hyphen
abbrev pub shown_text : List ℕ → List ℕ
shown_text text = if length text == 0 then codes "-" else escaped text

-- printable ASCII (RFC 20, section 4)
abbrev pub IsPrintable : ℕ → Type 0
IsPrintable b = (32 ≤ b) × (b < 127)

abbrev pub IsByte : ℕ → Type 0
IsByte b = b < 2 ^ 8

-- what a reader finds in quotes: all before the first quote that no backslash stands before, and what follows it
abbrev pub with_front : List ℕ → Option (List ℕ × List ℕ) → Option (List ℕ × List ℕ)
with_front front found = option_map (λ parts. (front ++ parts.0, parts.1)) found

abbrev pub until_quote : List ℕ → Option (List ℕ × List ℕ)
until_quote [] = None
until_quote (b ∷ []) = if b == byte "\"" then Some ([], []) else None
until_quote (b ∷ c ∷ rest) =
    if b == byte "\"" then Some ([], c ∷ rest)
    else if b == byte "\\" then with_front (b ∷ c ∷ []) (until_quote rest)
    else with_front (b ∷ []) (until_quote (c ∷ rest))
