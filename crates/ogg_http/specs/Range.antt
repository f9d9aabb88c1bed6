-- What a Range field asks of a representation (RFC 9110, section 14).
use Rattle.std.specs.Prelude.{◌≡◌, ℕ, ◌+◌, ◌-◌, ◌<◌, ◌≤◌, ⊤, Bool, List, [], ◌∷◌, ◌++◌, take, drop, map, min, nat_lt, nat_le, if◌then◌else◌, ◌==◌, Option, Some, None, option_map, option_and_then, position, codes}
use Rattle.std.specs.Char.{to_ascii_lowercase}
use Rattle.std.specs.Option.{option_map_or}
use Rattle.std.specs.Str.{byte, bytes_eq}
use Rattle.ogg_http.specs.Digits.{number_of}
use Rattle.ogg_http.specs.declared.range.RangeSpec.{RangeSpec}
use Rattle.ogg_http.specs.declared.range.RangeSpec.TheVariants.{Between, From, Suffix}
use Rattle.ogg_http.specs.declared.range.Ranged.{Ranged}
use Rattle.ogg_http.specs.declared.range.Ranged.TheVariants.{Whole, Part, Unsatisfiable}

-- the bytes of `-` and `=`
abbrev pub dash : ℕ
dash = byte "-"

abbrev pub equals : ℕ
equals = byte "="

-- the unit is bytes, and its case doesn't count (section 14.1)
abbrev pub IsBytesUnit : List ℕ → Type 0
IsBytesUnit unit = map to_ascii_lowercase unit ≡ codes "bytes"

-- int-range = first-pos "-" [ last-pos ], suffix-range = "-" suffix-length (section 14.1.1)
abbrev pub IsRangeSpec : RangeSpec → List ℕ → Type 0
IsRangeSpec (Between first last) text =
    (first_pos : List ℕ) × (last_pos : List ℕ)
    × (number_of first_pos ≡ Some first) × (number_of last_pos ≡ Some last)
    × (text ≡ first_pos ++ dash ∷ last_pos)
IsRangeSpec (From first) text =
    (first_pos : List ℕ) × (number_of first_pos ≡ Some first) × (text ≡ first_pos ++ dash ∷ [])
IsRangeSpec (Suffix count) text =
    (suffix_length : List ℕ) × (number_of suffix_length ≡ Some count) × (text ≡ dash ∷ suffix_length)

-- ranges-specifier = range-unit "=" range-set; ours: a set of several ranges is ignored (section 14.2)
abbrev pub Spells : RangeSpec → List ℕ → Type 0
Spells spec text =
    (unit : List ℕ) × (set : List ℕ) × IsBytesUnit unit × IsRangeSpec spec set × (text ≡ unit ++ equals ∷ set)

-- what a range asks of a representation of this length, which isn't empty (section 14.1.2)
-- Ours: an invalid int-range, whose last byte is before its first, is ignored (section 14.2).
abbrev pub selected : RangeSpec → ℕ → Ranged
selected (Between first last) len =
    if nat_lt last first then Whole
    else if nat_le len first then Unsatisfiable
    else Part first (min last (len - 1))
selected (From first) len = if nat_le len first then Unsatisfiable else Part first (len - 1)
selected (Suffix count) len = if count == 0 then Unsatisfiable else Part (len - min count len) (len - 1)

-- a part has a byte, and all its bytes are the representation's
abbrev pub LiesIn : ℕ → Ranged → Type 0
LiesIn len (Part first last) = (first ≤ last) × (last < len)
LiesIn len _ = ⊤

-- The same as a function, for definitions that cite it: `range_of` in src/ has both.

-- whether the text begins with the unit and its sign
abbrev pub has_unit : List ℕ → Bool
has_unit text = bytes_eq (map to_ascii_lowercase (take 6 text)) (codes "bytes=")

-- the range that has these texts before and after its dash
abbrev pub spec_of_ends : List ℕ → List ℕ → Option RangeSpec
spec_of_ends [] last = option_map (λ count. Suffix count) (number_of last)
spec_of_ends (b ∷ bs) [] = option_map (λ first. From first) (number_of (b ∷ bs))
spec_of_ends (b ∷ bs) (c ∷ cs) =
    option_and_then (λ first. option_map (λ last. Between first last) (number_of (c ∷ cs))) (number_of (b ∷ bs))

-- the one range of a set
abbrev pub spec_of_set : List ℕ → Option RangeSpec
spec_of_set set =
    option_and_then (λ at. spec_of_ends (take at set) (drop (at + 1) set)) (position (λ b. b == dash) set)

-- the range that a text spells
abbrev pub spec_of : List ℕ → Option RangeSpec
spec_of text = if has_unit text then spec_of_set (drop 6 text) else None

-- what a text asks of a representation of this length
-- Ours: any range of an empty representation is ignored (section 14.2).
abbrev pub range_of : List ℕ → ℕ → Ranged
range_of text len =
    if len == 0 then Whole else option_map_or (λ spec. selected spec len) (spec_of text) Whole
