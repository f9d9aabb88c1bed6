-- The request OPTIONS (RFC 9110, section 9.3.7), by which a browser asks first (Fetch, section 3.2.2).
use Rattle.std.specs.Prelude.{◌≡◌, ◌≤◌, ◌⊎◌, ℕ, Bool, false, List, length, nat_eq, ◌||◌, codes}
use Rattle.std.specs.List.{starts_with}
use Rattle.httparse.specs.Grammar.{RequestHead, ReadsRequest}
use Rattle.ogg_http.specs.Head.{IsHopeless, head_bytes, most_bytes, most_fields}

-- its method, and the space after it
abbrev pub is_options : List ℕ → Bool
is_options front = starts_with nat_eq front (codes "OPTIONS ")

-- more bytes may make this its method
abbrev pub may_be_options : List ℕ → Bool
may_be_options front = starts_with nat_eq (codes "OPTIONS ") front || is_options front

-- there is a whole head, within the limits
abbrev pub IsPreflight : List ℕ → Type 0
IsPreflight front =
    (head : RequestHead) × (rest : List ℕ) × ReadsRequest (head_bytes front) head rest × (length head.fields ≤ most_fields)

-- it isn't one, whatever follows: the method is another, no head can come, or none came within the limit
abbrev pub IsNone : List ℕ → Type 0
IsNone front =
    ((is_options front ≡ false) × ((may_be_options front ≡ false) ⊎ IsPreflight front))
    ⊎ (IsHopeless front ⊎ (most_bytes ≤ length front))
