-- A field that counts only if it comes once (RFC 9110, section 5).
use Rattle.std.specs.Prelude.{ℕ, List, [], ◌∷◌, Option, Some, None}
use Rattle.http1.specs.Fields.{Header, values_named}

-- the value, if there is just one
abbrev pub single : List (List ℕ) → Option (List ℕ)
single (value ∷ []) = Some value
single _ = None

-- the value of the only field with this name; names are compared without regard to case (section 5.1)
abbrev pub only : List ℕ → List Header → Option (List ℕ)
only name fields = single (values_named name fields)
