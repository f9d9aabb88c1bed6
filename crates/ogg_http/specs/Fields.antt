-- Fields of a head by their names (RFC 9110, section 5).
use Rattle.std.specs.Prelude.{ℕ, Bool, List, map, Option, None, count_by, find, option_map, if◌then◌else◌, ◌==◌, codes}
use Rattle.std.specs.Char.{to_ascii_lowercase}
use Rattle.std.specs.Str.{bytes_eq}

-- each field's name, and its value without the spaces and tabs at its ends (section 5.5)
abbrev pub Fields : Type 0
Fields = List (List ℕ × List ℕ)

-- names are compared without regard to case (section 5.1)
abbrev pub is_named : List ℕ → List ℕ → Bool
is_named wanted name = bytes_eq (map to_ascii_lowercase name) (map to_ascii_lowercase wanted)

-- how many fields have this name
abbrev pub count_of : List ℕ → Fields → ℕ
count_of wanted fields = count_by (λ field. is_named wanted field.0) fields

-- the value of the first field that has this name
abbrev pub first_of_name : List ℕ → Fields → Option (List ℕ)
first_of_name wanted fields = option_map (λ field. field.1) (find (λ field. is_named wanted field.0) fields)

-- the value of the Range field (section 14.2)
-- Ours: there is none if the field comes twice, or if If-Range asks for a validator, since none is ever sent (section
-- 13.1.5).
abbrev pub range_in : Fields → Option (List ℕ)
range_in fields =
    if count_of (codes "range") fields == 1 then
    (if count_of (codes "if-range") fields == 0 then first_of_name (codes "range") fields else None)
    else None
