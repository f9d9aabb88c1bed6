-- Which of an archive's files is the newest. Ours: order is the number's.
use Rattle.std.specs.Prelude.{ℕ, max, List, [], ◌∷◌, filter, count_by, Option, Some, None, ◌==◌}
use Rattle.archive_names.specs.declared.name.Name.{Name}

-- the highest number, or 0 if there is none
abbrev pub highest : List Name → ℕ
highest [] = 0
highest (name ∷ names) = max name.number (highest names)

-- the names that have this number
abbrev pub numbered : ℕ → List Name → List Name
numbered number names = filter (λ (name : Name). name.number == number) names

-- how many have it
abbrev pub how_many : ℕ → List Name → ℕ
how_many number names = count_by (λ (name : Name). name.number == number) names

abbrev pub only : List Name → Option Name
only (name ∷ []) = Some name
only _ = None

-- the name with the highest number, if no other has it
abbrev pub newest : List Name → Option Name
newest names = only (numbered (highest names) names)
