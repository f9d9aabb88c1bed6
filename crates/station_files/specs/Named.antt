-- The file that a number names. Ours.
use Rattle.std.specs.Prelude.{ℕ, Bool, nat_eq, Option, None, Some, List, [], ◌∷◌}
use Rattle.archive_folder.specs.declared.names.FileName.{FileName}

abbrev pub has_number : ℕ → FileName → Bool
has_number number name = nat_eq name.number number

-- what there is, if there is no other
abbrev pub only_one : List FileName → Option FileName
only_one [] = None
only_one (name ∷ []) = Some name
only_one (name ∷ (other ∷ later)) = None
