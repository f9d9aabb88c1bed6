-- Names whose time can be told.
use Rattle.std.specs.Prelude.{◌≡◌, ℕ, ◌≤◌, Option, None, Some}
use Rattle.std.proofs.Common.{ap, sym, subst, ◌∙◌}
use Rattle.archive_folder.specs.declared.names.FileName.{FileName}
use Rattle.archive_names.specs.declared.name.Kind.{Kind}
use Rattle.archive_names.specs.declared.name.Name.{Name}
use Rattle.archive_names.specs.Name.{IsName, last_second}
use Rattle.archive_record.specs.Spelling.{from_1970, name_of, IsTold}

pub told_name : (file : FileName) → IsTold file → IsName (name_of file)
told_name file told = (told.number, subst (λ (n : ℕ). n ≤ last_second) (sym (ap from_1970 told.begun)) told.bound)

abbrev name_or : Name → Option (Name × Kind) → Name
name_or name None = name
name_or name (Some found) = found.0

abbrev kind_or : Kind → Option (Name × Kind) → Kind
kind_or kind None = kind
kind_or kind (Some found) = found.1

pub same_name : (found : Option (Name × Kind)) (a b : Name) (k l : Kind) → found ≡ Some (a, k) → found ≡ Some (b, l) → a ≡ b
same_name found a b k l p q = ap (name_or a) (sym p ∙ q)

pub same_kind : (found : Option (Name × Kind)) (a b : Name) (k l : Kind) → found ≡ Some (a, k) → found ≡ Some (b, l) → k ≡ l
same_kind found a b k l p q = ap (kind_or k) (sym p ∙ q)
