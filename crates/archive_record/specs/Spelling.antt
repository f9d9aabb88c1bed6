-- How the files of an archive are named in its folder. Ours.
use Rattle.std.specs.Prelude.{◌≡◌, ℕ, ◌≤◌, ◌<◌, ◌^◌, ℤ, pos, negsuc, List}
use Rattle.archive_folder.specs.declared.names.FileName.{FileName}
use Rattle.archive_names.specs.declared.name.Kind.TheVariants.{Pages}
use Rattle.archive_names.specs.declared.name.Name.{Name}
use Rattle.archive_names.specs.Name.{IsText, last_second}

-- a time before 1970 is told as 1970
abbrev pub from_1970 : ℤ → ℕ
from_1970 (pos n) = n
from_1970 (negsuc n) = 0

abbrev pub name_of : FileName → Name
name_of file = record { number = file.number; begin = from_1970 file.begun; goes_on = file.goes_on }

-- the text is the name's, of a file of pages
abbrev pub Spells : FileName → List ℕ → Type 0
Spells file text = IsText Pages (name_of file) text

-- the name's time can be told
pub record IsTold (file : FileName) : Type 0 where
  pub number : file.number < 2 ^ 64
  pub begin : ℕ
  pub begun : file.begun ≡ pos begin
  pub bound : begin ≤ last_second
