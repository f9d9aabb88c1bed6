-- What `Files` shows.
use Rattle.std.specs.Prelude.{ℕ, List, Option}
use Rattle.archive_folder.specs.declared.names.FileName.{FileName}

-- The folder, the files of it that are known, the number of the next one, and that of the one that is handed out.
pub record FilesState (F : Type 0) : Type 0 where
  pub folder : F
  pub files : List FileName
  pub next : Option ℕ
  pub out : Option ℕ

abbrev pub files_state : {F : Type 0} → F → List FileName → Option ℕ → Option ℕ → FilesState F
files_state folder files next out = record { folder = folder; files = files; next = next; out = out }
