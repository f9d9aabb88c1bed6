-- Whose files an account has, and that none of them is open. Ours.
use Rattle.std.specs.Prelude.{◌≡◌, false, IfSome, List, [], ◌∷◌, ⊤}
use Rattle.archive_history.specs.Archive.{Archive, Content, File, Foreign, Gone, Known, Newest, There, Whole}
use Rattle.ogg_command.specs.declared.command.Command.{Command}

-- it isn't foreign, and it was closed
abbrev pub IsOurs : Content Command → Type 0
IsOurs (Whole bytes commands) = ⊤
IsOurs (Known world) = world.is_open ≡ false
IsOurs (Foreign bytes) = ⊥

abbrev pub AllOurs : List (File Command) → Type 0
AllOurs [] = ⊤
AllOurs (There is_thrown name content ∷ files) = IsOurs content × AllOurs files
AllOurs (Gone commands ∷ files) = AllOurs files

pub record AreOurs (a : Archive Command) : Type 0 where
  pub files : AllOurs a.ended
  pub newest : IfSome a.newest (λ (file : Newest Command). file.world.is_open ≡ false)
