-- A file that was begun stands at the beginning of its history.
use Rattle.std.proofs.Common.{◌≡◌, ◌≤◌, ℕ, Bool, true, false, List, [], ◌∷◌, length, refl, sym, subst, inl, arith}
use Rattle.disk_model.specs.Image.{DiskState, settled}
use Rattle.chain_rules.specs.Recording.{add}
use Rattle.file_recorder.specs.Recovery.{Shows}
use Rattle.history.specs.History.{StandsIn}
use Rattle.history.specs.World.{Opened, happens, start}
use Rattle.archive_record.specs.Filing.{unwritten}

none_long : (image : List ℕ) → length image ≤ 0 → image ≡ []
none_long [] short = refl
none_long (x ∷ xs) short = absurd (omega (arith, short))

-- its disk is empty, whatever stops
pub stands_empty : (disk : DiskState) → Shows [] [] → disk ≡ settled [] → StandsIn Shows add [] start disk
stands_empty disk shows same =
    subst (λ (d : DiskState). StandsIn Shows add [] start d) (sym same)
    (λ image is. inl (subst (λ (i : List ℕ). Shows i []) (sym (none_long image is.no_longer)) shows))

-- whatever is found in it
pub opened_unwritten : (found : Bool) → happens start (Opened found) ≡ unwritten
opened_unwritten true = refl
opened_unwritten false = refl
