-- The newest file of an archive is known.
use Rattle.std.proofs.Common.{◌≡◌, Option, Some, sym, subst}
use Rattle.archive_record.specs.Writing.{IsNow, IsWriting, Writing}
use Rattle.archive_record.specs.declared.newest.Newest.{Newest}

pub is_writing : {D : Type 0} (before : Writing D) (old : Option (Newest D)) (newest : Newest D) → old ≡ Some newest → IsNow before old → IsWriting before newest
is_writing {D} before old newest is now = subst (λ (one : Option (Newest D)). IsNow before one) is now

-- it stays the newest
pub still_now : {D : Type 0} (before : Writing D) (old new : Option (Newest D)) → new ≡ old → IsNow before old → IsNow before new
still_now {D} before old new same now = subst (λ (one : Option (Newest D)). IsNow before one) (sym same) now
