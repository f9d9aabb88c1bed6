-- What images show, in the words of a call's contract. Ours. `shows image state`: an opening that reads the image
-- finds the state.
use Rattle.std.specs.Prelude.{◌≡◌, ◌⊎◌, ℕ, List}
use Rattle.disk_model.specs.Image.{DiskState, IsImage, IsSettled}

-- an image shows one state at most
abbrev pub ShowsOne : {S : Type 0} → (List ℕ → S → Type 0) → Type 0
ShowsOne {S} shows = (image : List ℕ) (s t : S) → shows image s → shows image t → s ≡ t

-- every image of the disk shows the state
abbrev pub ShowsOnly : {S : Type 0} → (List ℕ → S → Type 0) → DiskState → S → Type 0
ShowsOnly {S} shows disk s = (image : List ℕ) → IsImage disk image → shows image s

-- the image shows the one state or the other
abbrev pub ShowsEither : {S : Type 0} → (List ℕ → S → Type 0) → S → S → List ℕ → Type 0
ShowsEither {S} shows s t image = shows image s ⊎ shows image t

-- the image shows what an image of the disk before it showed
pub record IsAsBefore {S : Type 0} (shows : List ℕ → S → Type 0) (before : DiskState) (image : List ℕ) : Type 0 where
  pub source : List ℕ
  pub was : IsImage before source
  pub keeps : (s : S) → shows source s → shows image s

-- what an opening finds: every image shows it now, and an image of the disk before showed it
pub record Finds {S : Type 0} (shows : List ℕ → S → Type 0) (before now : DiskState) (found : S) : Type 0 where
  pub only : ShowsOnly shows now found
  pub source : List ℕ
  pub was : IsImage before source
  pub shown : shows source found

-- after a stop: the image is the contents, and the only image
pub record StartsFrom (image : List ℕ) (disk : DiskState) : Type 0 where
  pub contents : disk.contents ≡ image
  pub settled : IsSettled disk
