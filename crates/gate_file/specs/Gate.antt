-- What a disk holds between two appends, and while pages are staged. Ours.
use Rattle.std.specs.Prelude.{◌≡◌, ◌≢◌, ℕ, ◌+◌, ◌-◌, ◌≤◌, List, [], ◌∷◌, ◌++◌, length, drop, take}
use Rattle.disk_model.specs.Image.{DiskState, IsImage, IsSettled}
use Rattle.disk_model.specs.Torn.{KeepsFront}
use Rattle.gate_file.specs.Commit.{capture, ArePages, CommitsTo}

-- the committed bytes end here
pub record EndsAt (contents : List ℕ) (end : ℕ) : Type 0 where
  pub within : end ≤ length contents
  pub commits : CommitsTo (take end contents) contents

-- Between two appends: the disk holds the committed bytes, one closed byte follows, and nothing is unsynced.
pub record StandsAt (b : List ℕ) (disk : DiskState) : Type 0 where
  pub gate : ℕ
  pub tail : List ℕ
  pub contents : disk.contents ≡ b ++ gate ∷ tail
  pub closed : gate ≢ capture
  pub pages : ArePages b
  pub settled : IsSettled disk

-- Every image begins with the committed bytes and a closed byte. These bytes follow the committed ones, except that
-- the closed byte stands in the place of the first of them.
pub record LiesBehind (b staged : List ℕ) (disk : DiskState) : Type 0 where
  pub gate : ℕ
  pub tail : List ℕ
  pub contents : disk.contents ≡ b ++ gate ∷ (drop 1 staged ++ tail)
  pub closed : gate ≢ capture
  pub pages : ArePages b
  pub keeps : KeepsFront (length b + 1) (b ++ gate ∷ []) disk

-- these bytes are pages
pub record Stages (b staged : List ℕ) (disk : DiskState) : Type 0 where
  pub gate : ℕ
  pub tail : List ℕ
  pub contents : disk.contents ≡ b ++ gate ∷ (drop 1 staged ++ tail)
  pub closed : gate ≢ capture
  pub pages : ArePages b
  pub more : ArePages staged
  pub keeps : KeepsFront (length b + 1) (b ++ gate ∷ []) disk

-- they are pages, and a closed byte follows them
pub record StagesWhole (b staged : List ℕ) (disk : DiskState) : Type 0 where
  pub gate : ℕ
  pub tail : List ℕ
  pub contents : disk.contents ≡ b ++ gate ∷ (drop 1 staged ++ 0 ∷ tail)
  pub closed : gate ≢ capture
  pub pages : ArePages b
  pub more : ArePages staged
  pub some : staged ≢ []
  pub keeps : KeepsFront (length b + 1) (b ++ gate ∷ []) disk

-- the bytes staged after the first `end`, if there are `count` of them: the first is the one that is still closed
abbrev pub staged_in : ℕ → ℕ → List ℕ → List ℕ
staged_in end count contents = take count (capture ∷ drop (end + 1) contents)

-- The first `end` bytes are committed, and `count` bytes are staged after them.
pub record IsStaged (end count : ℕ) (disk : DiskState) : Type 0 where
  pub long : end ≡ length (take end disk.contents)
  pub size : count ≡ length (staged_in end count disk.contents)
  pub stages : Stages (take end disk.contents) (staged_in end count disk.contents) disk
  pub settled : count ≡ 0 → IsSettled disk

-- the same, and a closed byte follows the staged ones
pub record IsStagedWhole (end count : ℕ) (disk : DiskState) : Type 0 where
  pub whole : StagesWhole (take end disk.contents) (staged_in end count disk.contents) disk

-- the first `end` bytes are committed, and nothing is staged
pub record IsReadyAt (end : ℕ) (disk : DiskState) : Type 0 where
  pub long : end ≡ length (take end disk.contents)
  pub stands : StandsAt (take end disk.contents) disk

-- the pages of an append, without the closed byte that follows them
abbrev pub pages_in : List ℕ → List ℕ
pages_in bytes = take (length bytes - 1) bytes

-- one page or more, and then a closed byte
pub record IsAppend (bytes : List ℕ) : Type 0 where
  pub pages : ArePages (pages_in bytes)
  pub some : pages_in bytes ≢ []
  pub closed : bytes ≡ pages_in bytes ++ 0 ∷ []

-- From one disk to the next the committed bytes have grown by these pages, and nothing is staged.
pub record HasGrown (end size : ℕ) (pages : List ℕ) (old new : DiskState) : Type 0 where
  pub committed : take (end + size) new.contents ≡ take end old.contents ++ pages
  pub ready : IsReadyAt (end + size) new

-- From one disk to the next these further pages are staged, and the committed bytes are the same.
pub record HasStaged (end count size : ℕ) (pages : List ℕ) (old new : DiskState) : Type 0 where
  pub committed : take end new.contents ≡ take end old.contents
  pub staged : staged_in end (count + size) new.contents ≡ staged_in end count old.contents ++ pages
  pub is_staged : IsStaged end (count + size) new

-- each image has the property P
abbrev pub EachImage : DiskState → (List ℕ → Type 0) → Type 0
EachImage disk P = (image : List ℕ) → IsImage disk image → P image
