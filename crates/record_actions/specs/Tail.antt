-- What follows the pages of a file, and where it is kept before anything is written over it. Ours.
use Rattle.std.specs.Prelude.{◌≡◌, ◌≢◌, ◌↔◌, ◌⊎◌, ℕ, ◌+◌, Option, Some, None, List, [], ◌∷◌, length, drop, ⊤}
use Rattle.disk_model.specs.declared.disk.Disk.{Ghosts as DiskModel}
use Rattle.disk_model.specs.Frame.{Frame}
use Rattle.disk_model.specs.Image.{IsSettled}
use Rattle.ogg_page.specs.declared.fault.PageFault.{PageFault}
use Rattle.gate_file.specs.declared.fault.OpenFault.{OpenFault}
use Rattle.gate_file.specs.declared.fault.OpenFault.TheVariants.{Disk, Memory, Page}
use Rattle.gate_file.specs.Found.{IsDamagedAt}
use Rattle.gate_file.specs.Gate.{EndsAt}
use Rattle.record_actions.specs.declared.tails.Tail.{Tail}
use Rattle.record_actions.specs.declared.asides.Aside.{Aside}

-- What a stop leaves after the last whole page: nothing, one byte, or what begins with the closed byte 00. What begins
-- otherwise may be pages of which the first has another first byte.
abbrev pub IsSoundTail : List ℕ → Type 0
IsSoundTail [] = ⊤
IsSoundTail (byte ∷ []) = ⊤
IsSoundTail (byte ∷ next ∷ rest) = byte ≡ 0

-- pages end here, and what follows is sound
pub record IsSoundAt (contents : List ℕ) (end : ℕ) : Type 0 where
  pub ends : EndsAt contents end
  pub tail : IsSoundTail (drop end contents)

-- pages end here, and what follows isn't
pub record IsUnsoundAt (contents : List ℕ) (end : ℕ) : Type 0 where
  pub ends : EndsAt contents end
  pub tail : IsSoundTail (drop end contents) → ⊥

-- pages end where the tail begins, and the tail is what follows
pub record IsTailOf (contents : List ℕ) (tail : Tail) : Type 0 where
  pub ends : EndsAt contents tail.offset
  pub whole : tail.offset + tail.bytes ≡ length contents

-- the tail, if it isn't sound
abbrev pub HasTail : List ℕ → Option Tail → Type 0
HasTail contents None = (end : ℕ) × IsSoundAt contents end
HasTail contents (Some tail) = IsUnsoundAt contents tail.offset × IsTailOf contents tail

-- Why the pages' end wasn't found, by what the disk holds. Unless it has failed it holds what it held.
pub record IsUnfound {D : Type 0} (model : DiskModel D) (disk : D) (fault : OpenFault) (back : D) : Type 0 where
  pub frame : Frame model disk back (fault ≡ Disk)
  pub same : fault ≢ Disk → model.is_honest disk → (model.state back).contents ≡ (model.state disk).contents
  pub page : (offset : ℕ) (why : PageFault) → fault ≡ Page offset why → model.is_honest disk
      → IsDamagedAt (model.state disk).contents offset why
  pub kinds : (fault ≡ Disk) ⊎ ((fault ≡ Memory) ⊎ ((offset : ℕ) × (why : PageFault) × (fault ≡ Page offset why)))

-- ---- a tail that is kept
-- nothing of the disk was changed
pub record OnlyRead {D : Type 0} (model : DiskModel D) (old new : D) : Type 0 where
  pub honest : model.is_honest old ↔ model.is_honest new
  pub same : model.is_honest old → model.state new ≡ model.state old

-- the disk holds this tail of the contents, and nothing else, whatever stops
pub record HoldsTail {C : Type 0} (model : DiskModel C) (contents : List ℕ) (tail : Tail) (copy : C) : Type 0 where
  pub held : (model.state copy).contents ≡ drop tail.offset contents
  pub settled : IsSettled (model.state copy)

-- The tail is sound, or else it is kept aside.
abbrev pub IsKeptAside : {C : Type 0} → DiskModel C → List ℕ → Option (Aside C) → Type 0
IsKeptAside model contents None = (end : ℕ) × IsSoundAt contents end
IsKeptAside model contents (Some aside) =
    IsUnsoundAt contents aside.tail.offset × IsTailOf contents aside.tail
    × (model.is_honest aside.copy → HoldsTail model contents aside.tail aside.copy)
