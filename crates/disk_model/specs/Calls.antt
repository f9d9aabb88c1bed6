-- The calls that a `MemDisk` records, and what they have made of it.
use Rattle.std.specs.Prelude.{◌≡◌, ◌≤◌, ℕ, List, [], ◌∷◌, length, take, refl}
use Rattle.std.proofs.Common.{arith}
use Rattle.disk_model.specs.Image.{DiskState, IsImage, written_at, cut_to, settled}
use Rattle.disk_model.specs.declared.memory.Call.{Call}
use Rattle.disk_model.specs.declared.memory.Call.TheVariants.{Write, Cut, Sync}

-- the disk state after a call that succeeded
abbrev pub after_call : Call → DiskState → DiskState
after_call (Write at bytes) disk = written_at at bytes.items disk
after_call (Cut to) disk = cut_to to disk
after_call Sync disk = settled disk.contents

-- the disk state after these calls, the first of them first
abbrev pub after_calls : List Call → DiskState → DiskState
after_calls [] disk = disk
after_calls (call ∷ calls) disk = after_calls calls (after_call call disk)

-- an image at some moment since t; a moment is a number of calls here
abbrev pub WasImageSince : DiskState → List Call → ℕ → List ℕ → Type 0
WasImageSince first calls t image = (k : ℕ) × (t ≤ k) × (k ≤ length calls) × IsImage (after_calls (take k calls) first) image

take_whole : (calls : List Call) → take (length calls) calls ≡ calls
take_whole [] = refl
take_whole (call ∷ calls) = (λ i. call ∷ take_whole calls i)

pub was_image_now : (first now : DiskState) (calls : List Call) → after_calls calls first ≡ now → (t : ℕ) (image : List ℕ) → t ≤ length calls → IsImage now image → WasImageSince first calls t image
was_image_now first now calls is t image le is_image =
    (length calls, le, omega arith, rw (take_whole calls, is) is_image)

pub only_image_now : (first now : DiskState) (calls : List Call) → after_calls calls first ≡ now → (image : List ℕ) → WasImageSince first calls (length calls) image → IsImage now image
only_image_now first now calls is image was =
    let all : was.0 ≡ length calls = omega (arith, was.1, was.2) in
    rw (all, take_whole calls, is) at was.3

pub was_image_earlier : (first : DiskState) (calls : List Call) (t u : ℕ) (image : List ℕ) → t ≤ u → WasImageSince first calls u image → WasImageSince first calls t image
was_image_earlier first calls t u image le was = (was.0, omega (arith, le, was.1), was.2, was.3)
