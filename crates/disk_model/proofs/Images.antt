-- What calls do to the images of a disk.
use Rattle.std.proofs.Common.{◌≡◌, ◌⊎◌, inl, inr, ℕ, ◌+◌, ◌-◌, ◌<◌, ◌≤◌, max, false, List, [], ◌∷◌, ◌++◌, length, take, drop, get_or, slice_get, Some, refl, sym, ◌∙◌, ap, arith}
use Rattle.std.proofs.lemmas.Bool.Decides.{nat_tests}
use Rattle.std.proofs.lemmas.Grind.{common_steps}
use Rattle.std.proofs.lemmas.List.{get_or-append_right, get_or-drop, get_or-take, length-take-le}
use Rattle.std.proofs.lemmas.Option.{slice_get-get_or}
use Rattle.disk_model.specs.Image.{DiskState, IsImage, is_written, overwritten, after_cut}

-- another range
is_written-push : (ranges : List (ℕ × ℕ)) (at n k : ℕ) → is_written (ranges ++ (at, n) ∷ []) k ≡ false → is_written ranges k ≡ false
is_written-push [] at n k none = refl
is_written-push (range ∷ ranges) at n k none = grind (arith, is_written-push ranges at n k)

pub outside : (ranges : List (ℕ × ℕ)) (at n k : ℕ) → is_written (ranges ++ (at, n) ∷ []) k ≡ false → (k < at) ⊎ (at + n ≤ k)
outside [] at n k none = grind (arith, nat_tests)
outside (range ∷ ranges) at n k none = grind (arith, outside ranges at n k)

-- the same number at a position of both
same_slot : (xs ys : List ℕ) (k : ℕ) → k < length xs → k < length ys → get_or xs k 0 ≡ get_or ys k 0 → slice_get xs k ≡ slice_get ys k
same_slot xs ys k in_xs in_ys same = slice_get-get_or xs k 0 in_xs ∙ ap Some same ∙ sym (slice_get-get_or ys k 0 in_ys)

overwritten-before : (old bytes : List ℕ) (at k : ℕ) → at ≤ length old → k < at → get_or (overwritten old at bytes) k 0 ≡ get_or old k 0
overwritten-before old bytes at k le below = grind (arith, common_steps)

overwritten-behind : (old bytes : List ℕ) (at k : ℕ) → at ≤ length old → at + length bytes ≤ k → get_or (overwritten old at bytes) k 0 ≡ get_or old k 0
overwritten-behind old bytes at k le behind =
    let front : length (take at old ++ bytes) ≡ at + length bytes = grind (arith, common_steps) in
    get_or-append_right (take at old ++ bytes) (drop (at + length bytes) old) (at + length bytes) k 0 front behind
    ∙ get_or-drop (at + length bytes) old (k - (at + length bytes)) 0
    ∙ ap (λ (j : ℕ). get_or old j 0) (omega arith)

length-overwritten : (old bytes : List ℕ) (at : ℕ) → at ≤ length old → length (overwritten old at bytes) ≡ max (length old) (at + length bytes)
length-overwritten old bytes at le = grind (arith, common_steps)

-- an image that is written
pub image_written : (disk new : DiskState) (image bytes : List ℕ) (at : ℕ) → IsImage disk image → at ≤ length image
    → new.synced ≡ disk.synced → new.written ≡ disk.written ++ (at, length bytes) ∷ [] → new.least ≡ disk.least → new.greatest ≡ max disk.greatest (at + length bytes)
    → IsImage new (overwritten image at bytes)
image_written disk new image bytes at is le synced written least greatest =
    let long = length-overwritten image bytes at le in
    record {
      no_shorter = omega (arith, is.no_shorter, long);
      no_longer = omega (arith, is.no_longer, long);
      kept = λ k below none. rw synced (kept k below (rw written at none) long);
    }
  where
    kept : (k : ℕ) → k < length (overwritten image at bytes) → is_written (disk.written ++ (at, length bytes) ∷ []) k ≡ false → length (overwritten image at bytes) ≡ max (length image) (at + length bytes)
        → slice_get (overwritten image at bytes) k ≡ slice_get disk.synced k
    kept k below none long = elim (outside disk.written at (length bytes) k none) [
      | inl before ↦ same_slot _ image k below (omega (arith, before, le)) (overwritten-before image bytes at k le before)
          ∙ is.kept k (omega (arith, before, le)) (is_written-push disk.written at (length bytes) k none)
      | inr behind ↦ same_slot _ image k below (omega (arith, below, behind, long)) (overwritten-behind image bytes at k le behind)
          ∙ is.kept k (omega (arith, below, behind, long)) (is_written-push disk.written at (length bytes) k none)
    ]

-- an image that is cut
pub image_cut : (disk : DiskState) (image : List ℕ) (to : ℕ) → IsImage disk image → to ≤ length image → IsImage (after_cut to disk) (take to image)
image_cut disk image to is le = record {
  no_shorter = omega (arith, is.no_shorter, length-take-le to image le);
  no_longer = omega (arith, is.no_longer, length-take-le to image le);
  kept = λ k below none. same_slot (take to image) image k below (omega (arith, below, le, length-take-le to image le)) (get_or-take to image k 0 (omega (arith, below, length-take-le to image le)))
      ∙ is.kept k (omega (arith, below, le, length-take-le to image le)) none;
}
