-- What a stop leaves of one write or one cut.
use Rattle.std.proofs.Common.{◌≡◌, ◌⊎◌, inl, inr, ℕ, ◌+◌, ◌<◌, ◌≤◌, max, false, List, [], ◌∷◌, ◌++◌, length, take, drop, get_or, slice_get, unwrap_or, refl, ◌∙◌, sym, ap, arith}
use Rattle.std.proofs.lemmas.Bool.Decides.{nat_tests}
use Rattle.std.proofs.lemmas.Grind.{common_steps, same_number_lists}
use Rattle.std.proofs.lemmas.List.{get_or-take, get_or-drop, length-drop, length-take-le}
use Rattle.std.proofs.lemmas.Option.{unwrap_or-slice_get}
use Rattle.disk_model.specs.Image.{DiskState, IsImage, IsWithin, IsSettled, is_written, after_write, after_cut, settled}

-- anything in the range of a write, and the same elsewhere
pub record IsTorn (at n : ℕ) (old image : List ℕ) : Type 0 where
  pub no_shorter : length old ≤ length image
  pub no_longer : length image ≤ max (length old) (at + n)
  pub outside : (k : ℕ) → k < length image → (k < at) ⊎ (at + n ≤ k) → slice_get image k ≡ slice_get old k

-- a front, which a cut to this length leaves
pub record IsShortened (to : ℕ) (old image : List ℕ) : Type 0 where
  pub no_shorter : to ≤ length image
  pub front : image ≡ take (length image) old

-- each image begins with these n bytes, and goes on to do so under writes after them
pub record KeepsFront (n : ℕ) (front : List ℕ) (disk : DiskState) : Type 0 where
  pub long : n ≤ disk.least
  pub unwritten : (k : ℕ) → k < n → is_written disk.written k ≡ false
  pub synced : take n disk.synced ≡ front
  pub size : n ≤ length disk.synced

-- the same byte, as a number
pub same_byte : (xs ys : List ℕ) (k : ℕ) → slice_get xs k ≡ slice_get ys k → get_or xs k 0 ≡ get_or ys k 0
same_byte xs ys k same = sym (unwrap_or-slice_get xs k 0) ∙ ap (λ byte. unwrap_or byte 0) same ∙ unwrap_or-slice_get ys k 0

pub image_within : (disk bound : DiskState) (image : List ℕ) → IsWithin disk bound → IsImage disk image → IsImage bound image
image_within disk bound image within is = record {
  no_shorter = omega (arith, within.least, is.no_shorter);
  no_longer = omega (arith, within.greatest, is.no_longer);
  kept = λ k below none. is.kept k below (within.unwritten k none) ∙ ap (λ (bytes : List ℕ). slice_get bytes k) within.synced;
}

pub within_both : (disk mid bound : DiskState) → IsWithin disk mid → IsWithin mid bound → IsWithin disk bound
within_both disk mid bound first second = record {
  synced = first.synced ∙ second.synced;
  unwritten = λ k none. first.unwritten k (second.unwritten k none);
  least = omega (arith, first.least, second.least);
  greatest = omega (arith, first.greatest, second.greatest);
}

-- the only image
pub settled_image : (disk : DiskState) (contents image : List ℕ) → IsWithin disk (settled contents) → IsImage disk image → image ≡ contents
settled_image disk contents image within is =
    let only = image_within disk (settled contents) image within is in
    let long : length image ≡ length contents = omega (arith, only.no_shorter, only.no_longer) in
    same_number_lists image contents long (λ k below. same_byte image contents k (only.kept k below refl))

-- another range, which doesn't have this position
pub unwritten : (ranges : List (ℕ × ℕ)) (at n k : ℕ) → is_written ranges k ≡ false → (k < at) ⊎ (at + n ≤ k) → is_written (ranges ++ (at, n) ∷ []) k ≡ false
unwritten [] at n k none away = grind (arith, nat_tests)
unwritten (range ∷ ranges) at n k none away = grind (arith, unwritten ranges at n k)

-- an image of a write
pub torn_image : (disk : DiskState) (contents image : List ℕ) (at n : ℕ) → IsWithin disk (settled contents) → IsImage (after_write at n disk) image → IsTorn at n contents image
torn_image disk contents image at n within is = record {
  no_shorter = omega (arith, within.least, is.no_shorter);
  no_longer = omega (arith, within.greatest, is.no_longer);
  outside = λ k below away. is.kept k below (unwritten disk.written at n k (within.unwritten k refl) away) ∙ ap (λ (bytes : List ℕ). slice_get bytes k) within.synced;
}

pub torn_same : (at n : ℕ) (contents image : List ℕ) → image ≡ contents → IsTorn at n contents image
torn_same at n contents image same = record {
  no_shorter = omega (arith, ap length same);
  no_longer = omega (arith, ap length same);
  outside = λ k below away. ap (λ (bytes : List ℕ). slice_get bytes k) same;
}

-- its parts: what stood before the range, anything, and what stood after the range
pub torn_front : (old image : List ℕ) (at n : ℕ) → at ≤ length old → IsTorn at n old image → take at image ≡ take at old
torn_front old image at n room torn =
    let long : at ≤ length image = omega (arith, room, torn.no_shorter) in
    let size : length (take at image) ≡ at = length-take-le at image long in
    same_number_lists (take at image) (take at old) (size ∙ sym (length-take-le at old room))
    (λ k below. let under : k < at = omega (arith, below, size) in
    get_or-take at image k 0 under ∙ same_byte image old k (torn.outside k (omega (arith, under, long)) (inl under)) ∙ sym (get_or-take at old k 0 under))

pub torn_back : (old image : List ℕ) (at n : ℕ) → IsTorn at n old image → drop (at + n) image ≡ drop (at + n) old
torn_back old image at n torn =
    let size = length-drop (at + n) image in
    same_number_lists (drop (at + n) image) (drop (at + n) old) (omega (arith, size, length-drop (at + n) old, torn.no_shorter, torn.no_longer))
    (λ k below. get_or-drop (at + n) image k 0
    ∙ same_byte image old (at + n + k) (torn.outside (at + n + k) (omega (arith, below, size)) (inr (omega arith))) ∙ sym (get_or-drop (at + n) old k 0))

-- an image of a cut
pub shortened_image : (disk : DiskState) (contents image : List ℕ) (to : ℕ) → IsWithin disk (settled contents) → to ≤ length contents → IsImage (after_cut to disk) image → IsShortened to contents image
shortened_image disk contents image to within room is =
    let short : length image ≤ length contents = omega (arith, within.greatest, is.no_longer) in
    record {
      no_shorter = omega (arith, within.least, is.no_shorter, room);
      front = same_number_lists image (take (length image) contents) (sym (length-take-le (length image) contents short))
          (λ k below. same_byte image contents k (is.kept k below (within.unwritten k refl) ∙ ap (λ (bytes : List ℕ). slice_get bytes k) within.synced) ∙ sym (get_or-take (length image) contents k 0 below));
    }

-- a settled disk keeps its contents in front
pub settled_front : (n : ℕ) (disk : DiskState) → IsSettled disk → n ≤ length disk.contents → KeepsFront n (take n disk.contents) disk
settled_front n disk within le = record {
  long = omega (arith, within.least, le);
  unwritten = λ k below. within.unwritten k refl;
  synced = ap (λ (l : List ℕ). take n l) within.synced;
  size = omega (arith, le, ap length within.synced);
}

-- a write after the front keeps the front
pub keeps_front : (n : ℕ) (front : List ℕ) (disk new : DiskState) (at m : ℕ) → KeepsFront n front disk → IsWithin new (after_write at m disk) → n ≤ at → KeepsFront n front new
keeps_front n front disk new at m keeps wrote le = record {
  long = omega (arith, keeps.long, wrote.least);
  unwritten = λ k below. wrote.unwritten k (unwritten disk.written at m k (keeps.unwritten k below) (inl (omega (arith, below, le))));
  synced = ap (λ (l : List ℕ). take n l) wrote.synced ∙ keeps.synced;
  size = omega (arith, keeps.size, ap length wrote.synced);
}

pub front_image : (n : ℕ) (front : List ℕ) (disk : DiskState) (image : List ℕ) → KeepsFront n front disk → IsImage disk image → take n image ≡ front
front_image n front disk image keeps is =
    same_number_lists (take n image) (take n disk.synced) (sizes (omega (arith, keeps.long, is.no_shorter)) keeps.size) (λ k below. each k (under k below)) ∙ keeps.synced
  where
    sizes : n ≤ length image → n ≤ length disk.synced → length (take n image) ≡ length (take n disk.synced)
    sizes a b = grind (arith, common_steps)

    under : (k : ℕ) → k < length (take n image) → (k < n) × (k < length image)
    under k below = (grind (arith, common_steps), grind (arith, common_steps))

    each : (k : ℕ) → (k < n) × (k < length image) → get_or (take n image) k 0 ≡ get_or (take n disk.synced) k 0
    each k below = let n_below = below.0 in let e = same_byte image disk.synced k (is.kept k below.1 (keeps.unwritten k below.0)) in get_or-take n image k 0 n_below ∙ e ∙ sym (get_or-take n disk.synced k 0 n_below)

pub front_image_written : (n : ℕ) (front : List ℕ) (disk : DiskState) (image : List ℕ) (at m : ℕ) → KeepsFront n front disk → n ≤ at → IsImage (after_write at m disk) image → take n image ≡ front
front_image_written n front disk image at m keeps le is =
    let same : IsWithin (after_write at m disk) (after_write at m disk) = record { synced = refl; unwritten = λ k none. none; least = omega arith; greatest = omega arith } in
    front_image n front (after_write at m disk) image (keeps_front n front disk (after_write at m disk) at m keeps same le) is
