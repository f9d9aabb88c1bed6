-- The end of a walk over pages.
use Rattle.std.proofs.Common.{min, ◌≡◌, ◌≢◌, Bool, true, false, ℕ, ◌-◌, ◌<◌, List, [], ◌∷◌, ◌++◌, length, take, drop, get_or, refl, sym, ◌∙◌, ap, subst, arith, length-append, Result, Ok, Err}
use Rattle.std.specs.Prelude.{not, ⊤}
use Rattle.std.proofs.lemmas.Grind.{common_steps}
use Rattle.std.proofs.lemmas.List.{take_at, take_all}
use Rattle.disk_model.specs.Image.{DiskState, IsImage, IsSettled}
use Rattle.disk_model.specs.Torn.{settled_image}
use Rattle.ogg_page.specs.Page.{Page as PageValue, bytes_of_pages}
use Rattle.ogg_page.specs.ReadingLaws.{fault_is_no_page}
use Rattle.ogg_page.specs.declared.fault.PageFault.{PageFault}
use Rattle.ogg_page.specs.declared.fault.WindowFault.{WindowFault}
use Rattle.ogg_page.specs.declared.fault.WindowFault.TheVariants.{Page}
use Rattle.gate_file.specs.Commit.{capture, IsTail, CommitsTo}
use Rattle.gate_file.specs.CommitLaws.{commits}
use Rattle.gate_file.specs.Found.{HasEnd, IsDamagedAt}
use Rattle.gate_file.specs.Gate.{EndsAt}
use Rattle.gate_file.specs.declared.fault.FindFault.{FindFault}
use Rattle.gate_file.specs.declared.fault.FindFault.TheVariants.{Disk, Page as Damaged}
use Rattle.gate_file.specs.Visiting.{EndsAfter, all_of}

pub false_true : (b : Bool) → b ≡ false → b ≡ true → ⊥
false_true b is_false is_true = cc

pub whole_left : (contents : List ℕ) (size : ℕ) → length contents ≡ size → take (size - 0) (drop 0 contents) ≡ contents
whole_left contents size is = take_all (size - 0) contents (omega (arith, is))

-- an image of the settled disk is one of the disk before
pub settled_before : (old new : DiskState) (image : List ℕ) → IsImage old old.contents → IsSettled new → new.contents ≡ old.contents → IsImage new image → IsImage old image
settled_before old new image now settled same is = subst (λ (l : List ℕ). IsImage old l) (sym (settled_image new new.contents image settled is ∙ same)) now

ends_at : (pages : List PageValue) (contents rest : List ℕ) (at : ℕ) → contents ≡ bytes_of_pages pages ++ rest → at ≡ length (bytes_of_pages pages) → CommitsTo (bytes_of_pages pages) contents → EndsAt contents at
ends_at pages contents rest at joined place is = record {
  within = omega (arith, place, ap length joined, length-append (bytes_of_pages pages) rest);
  commits = subst (λ (l : List ℕ). CommitsTo l contents) (sym (ap (λ (l : List ℕ). take at l) joined ∙ take_at (bytes_of_pages pages) rest at (sym place))) is;
}

-- at the end of the bytes
pub all_end : (pages : List PageValue) (disk : DiskState) (size : ℕ) → EndsAfter pages (all_of disk.contents) (Ok tt) → IsSettled disk → length disk.contents ≡ size → HasEnd size (size - size) false disk
all_end pages disk size after settled long =
    let joined : disk.contents ≡ bytes_of_pages pages ++ [] = after.joined ∙ ap (λ (l : List ℕ). bytes_of_pages pages ++ l) after.ended in
    let place : size ≡ length (bytes_of_pages pages) = omega (arith, long, ap length joined, length-append (bytes_of_pages pages) []) in
    record {
      settled = settled;
      ends = ends_at pages disk.contents [] size joined place (commits pages [] disk.contents after.are_pages joined tt);
      whole = omega (arith, long);
      is_closed = λ sure. absurd (false_true false refl sure);
      is_open = λ there. absurd (omega (arith, there.0, long));
    }

first_of : (b rest : List ℕ) (x at : ℕ) → at ≡ length b → get_or (b ++ x ∷ rest) at 0 ≡ x
first_of b rest x at is = grind (arith, common_steps)

-- the rest is no tail
no_tail : (b rest contents : List ℕ) (at : ℕ) → contents ≡ b ++ rest → at ≡ length b → get_or contents at 0 ≡ capture → 1 < length rest → IsTail rest → ⊥
no_tail b [] contents at joined place first long = λ tail. omega (arith, long)
no_tail b (x ∷ []) contents at joined place first long = λ tail. omega (arith, long)
no_tail b (x ∷ y ∷ rest) contents at joined place first long = λ tail. tail (sym (first_of b (y ∷ rest) x at place) ∙ ap (λ (l : List ℕ). get_or l at 0) (sym joined) ∙ first)

-- or it is one
a_tail : (b rest contents : List ℕ) (at : ℕ) → contents ≡ b ++ rest → at ≡ length b → ((get_or contents at 0 ≡ capture) → 1 < length rest → ⊥) → IsTail rest
a_tail b [] contents at joined place never = tt
a_tail b (x ∷ []) contents at joined place never = tt
a_tail b (x ∷ y ∷ rest) contents at joined place never = λ is. never (ap (λ (l : List ℕ). get_or l at 0) joined ∙ first_of b (y ∷ rest) x at place ∙ is) (omega arith)

rest_long : (b rest contents : List ℕ) (at size : ℕ) → contents ≡ b ++ rest → at ≡ length b → length contents ≡ size → length rest ≡ size - at
rest_long b rest contents at size joined place long = omega (arith, ap length joined, length-append b rest, place, long)

pub damaged_there : (pages : List PageValue) (contents : List ℕ) (at size : ℕ) (fault : PageFault) → EndsAfter pages (all_of contents) (Err (Page at fault)) → length contents ≡ size
    → get_or contents at 0 ≡ capture → 1 < size - at → IsDamagedAt contents at fault
damaged_there pages contents at size fault after long first more =
    let place : at ≡ length (bytes_of_pages pages) = omega (arith, after.ended.0) in
    record {
      pages = pages;
      rest = after.rest;
      begins = record { are_pages = after.are_pages; joined = after.joined; longest = λ page behind is. fault_is_no_page after.rest fault after.ended.2 page behind is };
      place = place;
      no_tail = no_tail (bytes_of_pages pages) after.rest contents at after.joined place first (omega (arith, more, rest_long (bytes_of_pages pages) after.rest contents at size after.joined place long));
      told = after.ended.2;
    }

-- the place of a fault lies inside
place_inside : (pages : List PageValue) (contents : List ℕ) (place size : ℕ) (fault : PageFault) → EndsAfter pages (all_of contents) (Err (Page place fault)) → length contents ≡ size
    → (at : ℕ) → at ≡ min place size → at ≡ place
place_inside pages contents place size fault after long at is =
    omega (arith, is, after.ended.0, long, ap length after.joined, length-append (bytes_of_pages pages) after.rest)

-- a walk that met a faulty page ended there, after the pages in front of it
pub ended_at : (pages : List PageValue) (contents : List ℕ) (walked : Result (Unit {0}) WindowFault) (wrong : WindowFault) (place at size : ℕ) (fault : PageFault) → walked ≡ Err wrong → wrong ≡ Page place fault
    → EndsAfter pages (all_of contents) walked → length contents ≡ size → at ≡ min place size → EndsAfter pages (all_of contents) (Err (Page at fault))
ended_at pages contents walked wrong place at size fault failed is after long least =
    let told = subst (λ r. EndsAfter pages (all_of contents) r) (failed ∙ ap Err is) after in
    subst (λ k. EndsAfter pages (all_of contents) (Err (Page k fault))) (sym (place_inside pages contents place size fault told long at least)) told

some_rest : (rest : List ℕ) → rest ≢ [] → 0 < length rest
some_rest [] some = absurd (some refl)
some_rest (x ∷ rest) some = omega arith

closes : (is : Bool) (first : ℕ) → (is ≡ true → first ≡ capture) → (first ≡ capture → is ≡ true) → (not is ≡ true → first ≢ capture) × (first ≢ capture → not is ≡ true)
closes true first to from = ((λ e. absurd (false_true false refl e)), (λ other. absurd (other (to refl))))
closes false first to from = ((λ e. λ is. absurd (false_true false refl (from is))), (λ other. refl))

pub tail_there : (pages : List PageValue) (disk : DiskState) (at size : ℕ) (fault : PageFault) (is : Bool) → EndsAfter pages (all_of disk.contents) (Err (Page at fault)) → IsSettled disk → length disk.contents ≡ size
    → (is ≡ true → get_or disk.contents at 0 ≡ capture) → (get_or disk.contents at 0 ≡ capture → is ≡ true) → (is ≡ true → 1 < size - at → ⊥) → HasEnd at (size - at) (not is) disk
tail_there pages disk at size fault is after settled long to from never =
    let contents = disk.contents in
    let b = bytes_of_pages pages in
    let place : at ≡ length b = omega (arith, after.ended.0) in
    let rest = rest_long b after.rest contents at size after.joined place long in
    let some = some_rest after.rest after.ended.1 in
    let gate = closes is (get_or contents at 0) to from in
    record {
      settled = settled;
      ends = ends_at pages contents after.rest at after.joined place
          (commits pages after.rest contents after.are_pages after.joined (a_tail b after.rest contents at after.joined place (λ first more. never (from first) (omega (arith, more, rest)))));
      whole = omega (arith, rest, some, long, ap length after.joined, length-append b after.rest, place);
      is_closed = λ sure. (omega (arith, rest, some, long, ap length after.joined, length-append b after.rest, place), gate.0 sure);
      is_open = λ there. gate.1 there.1;
    }

-- what a fault of finding says of the bytes
abbrev pub Told : List ℕ → FindFault → Type 0
Told contents Disk = ⊤
Told contents (Damaged offset fault) = IsDamagedAt contents offset fault
