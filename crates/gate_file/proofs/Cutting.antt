-- What stands after staged pages is cut, and they are committed.
use Rattle.std.proofs.Common.{◌≡◌, ◌≢◌, inl, inr, ℕ, ◌+◌, ◌≤◌, List, [], ◌∷◌, ◌++◌, length, take, drop, get_or, refl, sym, ◌∙◌, ap, subst, arith, append_assoc, append-nil, length-append}
use Rattle.std.proofs.lemmas.Bool.{cases_eq}
use Rattle.std.proofs.lemmas.List.{take_at}
use Rattle.disk_model.specs.Image.{DiskState, IsImage, IsWithin, IsSettled, overwritten, after_cut}
use Rattle.disk_model.specs.Torn.{IsTorn, KeepsFront, front_image, settled_image}
use Rattle.gate_file.specs.Commit.{CommitsTo, CommitsToEither, ArePages}
use Rattle.gate_file.specs.CommitLaws.{commits_closed, commits_to, pages_both, pages_begin}
use Rattle.gate_file.specs.Gate.{EachImage, StagesWhole}
use Rattle.gate_file.proofs.Crash.{torn_gate, opened}
use Rattle.gate_file.proofs.Staged.{length_left}

-- a cut behind the front keeps the front
keeps_cut : (n : ℕ) (front : List ℕ) (disk new : DiskState) (to : ℕ) → KeepsFront n front disk → IsWithin new (after_cut to disk) → n ≤ to → KeepsFront n front new
keeps_cut n front disk new to keeps cut le = record {
  long = omega (arith, keeps.long, cut.least, le);
  unwritten = λ k below. cut.unwritten k (keeps.unwritten k below);
  synced = ap (λ (l : List ℕ). take n l) cut.synced ∙ keeps.synced;
  size = omega (arith, keeps.size, ap length cut.synced);
}

pub front_image_cut : (n : ℕ) (front : List ℕ) (disk : DiskState) (image : List ℕ) (to : ℕ) → KeepsFront n front disk → n ≤ to → IsImage (after_cut to disk) image → take n image ≡ front
front_image_cut n front disk image to keeps le is =
    let same : IsWithin (after_cut to disk) (after_cut to disk) = record { synced = refl; unwritten = λ k none. none; least = omega arith; greatest = omega arith } in
    front_image n front (after_cut to disk) image (keeps_cut n front disk (after_cut to disk) to keeps same le) is

some_count : (all : List ℕ) → all ≢ [] → length all ≡ 0 → ⊥
some_count [] some none = some refl
some_count (x ∷ all) some none = absurd (omega (arith, none))

-- what is left by the cut: the committed bytes, the closed byte, and the staged ones after their first
pub left_by_cut : (b all : List ℕ) (disk : DiskState) (contents : List ℕ) (to : ℕ) → (s : StagesWhole b all disk) → to ≡ length b + length all → contents ≡ take to disk.contents → contents ≡ b ++ s.gate ∷ drop 1 all
left_by_cut b all disk contents to s is cut =
    let front = b ++ s.gate ∷ drop 1 all in
    let long : length front ≡ to = omega (arith, is, length-append b (s.gate ∷ drop 1 all), length_left all (length all) refl (some_count all s.some)) in
    cut ∙ ap (λ (l : List ℕ). take to l) (s.contents ∙ sym (append_assoc b (s.gate ∷ drop 1 all) (0 ∷ s.tail))) ∙ take_at front (0 ∷ s.tail) to long

-- so far it reaches
pub reaches : (b all : List ℕ) (disk : DiskState) → (s : StagesWhole b all disk) → length b + length all ≤ length disk.contents
reaches b all disk s =
    let front = b ++ s.gate ∷ drop 1 all in
    omega (arith, ap length s.contents, length-append b (s.gate ∷ (drop 1 all ++ 0 ∷ s.tail)), length-append (drop 1 all) (0 ∷ s.tail), length_left all (length all) refl (some_count all s.some))

first_there : (all : List ℕ) → ArePages all → all ≢ [] → 79 ∷ drop 1 all ≡ all
first_there all pages some =
    let first = pages_begin all pages some in
    subst (λ (l : List ℕ). 79 ∷ drop 1 l ≡ l) (sym first.2) refl

-- the one byte is written
pub all_there : (b all contents : List ℕ) (gate at : ℕ) → ArePages all → all ≢ [] → at ≡ length b → contents ≡ b ++ gate ∷ drop 1 all → overwritten contents at (79 ∷ []) ≡ b ++ all
all_there b all contents gate at pages some is whole =
    ap (λ (l : List ℕ). overwritten l at (79 ∷ [])) whole ∙ opened b gate 79 (drop 1 all) at is ∙ ap (λ (l : List ℕ). b ++ l) (first_there all pages some)

-- a stop in that write leaves the pages out, or shows them all
pub opened_end : (b all contents image : List ℕ) (gate at : ℕ) → ArePages b → ArePages all → all ≢ [] → at ≡ length b → contents ≡ b ++ gate ∷ drop 1 all → IsTorn at 1 contents image → CommitsToEither b all image
opened_end b all contents image gate at joined pages some is whole torn =
    let image_is : image ≡ b ++ get_or image at 0 ∷ drop 1 all = torn_gate b gate (drop 1 all) image at is (subst (λ (l : List ℕ). IsTorn at 1 l image) whole torn) in
    elim (cases_eq (get_or image at 0) 79) [
      | inl open_gate ↦ inr (commits_to (b ++ all) [] image (pages_both b all joined pages)
          (image_is ∙ ap (λ (x : ℕ). b ++ x ∷ drop 1 all) open_gate ∙ ap (λ (l : List ℕ). b ++ l) (first_there all pages some) ∙ sym (append-nil (b ++ all))) tt)
      | inr shut ↦ inl (commits_closed b image (get_or image at 0) (drop 1 all) joined shut image_is)
    ]

-- nothing follows the pages, and every image commits to them
pub each_commits : (b all : List ℕ) (disk : DiskState) → ArePages b → ArePages all → IsSettled disk → disk.contents ≡ b ++ all → EachImage disk (CommitsTo (b ++ all))
each_commits b all disk joined pages settled whole = λ image is.
    commits_to (b ++ all) [] image (pages_both b all joined pages) (settled_image disk disk.contents image settled is ∙ whole ∙ sym (append-nil (b ++ all))) tt
