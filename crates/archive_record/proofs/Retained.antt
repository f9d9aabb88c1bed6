-- Files that alone have their number, and aren't the newest, may be thrown away one after the other.
use Rattle.std.specs.Prelude.{◌≡◌, ◌≢◌, ◌≤◌, ◌+◌, ◌==◌, Bool, true, false, not, if◌then◌else◌, ℕ, List, [], ◌∷◌, ◌++◌, filter, length, refl}
use Rattle.std.proofs.Common.{◌∙◌, ap, arith, sym, subst}
use Rattle.std.proofs.lemmas.Bool.Decides.{nat_tests}
use Rattle.std.proofs.lemmas.Grind.{common_steps}
use Rattle.std.proofs.lemmas.List.Elements.{filter-append}
use Rattle.std.proofs.lemmas.List.Sums.{length-filter}
use Rattle.std.proofs.lemmas.List.Filters.{length-filter_both}
use Rattle.archive_folder.specs.declared.names.FileName.{FileName}
use Rattle.archive_record.specs.Files.{is_other, without}
use Rattle.archive_record.specs.Retention.{IsLeftOf, MayGo, has_number, how_many, numbered}

pub left_same : (files : List FileName) → IsLeftOf files files
left_same files = record { newest = λ front last is. (front, is); shared = λ n twice. refl }

pub left_then : (a b c : List FileName) → IsLeftOf a b → IsLeftOf b c → IsLeftOf a c
left_then a b c first later = record {
  newest = λ front last is. let mid = first.newest front last is in later.newest mid.0 last mid.1;
  shared = λ n twice.
      let same : numbered n b ≡ numbered n a = first.shared n twice in
      let count : how_many n b ≡ how_many n a = sym (length-filter (has_number n) b) ∙ ap length same ∙ length-filter (has_number n) a in
      later.shared n (subst (λ (k : ℕ). 2 ≤ k) (sym count) twice) ∙ same;
}

no_test : (m n : ℕ) → m ≢ n → (m == n) ≡ false
no_test m n other = grind (arith, nat_tests)

-- those of another number are all left
others_stay : (n m : ℕ) (files : List FileName) → m ≢ n → numbered m (without n files) ≡ numbered m files
others_stay n m [] other = refl
others_stay n m (file ∷ files) other = by_test (file.number == n) refl (others_stay n m files other)
  where
    by_test : (b : Bool) → (file.number == n) ≡ b → numbered m (without n files) ≡ numbered m files
        → numbered m (if not b then file ∷ without n files else without n files) ≡ numbered m (file ∷ files)
    by_test false is rest = grind (arith, common_steps)
    by_test true is rest = grind (arith, nat_tests, common_steps)

pub left_without : (n : ℕ) (files : List FileName) → MayGo n files → IsLeftOf files (without n files)
left_without n files may = record {
  newest = λ front last is.
      let test : (last.number == n) ≡ false = no_test last.number n (may.older front last is) in
      let stays : without n (last ∷ []) ≡ last ∷ [] = rw test refl in
      (without n front, ap (without n) is ∙ filter-append (is_other n) front (last ∷ []) ∙ ap (λ (l : List FileName). without n front ++ l) stays);
  shared = λ m twice. others_stay n m files (λ same. let own : 2 ≤ how_many n files = subst (λ (k : ℕ). 2 ≤ how_many k files) same twice in omega (arith, own, may.alone));
}

-- without a file that may go there is one less
pub one_less : (n : ℕ) (files : List FileName) → MayGo n files → length (without n files) + 1 ≡ length files
one_less n files may =
    let both : length (filter (has_number n) files) + length (without n files) ≡ length files = length-filter_both (has_number n) (is_other n) (λ file. refl) files in
    let count : length (filter (has_number n) files) ≡ how_many n files = length-filter (has_number n) files in
    omega (arith, both, count, may.alone)
