-- A rising list of numbers, in another order and sorted, is itself.
use Rattle.std.proofs.Common.{◌≡◌, ◌⊎◌, ⊎_elim, ℕ, ◌+◌, ◌<◌, ◌≤◌, ◌==◌, ◌≢◌, if◌then◌else◌, List, [], ◌∷◌, ◌++◌, length, slice_index_or, refl, sym, ◌∙◌, ap, arith, sum_by, IsPermutation, Bool, suc}
use Rattle.std.specs.Prelude.{⊤}
use Rattle.std.specs.List.Sorted.{IsNonDecreasingBy}
use Rattle.std.proofs.lemmas.Bool.{eq-eqb, ne_eqb}
use Rattle.std.proofs.lemmas.List.Sums.{sum_by-cons}
use Rattle.std.proofs.lemmas.List.Sorted.{sum_by-IsPermutation, IsPermutation-map}
use Rattle.archive_folder.specs.Names.{Name, FileName, Fate, Stays, Comes, Goes, numbers_of, listed, listed_one, AreRising, AreAbove}

-- how often a number stands in a list
abbrev hit : ℕ → ℕ → ℕ
hit n m = if m == n then 1 else 0

abbrev times : ℕ → List ℕ → ℕ
times n [] = 0
times n (first ∷ numbers) = hit n first + times n numbers

times_sum : (n : ℕ) (numbers : List ℕ) → times n numbers ≡ sum_by (hit n) numbers
times_sum n [] = refl
times_sum n (first ∷ numbers) = ap (λ (k : ℕ). hit n first + k) (times_sum n numbers) ∙ sym (sum_by-cons (hit n) first numbers)

hit_itself : (n : ℕ) → hit n n ≡ 1
hit_itself n = ap (λ (b : Bool). if b then 1 else 0) (eq-eqb n n refl)

hit_other : (n m : ℕ) → m ≢ n → hit n m ≡ 0
hit_other n m other = ap (λ (b : Bool). if b then 1 else 0) (ne_eqb m n other)

abbrev AreFrom : ℕ → List ℕ → Type 0
AreFrom m [] = ⊤
AreFrom m (n ∷ numbers) = (m ≤ n) × AreFrom m numbers

abbrev Ascend : List ℕ → Type 0
Ascend [] = ⊤
Ascend (n ∷ numbers) = AreFrom n numbers × Ascend numbers

none_below : (n m : ℕ) (numbers : List ℕ) → n < m → AreFrom m numbers → times n numbers ≡ 0
none_below n m [] less from = refl
none_below n m (first ∷ numbers) less from = omega (arith, hit_other n first (λ same. omega (arith, same, less, from.0)), none_below n m numbers less from.1)

first_below : (n m : ℕ) (numbers : List ℕ) → Ascend (m ∷ numbers) → 1 ≤ times n (m ∷ numbers) → m ≤ n
first_below n m numbers up some = ⊎_elim
    (λ less. absurd (zero_isn't (times n (m ∷ numbers)) (none_below n m (m ∷ numbers) less (omega arith, up.0)) some))
    (λ le. le) (either n m)
  where
    zero_isn't : (k : ℕ) → k ≡ 0 → 1 ≤ k → ⊥
    zero_isn't k is some = omega (arith, is, some)

    either : (n m : ℕ) → (n < m) ⊎ (m ≤ n)
    either n m = grind (arith)

same_lists : (xs ys : List ℕ) → Ascend xs → Ascend ys → ((n : ℕ) → times n xs ≡ times n ys) → xs ≡ ys
same_lists [] [] up also same = refl
same_lists [] (y ∷ ys) up also same = absurd (let one = same y in let hit = hit_itself y in omega (arith, one, hit))
same_lists (x ∷ xs) [] up also same = absurd (let one = same x in let hit = hit_itself x in omega (arith, one, hit))
same_lists (x ∷ xs) (y ∷ ys) up also same =
    let x_is_there = same x in
    let y_is_there = same y in
    let x_hit = hit_itself x in
    let y_hit = hit_itself y in
    let y_le : y ≤ x = first_below x y ys also (omega (arith, x_is_there, x_hit)) in
    let x_le : x ≤ y = first_below y x xs up (omega (arith, y_is_there, y_hit)) in
    let first : x ≡ y = omega (arith, y_le, x_le) in
    let rest : xs ≡ ys = same_lists xs ys up.1 also.1 (λ n. let all = same n in let hits : hit n x ≡ hit n y = ap (hit n) first in omega (arith, all, hits)) in
    cc

from_all : (m : ℕ) (files : List FileName) → ((k : ℕ) (d : FileName) → k < length files → m ≤ (slice_index_or files k d).number) → AreFrom m (numbers_of files)
from_all m [] all = tt
from_all m (first ∷ files) all = (all 0 first (omega arith), from_all m files (λ k d less. all (suc k) d (omega (arith, less))))

ascend_of : (files : List FileName) → IsNonDecreasingBy (λ (file : FileName). file.number) files → Ascend (numbers_of files)
ascend_of [] up = tt
ascend_of (first ∷ files) up = (
  from_all first.number files (λ k d less. up 0 (suc k) d (omega arith) (omega (arith, less))),
  ascend_of files (λ i j d le less. up (suc i) (suc j) d (omega (arith, le)) (omega (arith, less))),
)

from_above : (m k : ℕ) (names : List Name) → m ≤ k → AreAbove k names → AreFrom m (listed names)
from_above m k [] le above = tt
from_above m k (first ∷ names) le above = by_fate first.number first.fate (omega (arith, le, above.0)) (from_above m first.number names (omega (arith, le, above.0)) above.1)
  where
    by_fate : (n : ℕ) (fate : Fate) → m ≤ n → AreFrom m (listed names) → AreFrom m (listed_one n fate ++ listed names)
    by_fate n Stays le rest = (le, rest)
    by_fate n Comes le rest = (le, rest)
    by_fate n Goes le rest = rest

ascend_listed : (names : List Name) → AreRising names → Ascend (listed names)
ascend_listed [] rising = tt
ascend_listed (first ∷ names) rising = by_fate first.number first.fate (from_above first.number first.number names (omega arith) rising) (ascend_listed names (rising_rest names rising))
  where
    rising_rest : (names : List Name) → AreAbove first.number names → AreRising names
    rising_rest [] above = tt
    rising_rest (next ∷ names) above = above.1

    by_fate : (n : ℕ) (fate : Fate) → AreFrom n (listed names) → Ascend (listed names) → Ascend (listed_one n fate ++ listed names)
    by_fate n Stays from rest = (from, rest)
    by_fate n Comes from rest = (from, rest)
    by_fate n Goes from rest = rest

-- the files that a raw folder gives, sorted, are those of the names
pub sorted_files : (found files : List FileName) (names : List Name) → IsPermutation found files → IsNonDecreasingBy (λ (file : FileName). file.number) files
    → IsPermutation (numbers_of found) (listed names) → AreRising names → numbers_of files ≡ listed names
sorted_files found files names moved up listed_are rising =
    let numbers_moved : IsPermutation (numbers_of found) (numbers_of files) = IsPermutation-map (λ (file : FileName). file.number) found files moved in
    same_lists (numbers_of files) (listed names) (ascend_of files up) (ascend_listed names rising)
    (λ n. times_sum n (numbers_of files) ∙ sum_by-IsPermutation (hit n) (numbers_of found) (numbers_of files) numbers_moved
    ∙ sym (sum_by-IsPermutation (hit n) (numbers_of found) (listed names) listed_are) ∙ sym (times_sum n (listed names)))
