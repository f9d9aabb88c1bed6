-- What calls do to the numbers that are there.
use Rattle.std.specs.Prelude.{◌≡◌, ◌≢◌, ◌⊎◌, ◌+◌, ◌<◌, ◌==◌, Bool, true, false, not, if◌then◌else◌, ℕ, zero, suc, List, [], ◌∷◌, ◌++◌, length, Contains, refl}
use Rattle.std.proofs.Common.{inl, inr, ⊎_elim, arith, sym, ap, ◌∙◌, subst, get_or}
use Rattle.std.proofs.lemmas.Bool.Decides.{nat_tests}
use Rattle.archive_folder.specs.declared.names.FileName.{FileName}
use Rattle.archive_folder.specs.declared.names.Name.{Name}
use Rattle.archive_folder.specs.declared.names.Fate.{Fate}
use Rattle.archive_folder.specs.declared.names.Fate.TheVariants.{Stays, Comes, Goes}
use Rattle.archive_folder.specs.Names.{name, numbers_of, listed, listed_one, with_fate, synced, synced_one, AreBelow}
use Rattle.archive_record.specs.Files.{Has, highest, without}

pub contains : (ms : List ℕ) (n : ℕ) → Has ms n → Contains ms n
contains [] n has = absurd has
contains (m ∷ ms) n has = ⊎_elim (λ same. (0, omega arith, same)) (λ later. further (contains ms n later)) has
  where
    further : Contains ms n → Contains (m ∷ ms) n
    further found = let (k, inside, is) = found in (suc k, omega (arith, inside), is)

pub has_left : (ms ns : List ℕ) (n : ℕ) → Has ms n → Has (ms ++ ns) n
has_left [] ns n has = absurd has
has_left (m ∷ ms) ns n has = ⊎_elim (λ same. inl same) (λ later. inr (has_left ms ns n later)) has

pub has_right : (ms ns : List ℕ) (n : ℕ) → Has ns n → Has (ms ++ ns) n
has_right [] ns n has = has
has_right (m ∷ ms) ns n has = inr (has_right ms ns n has)

pub has_either : (ms ns : List ℕ) (n : ℕ) → Has (ms ++ ns) n → Has ms n ⊎ Has ns n
has_either [] ns n has = inr has
has_either (m ∷ ms) ns n has =
    ⊎_elim (λ same. inl (inl same)) (λ later. ⊎_elim (λ l. inl (inr l)) (λ r. inr r) (has_either ms ns n later)) has

-- bounds
below_more : (m n : ℕ) (names : List Name) → m < n → AreBelow m names → AreBelow n names
below_more m n [] less below = tt
below_more m n (first ∷ names) less below = (omega (arith, less, below.0), below_more m n names less below.1)

below_append : (n : ℕ) (names more : List Name) → AreBelow n names → AreBelow n more → AreBelow n (names ++ more)
below_append n [] more below rest = rest
below_append n (first ∷ names) more below rest = (below.0, below_append n names more below.1 rest)

pub below_next : (n : ℕ) (fate : Fate) (names : List Name) → AreBelow n names → AreBelow (n + 1) (names ++ name n fate ∷ [])
below_next n fate names below =
    let less : n < n + 1 = omega arith in
    below_append (n + 1) names (name n fate ∷ []) (below_more n (n + 1) names less below) (less, tt)

pub below_later : (n : ℕ) (names : List Name) → AreBelow n names → AreBelow (n + 1) names
below_later n names below = let less : n < n + 1 = omega arith in below_more n (n + 1) names less below

pub below_synced : (n : ℕ) (names : List Name) → AreBelow n names → AreBelow n (synced names)
below_synced n [] below = tt
below_synced n (first ∷ names) below = by_fate first.fate (below_synced n names below.1)
  where
    by_fate : (fate : Fate) → AreBelow n (synced names) → AreBelow n (synced_one first.number fate ++ synced names)
    by_fate Stays rest = (below.0, rest)
    by_fate Comes rest = (below.0, rest)
    by_fate Goes rest = rest

pub below_fate : (n k : ℕ) (fate : Fate) (names : List Name) → AreBelow n names → AreBelow n (with_fate k fate names)
below_fate n k fate [] below = tt
below_fate n k fate (first ∷ names) below = elim (first.number == k) as (λ b. AreBelow n (if b then name first.number fate ∷ names else first ∷ with_fate k fate names)) [
  | true ↦ below
  | false ↦ (below.0, below_fate n k fate names below.1)
]

-- whoever is above what a list gives is above all names after a sync
pub below_listed : (n : ℕ) (names : List Name) → highest (listed names) < n → AreBelow n (synced names)
below_listed n [] above = tt
below_listed n (first ∷ names) above = by_fate first.fate above (λ less. below_listed n names less)
  where
    greater : highest (first.number ∷ listed names) < n → (highest (listed names) < n → AreBelow n (synced names)) → AreBelow n (name first.number Stays ∷ synced names)
    greater less rest = let own : first.number < n = omega (arith, less) in let others : highest (listed names) < n = omega (arith, less) in (own, rest others)

    by_fate : (fate : Fate) → highest (listed_one first.number fate ++ listed names) < n → (highest (listed names) < n → AreBelow n (synced names))
        → AreBelow n (synced_one first.number fate ++ synced names)
    by_fate Stays less rest = greater less rest
    by_fate Comes less rest = greater less rest
    by_fate Goes less rest = rest less

-- what a list gives
pub listed_synced : (names : List Name) → listed (synced names) ≡ listed names
listed_synced [] = refl
listed_synced (first ∷ names) = by_fate first.fate (listed_synced names)
  where
    by_fate : (fate : Fate) → listed (synced names) ≡ listed names → listed (synced_one first.number fate ++ synced names) ≡ listed_one first.number fate ++ listed names
    by_fate Stays rest = ap (λ (l : List ℕ). first.number ∷ l) rest
    by_fate Comes rest = ap (λ (l : List ℕ). first.number ∷ l) rest
    by_fate Goes rest = rest

pub listed_more : (names : List Name) (n : ℕ) (fate : Fate) → listed (names ++ name n fate ∷ []) ≡ listed names ++ listed_one n fate
listed_more [] n Stays = refl
listed_more [] n Comes = refl
listed_more [] n Goes = refl
listed_more (first ∷ names) n fate = by_fate first.fate (listed_more names n fate)
  where
    by_fate : (own : Fate) → listed (names ++ name n fate ∷ []) ≡ listed names ++ listed_one n fate
        → listed_one first.number own ++ listed (names ++ name n fate ∷ []) ≡ (listed_one first.number own ++ listed names) ++ listed_one n fate
    by_fate Stays rest = ap (λ (l : List ℕ). first.number ∷ l) rest
    by_fate Comes rest = ap (λ (l : List ℕ). first.number ∷ l) rest
    by_fate Goes rest = rest

is_same : (m n : ℕ) → (m == n) ≡ true → m ≡ n
is_same m n same = grind (arith, nat_tests)

is_other : (m n : ℕ) → (m == n) ≡ false → m ≢ n
is_other m n other = λ same. grind (arith, nat_tests)

-- what is listed is below a number that all names are below
pub listed_below : (n m : ℕ) (names : List Name) → AreBelow n names → Has (listed names) m → m < n
listed_below n m [] below has = absurd has
listed_below n m (first ∷ names) below has = ⊎_elim
    (λ own. alone first.fate own)
    (λ later. listed_below n m names below.1 later)
    (has_either (listed_one first.number first.fate) (listed names) m has)
  where
    alone : (own : Fate) → Has (listed_one first.number own) m → m < n
    alone Stays own = ⊎_elim (λ same. omega (arith, same, below.0)) (λ none. absurd none) own
    alone Comes own = ⊎_elim (λ same. omega (arith, same, below.0)) (λ none. absurd none) own
    alone Goes own = absurd own

-- a number is this one or another
pub either : (m n : ℕ) → (m ≡ n) ⊎ (m ≢ n)
either m n = by_test (m == n) refl
  where
    by_test : (b : Bool) → (m == n) ≡ b → (m ≡ n) ⊎ (m ≢ n)
    by_test true is = inl (is_same m n is)
    by_test false is = inr (is_other m n is)

-- a name that has another fate changes nothing of the other numbers
pub has_beside : (names : List Name) (n m : ℕ) (fate : Fate) → m ≢ n → Has (listed names) m → Has (listed (with_fate n fate names)) m
has_beside [] n m fate other has = has
has_beside (first ∷ names) n m fate other has = by_test (first.number == n) refl (λ later. has_beside names n m fate other later)
  where
    here : first.number ≡ n → Has (listed names) m
    here is = ⊎_elim (λ own. absurd (alone first.fate own)) (λ later. later) (has_either (listed_one first.number first.fate) (listed names) m has)
      where
        alone : (own : Fate) → Has (listed_one first.number own) m → ⊥
        alone Stays own = ⊎_elim (λ same. other (sym same ∙ is)) (λ none. none) own
        alone Comes own = ⊎_elim (λ same. other (sym same ∙ is)) (λ none. none) own
        alone Goes own = own

    by_test : (b : Bool) → (first.number == n) ≡ b → (Has (listed names) m → Has (listed (with_fate n fate names)) m)
        → Has (listed (if b then name first.number fate ∷ names else first ∷ with_fate n fate names)) m
    by_test true is rest = has_right (listed_one first.number fate) (listed names) m (here (is_same first.number n is))
    by_test false is rest = ⊎_elim
        (λ own. has_left (listed_one first.number first.fate) (listed (with_fate n fate names)) m own)
        (λ later. has_right (listed_one first.number first.fate) (listed (with_fate n fate names)) m (rest later))
        (has_either (listed_one first.number first.fate) (listed names) m has)

pub had_beside : (names : List Name) (n m : ℕ) (fate : Fate) → Has (listed (with_fate n fate names)) m → Has (listed names) m ⊎ (m ≡ n)
had_beside [] n m fate has = inl has
had_beside (first ∷ names) n m fate has = by_test (first.number == n) refl has (λ later. had_beside names n m fate later)
  where
    alone : (own : Fate) → first.number ≡ n → Has (listed_one first.number own) m → m ≡ n
    alone Stays is own = ⊎_elim (λ same. sym same ∙ is) (λ none. absurd none) own
    alone Comes is own = ⊎_elim (λ same. sym same ∙ is) (λ none. absurd none) own
    alone Goes is own = absurd own

    by_test : (b : Bool) → (first.number == n) ≡ b → Has (listed (if b then name first.number fate ∷ names else first ∷ with_fate n fate names)) m
        → (Has (listed (with_fate n fate names)) m → Has (listed names) m ⊎ (m ≡ n)) → Has (listed (first ∷ names)) m ⊎ (m ≡ n)
    by_test true is there rest = ⊎_elim
        (λ own. inr (alone fate (is_same first.number n is) own))
        (λ later. inl (has_right (listed_one first.number first.fate) (listed names) m later))
        (has_either (listed_one first.number fate) (listed names) m there)
    by_test false is there rest = ⊎_elim
        (λ own. inl (has_left (listed_one first.number first.fate) (listed names) m own))
        (λ later. ⊎_elim (λ l. inl (has_right (listed_one first.number first.fate) (listed names) m l)) (λ r. inr r) (rest later))
        (has_either (listed_one first.number first.fate) (listed (with_fate n fate names)) m there)

-- files without those of a number
pub has_without : (n m : ℕ) (files : List FileName) → Has (numbers_of (without n files)) m → Has (numbers_of files) m × (m ≢ n)
has_without n m [] has = absurd has
has_without n m (first ∷ files) has = by_test (first.number == n) refl has (λ later. has_without n m files later)
  where
    by_test : (b : Bool) → (first.number == n) ≡ b → Has (numbers_of (if not b then first ∷ without n files else without n files)) m
        → (Has (numbers_of (without n files)) m → Has (numbers_of files) m × (m ≢ n)) → Has (first.number ∷ numbers_of files) m × (m ≢ n)
    by_test true is there rest = let its : Has (numbers_of files) m × (m ≢ n) = rest there in (inr its.0, its.1)
    by_test false is there rest = ⊎_elim
        (λ same. (inl same, λ its. is_other first.number n is (same ∙ its)))
        (λ later. let its : Has (numbers_of files) m × (m ≢ n) = rest later in (inr its.0, its.1))
        there

-- the last of the files is one of them
pub has_last : (front : List FileName) (file : FileName) → Has (numbers_of (front ++ file ∷ [])) file.number
has_last [] file = inl refl
has_last (first ∷ front) file = inr (has_last front file)

pub numbers_append : (files : List FileName) (file : FileName) → numbers_of (files ++ file ∷ []) ≡ numbers_of files ++ file.number ∷ []
numbers_append [] file = refl
numbers_append (first ∷ files) file = ap (λ (l : List ℕ). first.number ∷ l) (numbers_append files file)

-- each of the files is one of them
pub has_index : (files : List FileName) (i : ℕ) (d : FileName) → i < length files → Has (numbers_of files) (get_or files i d).number
has_index [] i d inside = absurd (omega (arith, inside))
has_index (first ∷ files) zero d inside = inl refl
has_index (first ∷ files) (suc i) d inside = inr (has_index files i d (omega (arith, inside)))

pub has_one : (files : List FileName) (file : FileName) → Contains files file → Has (numbers_of files) file.number
has_one files file found = let (i, inside, is) = found in subst (λ (f : FileName). Has (numbers_of files) f.number) is (has_index files i file inside)
