-- Names that stand in the order of their numbers, as groups.
use Rattle.std.proofs.Common.{◌≡◌, ◌≢◌, ℕ, suc, ◌<◌, ◌≤◌, List, [], ◌∷◌, ◌++◌, length, slice_index_or, sym, ◌∙◌, ap, subst, refl, arith, append_assoc, append-nil, length-append}
use Rattle.std.specs.Prelude.{⊤}
use Rattle.std.specs.List.{AllByRecursion, flat_map}
use Rattle.std.specs.List.Sorted.{IsNonDecreasingBy}
use Rattle.archive_reading.specs.Folder.{AreGrouped, Group, IsGroup, IsOther, Rise, RiseAfter, entries_of, file_in, twice_in}
use Rattle.archive_reading.specs.declared.listed.Entry.{Entry}
use Rattle.archive_reading.specs.declared.listed.Listed.{Listed}

abbrev HaveNumber : ℕ → List Entry → Type 0
HaveNumber number entries = AllByRecursion (λ (entry : Entry). entry.name.number ≡ number) entries

-- one more name that has the number
pub all_more : (number : ℕ) (front : List Entry) (entry : Entry) → HaveNumber number front → entry.name.number ≡ number → HaveNumber number (front ++ entry ∷ [])
all_more number [] entry all is = (is, tt)
all_more number (first ∷ front) entry all is = (all.0, all_more number front entry all.1 is)

-- ---- names that ascend
abbrev AreFrom : ℕ → List Entry → Type 0
AreFrom m [] = ⊤
AreFrom m (entry ∷ entries) = (m ≤ entry.name.number) × AreFrom m entries

abbrev Ascend : List Entry → Type 0
Ascend [] = ⊤
Ascend (entry ∷ entries) = AreFrom entry.name.number entries × Ascend entries

from_all : (m : ℕ) (entries : List Entry) → ((k : ℕ) (d : Entry) → k < length entries → m ≤ (slice_index_or entries k d).name.number) → AreFrom m entries
from_all m [] all = tt
from_all m (first ∷ entries) all = (all 0 first (omega arith), from_all m entries (λ k d less. all (suc k) d (omega (arith, less))))

ascend_of : (entries : List Entry) → IsNonDecreasingBy (λ (entry : Entry). entry.name.number) entries → Ascend entries
ascend_of [] up = tt
ascend_of (first ∷ entries) up = (
  from_all first.name.number entries (λ k d less. up 0 (suc k) d (omega arith) (omega (arith, less))),
  ascend_of entries (λ i j d le less. up (suc i) (suc j) d (omega (arith, le)) (omega (arith, less))),
)

ascend_rest : (front rest : List Entry) → Ascend (front ++ rest) → Ascend rest
ascend_rest [] rest up = up
ascend_rest (first ∷ front) rest up = ascend_rest front rest up.1

from_later : (m : ℕ) (front : List Entry) (entry : Entry) (rest : List Entry) → AreFrom m (front ++ entry ∷ rest) → m ≤ entry.name.number
from_later m [] entry rest from = from.0
from_later m (first ∷ front) entry rest from = from_later m front entry rest from.1

-- ---- groups whose numbers differ from one to the next
abbrev pub Apart : List Group → Type 0
Apart [] = ⊤
Apart (group ∷ []) = ⊤
Apart (group ∷ next ∷ groups) = (next.number ≢ group.number) × Apart (next ∷ groups)

later_number : (a b : Group) (rest : List Entry) → IsGroup a → IsGroup b → Ascend (a.entries ++ (b.entries ++ rest)) → a.number ≤ b.number
later_number a b rest is_a is_b up = parts a.entries b.entries is_a.0 is_b.0 is_a.1 is_b.1 up
  where
    parts : (xs ys : List Entry) → xs ≢ [] → ys ≢ [] → HaveNumber a.number xs → HaveNumber b.number ys → Ascend (xs ++ (ys ++ rest)) → a.number ≤ b.number
    parts [] ys some_x some_y have_x have_y up = absurd (some_x refl)
    parts (x ∷ xs) [] some_x some_y have_x have_y up = absurd (some_y refl)
    parts (x ∷ xs) (y ∷ ys) some_x some_y have_x have_y up =
        let le = from_later x.name.number xs y (ys ++ rest) up.0 in
        omega (arith, le, have_x.0, have_y.0)

-- groups of names that ascend have numbers that rise
pub they_rise : (groups : List Group) → AllByRecursion IsGroup groups → Apart groups → Ascend (flat_map entries_of groups) → Rise groups
they_rise [] are apart up = tt
they_rise (group ∷ groups) are apart up = after group groups are.0 are.1 apart up
  where
    after : (group : Group) (groups : List Group) → IsGroup group → AllByRecursion IsGroup groups → Apart (group ∷ groups)
        → Ascend (flat_map entries_of (group ∷ groups)) → RiseAfter group.number groups
    after group [] is are apart up = tt
    after group (next ∷ groups) is are apart up =
        let le = later_number group next (flat_map entries_of groups) is are.0 up in
        let other = apart.0 in
        (less le other, after next groups are.0 are.1 apart.1 (ascend_rest group.entries (flat_map entries_of (next ∷ groups)) up))
      where
        less : group.number ≤ next.number → next.number ≢ group.number → group.number < next.number
        less le other = omega (arith, le, other)

-- ---- one group more in front
-- the group's number isn't that of the next one
apart_more : (group : Group) (groups : List Group) (others : List Entry) → AllByRecursion IsGroup groups → Apart groups
    → others ≡ flat_map entries_of groups → IsOther group.number others → Apart (group ∷ groups)
apart_more group [] others are apart is other = tt
apart_more group (next ∷ groups) others are apart is other =
    (first next.entries are.0.0 are.0.1 (subst (IsOther group.number) is other), apart)
  where
    first : (entries : List Entry) → entries ≢ [] → HaveNumber next.number entries → IsOther group.number (entries ++ flat_map entries_of groups) → next.number ≢ group.number
    first [] some have other = absurd (some refl)
    first (entry ∷ entries) some have other = λ same. other (have.0 ∙ same)

-- the names that have the number of the first name are some
some_have : (first : Entry) (more group others : List Entry) → first ∷ more ≡ group ++ others → IsOther first.name.number others → group ≢ []
some_have first more [] others is other none = subst (IsOther first.name.number) (sym is) other refl
some_have first more (entry ∷ group) others is other none = cc

-- what has been done of the names, if these groups are left
pub record Joined (entries : List Entry) (files : List Listed) (twice : List ℕ) (left : List Group) : Type 0 where
  pub all : List Group
  pub names : entries ≡ flat_map entries_of all
  pub are_groups : AllByRecursion IsGroup all
  pub apart : Apart all
  pub files_are : files ++ flat_map file_in left ≡ flat_map file_in all
  pub twice_are : twice ++ flat_map twice_in left ≡ flat_map twice_in all

-- whatever groups are left
abbrev pub GoesOn : List Entry → List Listed → List ℕ → List Entry → Type 0
GoesOn entries files twice rest =
    (left : List Group) → rest ≡ flat_map entries_of left → AllByRecursion IsGroup left → Apart left → Joined entries files twice left

pub at_first : (entries : List Entry) (files : List Listed) (twice : List ℕ) → files ≡ [] → twice ≡ [] → GoesOn entries files twice entries
at_first entries files twice no_files none left is are apart = record {
  all = left;
  names = is;
  are_groups = are;
  apart = apart;
  files_are = ap (λ (l : List Listed). l ++ flat_map file_in left) no_files;
  twice_are = ap (λ (l : List ℕ). l ++ flat_map twice_in left) none;
}

-- one group is done
pub one_done : (entries : List Entry) (files : List Listed) (twice : List ℕ) (first : Entry) (more rest group others : List Entry)
    (new_files : List Listed) (new_twice : List ℕ) → GoesOn entries files twice rest → rest ≡ first ∷ more → rest ≡ group ++ others
    → HaveNumber first.name.number group → IsOther first.name.number others
    → new_files ≡ files ++ file_in (record { number = first.name.number; entries = group })
    → new_twice ≡ twice ++ twice_in (record { number = first.name.number; entries = group }) → GoesOn entries new_files new_twice others
one_done entries files twice first more rest group others new_files new_twice goes_on is split have other files_are twice_are left is_left are apart =
    let it : Group = record { number = first.name.number; entries = group } in
    let is_group : IsGroup it = (some_have first more group others (sym is ∙ split) other, have) in
    let joined = goes_on (it ∷ left) (split ∙ ap (λ (l : List Entry). group ++ l) is_left) (is_group, are) (apart_more it left others are apart is_left other) in
    record {
      all = joined.all;
      names = joined.names;
      are_groups = joined.are_groups;
      apart = joined.apart;
      files_are = ap (λ (l : List Listed). l ++ flat_map file_in left) files_are ∙ append_assoc files (file_in it) (flat_map file_in left) ∙ joined.files_are;
      twice_are = ap (λ (l : List ℕ). l ++ flat_map twice_in left) twice_are ∙ append_assoc twice (twice_in it) (flat_map twice_in left) ∙ joined.twice_are;
    }

nothing : (rest : List Entry) → length rest ≡ 0 → rest ≡ []
nothing [] none = refl
nothing (entry ∷ rest) none = absurd (omega (arith, none))

-- all are done
pub all_done : (entries rest : List Entry) (files : List Listed) (twice : List ℕ) → GoesOn entries files twice rest → length rest ≡ 0
    → IsNonDecreasingBy (λ (entry : Entry). entry.name.number) entries → AreGrouped entries files twice
all_done entries rest files twice goes_on none up =
    let joined = goes_on [] (nothing rest none) tt tt in
    record {
      groups = joined.all;
      names = joined.names;
      are_groups = joined.are_groups;
      rise = they_rise joined.all joined.are_groups joined.apart (subst Ascend joined.names (ascend_of entries up));
      files_are = sym (append-nil files) ∙ joined.files_are;
      twice_are = sym (append-nil twice) ∙ joined.twice_are;
    }

-- fewer names are left
pub fewer : (first : Entry) (more rest group others : List Entry) → rest ≡ first ∷ more → rest ≡ group ++ others → IsOther first.name.number others
    → length others < length rest
fewer first more rest group others is split other =
    let size = ap length split ∙ length-append group others in
    let some = longer group (some_have first more group others (sym is ∙ split) other) in
    omega (arith, size, some)
  where
    longer : (group : List Entry) → group ≢ [] → 0 < length group
    longer [] some = absurd (some refl)
    longer (entry ∷ group) some = omega arith
