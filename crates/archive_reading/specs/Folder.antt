-- Which of the names in a folder are an archive's files. Ours: order is the number's.
use Rattle.std.specs.Prelude.{◌≡◌, ◌≢◌, ℕ, ◌<◌, Bool, true, false, not, if◌then◌else◌, ◌==◌, ◌&&◌, nat_le, List, [], ◌∷◌, filter, count_by, ⊤, Option, Some, None}
use Rattle.std.specs.List.{AllByRecursion, flat_map, list_any}
use Rattle.std.specs.Option.{option_map}
use Rattle.std.specs.List.Sorted.{IsPermutation}
use Rattle.archive_names.specs.declared.name.Kind.{Kind}
use Rattle.archive_names.specs.declared.name.Kind.TheVariants.{Pages, Times, Keep}
use Rattle.archive_names.specs.declared.name.Name.{Name}
use Rattle.archive_reading.specs.declared.listed.Entry.{Entry}
use Rattle.archive_reading.specs.declared.listed.Listed.{Listed}

abbrev pub is_pages : Kind → Bool
is_pages Pages = true
is_pages Times = false
is_pages Keep = false

abbrev pub is_times : Kind → Bool
is_times Pages = false
is_times Times = true
is_times Keep = false

abbrev pub is_keep : Kind → Bool
is_keep Pages = false
is_keep Times = false
is_keep Keep = true

abbrev pub same : Bool → Bool → Bool
same a b = if a then b else not b

-- two names are one
abbrev pub is_named : Name → Name → Bool
is_named a b = a.number == b.number && (a.begin == b.begin && same a.goes_on b.goes_on)

-- the names of files among these, and not of what stands beside them
abbrev pub files_in : List Entry → List Entry
files_in entries = filter (λ (entry : Entry). is_pages entry.kind) entries

abbrev pub is_kind : Kind → Kind → Bool
is_kind Pages kind = is_pages kind
is_kind Times kind = is_times kind
is_kind Keep kind = is_keep kind

-- this stands among the names
abbrev pub stands : List Entry → Kind → Name → Bool
stands entries kind name = list_any (λ (entry : Entry). is_kind kind entry.kind && is_named entry.name name) entries

-- a file, and what stands beside it
abbrev pub with_beside : List Entry → Name → Listed
with_beside entries name = record { name = name; has_times = stands entries Times name; is_kept = stands entries Keep name }

-- the file, if there is one only
abbrev pub only : List Entry → Option Entry
only (file ∷ []) = Some file
only _ = None

-- the file among all names that have one number
abbrev pub file_of : List Entry → Option Listed
file_of entries = option_map (λ (file : Entry). with_beside entries file.name) (only (files_in entries))

-- how many files are among these names
abbrev pub how_many : List Entry → ℕ
how_many entries = count_by (λ (entry : Entry). is_pages entry.kind) entries

-- no name that has this number comes next
abbrev pub IsOther : ℕ → List Entry → Type 0
IsOther number [] = ⊤
IsOther number (entry ∷ entries) = entry.name.number ≢ number

-- a number, and the names that have it
pub record Group : Type 0 where
  pub number : ℕ
  pub entries : List Entry

abbrev pub IsGroup : Group → Type 0
IsGroup group = (group.entries ≢ []) × AllByRecursion (λ (entry : Entry). entry.name.number ≡ group.number) group.entries

abbrev pub RiseAfter : ℕ → List Group → Type 0
RiseAfter number [] = ⊤
RiseAfter number (group ∷ groups) = (number < group.number) × RiseAfter group.number groups

-- the numbers rise
abbrev pub Rise : List Group → Type 0
Rise [] = ⊤
Rise (group ∷ groups) = RiseAfter group.number groups

abbrev pub entries_of : Group → List Entry
entries_of group = group.entries

abbrev pub option_list : {A : Type 0} → Option A → List A
option_list None = []
option_list (Some value) = value ∷ []

abbrev pub file_in : Group → List Listed
file_in group = option_list (file_of group.entries)

abbrev pub twice_in : Group → List ℕ
twice_in group = if nat_le 2 (how_many group.entries) then group.number ∷ [] else []

-- Names that are groups with numbers that rise: the files are those of the groups that have one file, and the numbers
-- of the groups that have more are told.
pub record AreGrouped (entries : List Entry) (files : List Listed) (twice : List ℕ) : Type 0 where
  pub groups : List Group
  pub names : entries ≡ flat_map entries_of groups
  pub are_groups : AllByRecursion IsGroup groups
  pub rise : Rise groups
  pub files_are : files ≡ flat_map file_in groups
  pub twice_are : twice ≡ flat_map twice_in groups

-- the same of names in any order
abbrev pub AreRead : List Entry → List Listed → List ℕ → Type 0
AreRead entries files twice = (sorted : List Entry) × IsPermutation entries sorted × AreGrouped sorted files twice
