-- The serials that the streams of the last link had, each with the one that it has now. Ours.
use Rattle.std.specs.Prelude.{◌≡◌, ℕ, ◌<◌, ◌≤◌, ◌^◌, ◌||◌, Bool, true, false, nat_eq, Option, Some, None, List, ◌++◌, map}
use Rattle.std.specs.Option.{unwrap_or}
use Rattle.std.specs.List.{AllByRecursion, IsDistinct, filter_map, list_any}
use Rattle.std.specs.Map.{keys_of, values_of, lookup}
use Rattle.ogg_command.specs.declared.command.NewStream.{NewStream}
use Rattle.ogg_command.specs.declared.command.Entry.{Entry}

-- the serial that the stream with this one has now
abbrev pub name_of : List (ℕ × ℕ) → ℕ → Option ℕ
name_of names serial = lookup (nat_eq serial) names

abbrev pub named : List (ℕ × ℕ) → ℕ → ℕ
named names serial = unwrap_or (name_of names serial) serial

abbrev pub stream_named : List (ℕ × ℕ) → NewStream → NewStream
stream_named names stream = record stream { serial = named names stream.serial }

abbrev pub entry_with : Entry → Option ℕ → Option Entry
entry_with entry None = None
entry_with entry (Some serial) = Some (record entry { serial = serial })

-- an entry of none of the link's streams is left out
abbrev pub entries_named : List (ℕ × ℕ) → List Entry → List Entry
entries_named names entries = filter_map (λ (entry : Entry). entry_with entry (name_of names entry.serial)) entries

-- these serials have names
abbrev pub AreNamed : List (ℕ × ℕ) → List ℕ → Type 0
AreNamed names serials = AllByRecursion (λ serial. list_any (nat_eq serial) (keys_of names) ≡ true) serials

-- no other serials have names
abbrev pub AreOnlyOf : List (ℕ × ℕ) → List ℕ → Type 0
AreOnlyOf names serials = AllByRecursion (λ serial. list_any (nat_eq serial) serials ≡ true) (keys_of names)

-- the name isn't a serial that is taken already, and a serial that isn't taken is its own name
pub record IsFreshName (given : List ℕ) (name : ℕ × ℕ) : Type 0 where
  pub free : list_any (nat_eq name.1) given ≡ false
  pub kept : list_any (nat_eq name.0) given ≡ false → name.1 ≡ name.0

pub record AreNames (given : List ℕ) (names : List (ℕ × ℕ)) : Type 0 where
  pub once : IsDistinct nat_eq (keys_of names)
  pub distinct : IsDistinct nat_eq (values_of names)
  pub each : AllByRecursion (IsFreshName given) names

abbrev pub serials_of : List NewStream → List ℕ
serials_of streams = map (λ (stream : NewStream). stream.serial) streams

-- ---- a new serial
abbrev pub is_had : List ℕ → List ℕ → ℕ → Bool
is_had earlier serials serial = list_any (nat_eq serial) earlier || list_any (nat_eq serial) serials

-- the serial is the first from this one on that isn't among these, or if there is none, the first of all
pub record IsFirstFree (from : ℕ) (earlier serials : List ℕ) (serial : ℕ) : Type 0 where
  pub free : is_had earlier serials serial ≡ false
  pub first : (other : ℕ) → from ≤ other → other < serial → is_had earlier serials other ≡ true
  pub none : serial < from → (other : ℕ) → from ≤ other → other < 2 ^ 32 → is_had earlier serials other ≡ true
  pub least : serial < from → (other : ℕ) → other < serial → is_had earlier serials other ≡ true

-- whether there is a free one from this one on, and which
abbrev pub IsFreeFrom : ℕ → List ℕ → List ℕ → Option ℕ → Type 0
IsFreeFrom from earlier serials None = (other : ℕ) → from ≤ other → other < 2 ^ 32 → is_had earlier serials other ≡ true
IsFreeFrom from earlier serials (Some serial) =
    (is_had earlier serials serial ≡ false) × (from ≤ serial)
    × ((other : ℕ) → from ≤ other → other < serial → is_had earlier serials other ≡ true)

-- each serial below this one is among these, so a search can begin at it
abbrev pub IsLow : List ℕ → List ℕ → ℕ → Type 0
IsLow earlier serials low = (other : ℕ) → other < low → is_had earlier serials other ≡ true

-- there is no free one
abbrev pub AreAllTaken : List ℕ → List ℕ → Type 0
AreAllTaken earlier serials = (other : ℕ) → other < 2 ^ 32 → is_had earlier serials other ≡ true

abbrev pub IsFirstName : List ℕ → List (ℕ × ℕ) → ℕ × ℕ → Type 0
IsFirstName given names name = IsFirstFree 0 given (values_of names) name.1

-- ---- one stream after the other
-- This stream's serial has a name, if it isn't taken already.
abbrev pub IsKept : List ℕ → List (ℕ × ℕ) → ℕ → Type 0
IsKept given names serial = list_any (nat_eq serial) given ≡ false → list_any (nat_eq serial) (keys_of names) ≡ true

-- each of these streams keeps its serial if it isn't taken, and each serial with a name is one of theirs
pub record KeepsAll (given : List ℕ) (names : List (ℕ × ℕ)) (serials : List ℕ) : Type 0 where
  pub are : AreNames given names
  pub own : keys_of names ≡ values_of names
  pub all : AllByRecursion (IsKept given names) serials
  pub only : AreOnlyOf names serials

pub record Keeps (given : List ℕ) (serial : ℕ) (old new : List (ℕ × ℕ)) : Type 0 where
  pub more : List (ℕ × ℕ)
  pub appended : new ≡ old ++ more
  pub kept : IsKept given new serial
  pub are : AreNames given old → keys_of old ≡ values_of old → AreNames given new
  pub own : keys_of old ≡ values_of old → keys_of new ≡ values_of new
  pub only : (serials : List ℕ) → list_any (nat_eq serial) serials ≡ true → AreOnlyOf old serials → AreOnlyOf new serials

pub record Renames (given : List ℕ) (serial : ℕ) (old new : List (ℕ × ℕ)) : Type 0 where
  pub more : List (ℕ × ℕ)
  pub appended : new ≡ old ++ more
  -- the new serial is the first free one of all
  pub first : AllByRecursion (IsFirstName given old) more
  pub is_named : list_any (nat_eq serial) (keys_of new) ≡ true
  pub are : AreNames given old → IsKept given old serial → AreNames given new
  pub only : (serials : List ℕ) → list_any (nat_eq serial) serials ≡ true → AreOnlyOf old serials → AreOnlyOf new serials
