-- What lines of times say of the places between a file's pages. Ours.
use Rattle.std.specs.Prelude.{◌≡◌, ℕ, ◌-◌, ◌^◌, ◌<◌, nat_eq, nat_lt, Bool, true, false, List, [], ◌∷◌, ◌++◌, length, ⊤, Option, Some, None}
use Rattle.std.specs.List.{AllByRecursion, list_any}
use Rattle.archive_times.specs.Times.{AreLinesOf, times_text}
use Rattle.archive_times.specs.declared.line.Line.{Line}
use Rattle.file_actions.specs.Checks.{is_excused}
use Rattle.file_actions.specs.declared.checks.Places.{Places}
use Rattle.file_actions.specs.declared.checks.TimesFault.{TimesFault}
use Rattle.file_actions.specs.declared.checks.TimesFault.TheVariants.{Line as LineFault, Page}

-- lines may speak of any number of bytes
abbrev pub most : ℕ
most = 2 ^ 64 - 1

-- the line speaks of one of these places
abbrev pub is_at : List ℕ → Line → Bool
is_at places line = list_any (nat_eq line.offset) places

abbrev pub AreAt : List ℕ → List Line → Type 0
AreAt places lines = AllByRecursion (λ (line : Line). is_at places line ≡ true) lines

abbrev pub AreBelow : ℕ → List ℕ → Type 0
AreBelow place places = AllByRecursion (λ (earlier : ℕ). earlier < place) places

-- The first line that speaks of none of these places begins at this byte of the text.
pub record Misses (places : List ℕ) (lines : List Line) (at : ℕ) : Type 0 where
  pub front : List Line
  pub line : Line
  pub after : List Line
  pub lines_are : lines ≡ front ++ line ∷ after
  pub are_at : AreAt places front
  pub missed : is_at places line ≡ false
  pub at_is : at ≡ length (times_text front)

-- the first fault of lines, and of what follows them, if a file has these places between its pages
abbrev pub IsFirstFault : Bool → List ℕ → List Line → List ℕ → Option TimesFault → Type 0
IsFirstFault is_written places lines rest (Some (Page at)) = Misses places lines at
IsFirstFault is_written places lines rest (Some (LineFault at)) =
    AreAt places lines × (is_excused is_written rest ≡ false) × (at ≡ length (times_text lines))
IsFirstFault is_written places lines rest None = AreAt places lines × (is_excused is_written rest ≡ true)

-- ---- How far lines are compared.

abbrev pub first_of : List Line → Option Line
first_of [] = None
first_of (line ∷ lines) = Some line

abbrev pub first_text : List Line → List Line
first_text [] = []
first_text (line ∷ lines) = line ∷ []

abbrev pub AwaitsAfter : List ℕ → List Line → Type 0
AwaitsAfter places [] = ⊤
AwaitsAfter places (line ∷ lines) = AreBelow line.offset places

-- no line has missed its place
pub record Waits (places : List ℕ) (lines : List Line) (p : Places) : Type 0 where
  pub front : List Line
  pub left : List Line
  pub lines_are : lines ≡ front ++ left
  pub are_at : AreAt places front
  pub awaits : AwaitsAfter places left
  pub next_is : p.next ≡ first_of left
  pub at_is : p.at ≡ length (times_text front)
  pub end_is : p.end ≡ length (times_text (front ++ first_text left))

-- the first line that missed its place is told, and a later place has passed
pub record Told (places : List ℕ) (lines : List Line) (at : ℕ) : Type 0 where
  pub misses : Misses places lines at
  pub later : list_any (nat_lt misses.line.offset) places ≡ true

abbrev pub StandsBy : List ℕ → List Line → Places → Option TimesFault → Type 0
StandsBy places lines p None = Waits places lines p
StandsBy places lines p (Some (Page at)) = Told places lines at
StandsBy places lines p (Some (LineFault at)) = ⊥

-- these places have passed
pub record HavePassed (places : List ℕ) (lines : List Line) (rest : List ℕ) (p : Places) : Type 0 where
  pub lines_of : AreLinesOf most None p.text.items lines rest
  pub stands : StandsBy places lines p p.fault
