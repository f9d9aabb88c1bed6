-- Cuts by time: lines of times say where a file stood between two commands. Ours.
use Rattle.std.specs.Prelude.{◌≡◌, ℕ, ◌≤◌, List, [], ◌∷◌, ◌++◌, length, take, ⊤}
use Rattle.std.specs.List.{AllByRecursion}
use Rattle.ogg_command.specs.declared.command.Command.{Command}
use Rattle.chain_rules.specs.Commands.{bytes_of_commands}
use Rattle.archive_times.specs.declared.line.Line.{Line}
use Rattle.archive_cut.specs.declared.placing.Recorded.{Recorded}
use Rattle.archive_cut.specs.Parts.{IsCutOf, all_of, cut_at, joined_cuts, nothing, place_after}
use Rattle.archive_cut.specs.Placing.{stood_at}

-- the bytes of some of these commands, from the first on, end at this place
pub record IsBoundary (commands : List Command) (place : ℕ) : Type 0 where
  pub before : List Command
  pub after : List Command
  pub split : commands ≡ before ++ after
  pub place_is : place ≡ length (bytes_of_commands [] before)

abbrev pub AreBoundaries : List Command → List Line → Type 0
AreBoundaries commands lines = AllByRecursion (λ (line : Line). IsBoundary commands line.offset) lines

-- none of these is less than the one before
abbrev pub NeverFall : ℕ → List ℕ → Type 0
NeverFall least [] = ⊤
NeverFall least (number ∷ numbers) = (least ≤ number) × NeverFall number numbers

-- behind these commands come the parts, which end at these places
abbrev pub ArePartsTo : List Command → List (List Command) → List ℕ → Type 0
ArePartsTo front [] [] = ⊤
ArePartsTo front [] (place ∷ places) = ⊥
ArePartsTo front (part ∷ parts) [] = ⊥
ArePartsTo front (part ∷ parts) (place ∷ places) =
    (place ≡ length (bytes_of_commands [] (front ++ part))) × ArePartsTo (front ++ part) parts places

-- Places divide the commands of a file: those before the first place, a part between each place and the next, and those
-- after the last.
pub record IsDivided (commands : List Command) (start : ℕ) (places : List ℕ) : Type 0 where
  pub front : List Command
  pub parts : List (List Command)
  pub back : List Command
  pub split : commands ≡ front ++ (all_of parts ++ back)
  pub starts : start ≡ length (bytes_of_commands [] front)
  pub are_parts : ArePartsTo front parts places

-- of the file's bytes those up to each place are what the commands before it add
abbrev pub AreBytesTo : List ℕ → List Command → List (List Command) → List ℕ → Type 0
AreBytesTo bytes front [] places = ⊤
AreBytesTo bytes front (part ∷ parts) [] = ⊥
AreBytesTo bytes front (part ∷ parts) (place ∷ places) =
    (take place bytes ≡ bytes_of_commands [] (front ++ part)) × AreBytesTo bytes (front ++ part) parts places

-- behind these commands each part is cut for itself
abbrev pub AreCutsOf : List Command → List (List Command) → Type 0
AreCutsOf front [] = ⊤
AreCutsOf front (part ∷ parts) = IsCutOf front part × AreCutsOf (front ++ part) parts

-- The cuts from each of these places to the next are of the file's own bytes, hold what was committed between the two, and
-- add up to the cut from the first to the last.
pub record AddUp (commands : List Command) (start : ℕ) (places : List ℕ) : Type 0 where
  pub divided : IsDivided commands start places
  pub begins : take start (bytes_of_commands [] commands) ≡ bytes_of_commands [] divided.front
  pub bytes : AreBytesTo (bytes_of_commands [] commands) divided.front divided.parts places
  pub parts : AreCutsOf divided.front divided.parts
  pub whole : IsCutOf divided.front (all_of divided.parts)
  pub sum : joined_cuts (place_after nothing divided.front) divided.parts ≡ cut_at (place_after nothing divided.front) (all_of divided.parts)

-- how many bytes of the file were committed at the time
abbrev pub stood : Recorded → List Line → ℕ → ℕ
stood file lines time = (stood_at file lines time).offset
