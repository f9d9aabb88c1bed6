-- What was taken of a piece of an input. Ours.
use Rattle.std.specs.Prelude.{◌≡◌, ◌⊎◌, ℕ, ◌+◌, Option, Some, None, List, [], ◌∷◌, ◌++◌, length}
use Rattle.std.specs.List.{flat_map}
use Rattle.ogg_command.specs.declared.command.Entry.{Entry}
use Rattle.line_packets.specs.Lines.{lines_from, rest_from, short}
use Rattle.line_packets.specs.Placing.{entries_of, left_of}
use Rattle.line_packets.specs.declared.streams.Streams.{Streams}
use Rattle.line_packets.specs.declared.placing.LeftOut.{LeftOut}
use Rattle.line_packets.specs.declared.lines.Taken.{Taken}

-- this line has ended: its entry is appended, or it is told why it is left out, and the next line begins
pub record EndsLine (streams : Streams) (position : ℕ) (line : List ℕ) (old new : List Entry) (left : Option LeftOut) (front : Option (List ℕ)) : Type 0 where
  pub left_is : left ≡ left_of streams line
  pub entries_are : new ≡ old ++ entries_of streams position line
  pub front_is : front ≡ short []

-- how many lines were told to be left out
abbrev pub count_of : Option LeftOut → ℕ
count_of None = 0
count_of (Some left) = 1

-- Lines of the piece were taken, of the first of which `line` had come before. What is left of the piece has the others.
pub record HasTaken (streams : Streams) (position : ℕ) (line piece : List ℕ) (old new : List Entry) (taken : Taken) (front : Option (List ℕ)) : Type 0 where
  pub done : List (List ℕ)
  pub next : List ℕ
  pub front_is : front ≡ short next
  pub lines_are : lines_from line piece ≡ done ++ lines_from next taken.rest.now
  pub rest_is : rest_from line piece ≡ rest_from next taken.rest.now
  pub entries_are : new ≡ old ++ flat_map (entries_of streams position) done
  pub counted : taken.lines ≡ length done
  -- each of them has an entry, but for one that is told
  pub told : length new + count_of taken.left ≡ length old + taken.lines
  pub told_is : taken.left ≡ None ⊎ (before : List (List ℕ)) × (last : List ℕ) × (done ≡ before ++ last ∷ []) × (taken.left ≡ left_of streams last)
