-- What a taker of replies was told. Ours.
use Rattle.std.specs.Prelude.{◌≡◌, ℕ, Option, List, Bool, true, false}
use Rattle.std.specs.Io.KnownBytes.{Keeps}
use Rattle.ogg_page.specs.Output.{WritesPart, WritesPrefix}

-- Nothing was written or told. If something may wait, it may have gone out.
abbrev pub Stays : Bool → Option (List ℕ) → Option (List ℕ) → Type 0
Stays false old new = new ≡ old
Stays true old new = Keeps old new

-- A taker of replies failed at this line: it was told a part of the line, or all of it if the line may wait with it.
abbrev pub TellsPart : Bool → Option (List ℕ) → Option (List ℕ) → List ℕ → Type 0
TellsPart false old new line = WritesPart old new line
TellsPart true old new line = WritesPrefix old new line
