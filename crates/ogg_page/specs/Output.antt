-- What a writer holds after a fault. Ours.
use Rattle.std.specs.Prelude.{ℕ, ◌≤◌, ◌<◌, List, Option, length, take}
use Rattle.std.specs.Io.KnownBytes.{Appends}

-- If the writer shows its bytes, a prefix of the text was written; the prefix may be empty, or the whole.
abbrev pub WritesPrefix : Option (List ℕ) → Option (List ℕ) → List ℕ → Type 0
WritesPrefix old new text = (n : ℕ) × (n ≤ length text) × Appends old new (take n text)

-- If the writer shows its bytes, a part of the text was written, from its front; the part may be empty, but isn't the
-- whole.
abbrev pub WritesPart : Option (List ℕ) → Option (List ℕ) → List ℕ → Type 0
WritesPart old new text = (n : ℕ) × (n < length text) × Appends old new (take n text)
