-- A source that reads ahead. Ours.
use Rattle.std.specs.Prelude.{◌≡◌, ℕ, List, length, take, drop}

-- the source, and the bytes that are held, with the place where they stand
pub record AheadState (S : Type 0) : Type 0 where
  pub source : S
  pub from : ℕ
  pub held : List ℕ

abbrev pub ahead_state : {S : Type 0} → S → ℕ → List ℕ → AheadState S
ahead_state source from held = record { source = source; from = from; held = held }

-- the bytes that are held stand at their place
abbrev pub IsHeld : List ℕ → ℕ → List ℕ → Type 0
IsHeld bytes from held = held ≡ take (length held) (drop from bytes)
