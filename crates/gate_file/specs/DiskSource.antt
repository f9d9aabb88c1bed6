-- A disk as a source of pages.
use Rattle.std.specs.Prelude.{ℕ}

-- the disk, and the length that it reported
pub record SourceState (D : Type 0) : Type 0 where
  pub disk : D
  pub size : ℕ

abbrev pub source_state : {D : Type 0} → D → ℕ → SourceState D
source_state disk size = record { disk = disk; size = size }
