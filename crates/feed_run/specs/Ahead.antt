-- Whether a record is whole at the front of some bytes, by its head alone. Ours.
use Rattle.std.specs.Prelude.{◌≡◌, ◌≢◌, ◌≤◌, ◌∷◌, ◌++◌, ℕ, List, length}
use Rattle.ogg_page.specs.Numbers.{u32_bytes}

-- The kind of a record, which isn't that of an announcement, then the length of its payload, and then as many bytes or
-- more.
pub record BeginsWithRecord (bytes : List ℕ) : Type 0 where
  pub kind : ℕ
  pub stated : ℕ
  pub rest : List ℕ
  pub spelled : bytes ≡ kind ∷ (u32_bytes stated ++ rest)
  pub other : kind ≢ 0
  pub whole : stated ≤ length rest
