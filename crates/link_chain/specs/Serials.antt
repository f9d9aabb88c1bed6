-- The serials of all streams so far, and the room for more.
use Rattle.std.specs.Prelude.{ℕ, List}

pub record SerialState : Type 0 where
  -- in the order of their first pages
  pub listed : List ℕ
  -- the number of further serials for which there is room
  pub room : ℕ
