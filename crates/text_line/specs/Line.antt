-- A line of text that is put together from its end. Ours.
use Rattle.std.specs.Prelude.{ℕ, List}

pub record LineState : Type 0 where
  pub text : List ℕ
  -- the number of further bytes for which there is room in front
  pub room : ℕ
