-- What a chain keeps, and the room that it has.
use Rattle.std.specs.Prelude.{ℕ}
use Rattle.link_chain.specs.ChainState.{ChainState}

pub record ChainWithRoom : Type 0 where
  pub chain : ChainState
  -- the number of streams of a link for which there is room
  pub stream_room : ℕ
  -- the number of further serials for which there is room
  pub serial_room : ℕ
