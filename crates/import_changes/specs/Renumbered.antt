-- Streams under other serials, so that no two links share one. Ours.
use Rattle.std.specs.Prelude.{◌≡◌, ℕ, Bool, true, false, nat_eq, List, [], map}
use Rattle.std.specs.List.{list_any}
use Rattle.chain_rules.specs.Recording.{Stream}

abbrev pub serials : List Stream → List ℕ
serials streams = map (λ (stream : Stream). stream.serial) streams

-- The serials that a stream mustn't have, if those of streams of earlier links are these. Without renumbering there
-- are none, so that each stream keeps its own.
abbrev pub avoided : Bool → List ℕ → List ℕ
avoided true earlier = earlier
avoided false earlier = []

-- The stream has its packets, its end, and a serial that it may have. If it may have the serial that it had, it keeps
-- that.
pub record IsRenumberedStream (avoided : List ℕ) (stream now : Stream) : Type 0 where
  pub packets : now.packets ≡ stream.packets
  pub ended : now.ended ≡ stream.ended
  pub free : list_any (nat_eq now.serial) avoided ≡ false
  pub kept : list_any (nat_eq stream.serial) avoided ≡ false → now.serial ≡ stream.serial
