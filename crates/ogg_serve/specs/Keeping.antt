-- What a connection, and a feed that is recorded meanwhile, leave of a hub. Ours.
use Rattle.std.specs.Prelude.{◌≡◌, ◌≢◌, ℕ}
use Rattle.serve_machine.specs.Hub.{HubState, phase_of}
use Rattle.serve_machine.specs.Own.{AreNumbered, KeepsFile}
use Rattle.serve_machine.specs.Sound.{Extends}

-- The other sessions are in the phases in which they were, and each session has a number that was given. The committed
-- bytes stay in front.
pub record KeepsOthers (id : ℕ) (old new : HubState) : Type 0 where
  pub others : (other : ℕ) → other ≢ id → phase_of new other ≡ phase_of old other
  pub numbers : AreNumbered old → AreNumbered new
  pub extends : Extends old.committed new.committed

-- The same of every session.
pub record KeepsAll (old new : HubState) : Type 0 where
  pub phases : (id : ℕ) → phase_of new id ≡ phase_of old id
  pub numbers : AreNumbered old → AreNumbered new
  pub extends : Extends old.committed new.committed

-- The same, and nothing is recorded.
pub record OnlyServes (id : ℕ) (old new : HubState) : Type 0 where
  pub file : KeepsFile old new
  pub others : KeepsOthers id old new
