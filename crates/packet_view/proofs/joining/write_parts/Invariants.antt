use Rattle.std.proofs.Common.{◌≡◌, ◌++◌, List, ℕ, length}
use Rattle.std.specs.List.{concat}
use Rattle.std.specs.Io.KnownBytes.{Appends}
use Rattle.packet_view.proofs.joining.write_parts.Given as goal

-- the parts so far are written
abbrev pub invariant-loop-part : goal.invariant-loop-part
invariant-loop-part g l = (written : List ℕ) × (concat l.fn.parts ≡ written ++ concat l.parts) × Appends (g.W.Write.contents l.fn.writer) (g.W.Write.contents l.writer) written

abbrev pub decreases-loop-part : goal.decreases-loop-part
decreases-loop-part g l = length l.parts
