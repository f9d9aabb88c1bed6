use Rattle.std.proofs.Common.{◌≡◌, ◌<◌, length}
use Rattle.std.specs.Prelude.{slice_index}
use Rattle.std.specs.List.{concat}
use Rattle.packet_view.proofs.joining.byte_at.Given as goal

-- the byte lies in the parts that are left
abbrev pub invariant-loop-part : goal.invariant-loop-part
invariant-loop-part l = record {
  inside : l.index < length (concat l.parts);
  same : slice_index (concat l.fn.parts) l.fn.index ≡ slice_index (concat l.parts) l.index;
}

abbrev pub decreases-loop-part : goal.decreases-loop-part
decreases-loop-part l = length l.parts
