use Rattle.std.proofs.Common.{◌≡◌, length}
use Rattle.std.specs.List.{concat}
use Rattle.packet_view.proofs.joining.are_bytes.Given as goal

-- the bytes so far are those of the parts so far
abbrev pub invariant-loop-part : goal.invariant-loop-part
invariant-loop-part l = record {
  there : concat l.fn.parts ≡ l.bytes → concat l.parts ≡ l.left;
  back : concat l.parts ≡ l.left → concat l.fn.parts ≡ l.bytes;
}

abbrev pub decreases-loop-part : goal.decreases-loop-part
decreases-loop-part l = length l.parts
