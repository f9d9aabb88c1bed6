use Rattle.std.proofs.Common.{◌≡◌, ◌≤◌, ◌+◌, ◌*◌, drop}
use Rattle.import_gather.specs.Cutting.{first_size}
use Rattle.import_gather.proofs.cutting.first_size_of.Given as goal

-- each value so far was 255, and with the first size of the others it is that of all
abbrev pub invariant-loop-value : goal.invariant-loop-value
invariant-loop-value l = record {
  sum : l.size + first_size (drop l.value-index l.lacing) ≡ first_size l.lacing;
  bound : l.size ≤ 255 * l.value-index;
}
