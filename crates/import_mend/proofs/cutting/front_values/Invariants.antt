use Rattle.std.proofs.Common.{◌≡◌, ◌+◌, drop}
use Rattle.import_mend.specs.Mended.{front_values}
use Rattle.import_mend.proofs.cutting.front_values.Given as goal

-- each value so far was full, and is counted
abbrev pub invariant-loop-value : goal.invariant-loop-value
invariant-loop-value l = record {
  counted : l.count ≡ l.value-index;
  later : front_values l.lacing ≡ l.value-index + front_values (drop l.value-index l.lacing);
}
