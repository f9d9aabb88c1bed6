use Rattle.std.proofs.Common.{◌≡◌, ◌≤◌, ◌+◌, drop}
use Rattle.std.specs.Prelude.{if◌then◌else◌}
use Rattle.import_mend.specs.Mended.{ends_some, whole_values}
use Rattle.import_mend.proofs.cutting.whole_values.Given as goal

-- the values so far are passed; they count as far as the last of them that isn't full, if all others are
abbrev pub invariant-loop-value : goal.invariant-loop-value
invariant-loop-value l = record {
  passed : l.passed ≡ l.value-index;
  within : l.count ≤ l.passed;
  later : whole_values l.lacing ≡ (if ends_some (drop l.value-index l.lacing) then l.value-index + whole_values (drop l.value-index l.lacing) else l.count);
}
