use Rattle.std.proofs.Common.{◌≡◌, ℕ, ◌*◌, length, sum, take, drop}
use Rattle.import_gather.proofs.Cuts.{CutSoFar}
use Rattle.import_gather.proofs.cutting.cut.Given as goal

-- the values so far are cut off, the others are those of the bytes that are left, and no growth was refused
abbrev pub invariant-loop-value : goal.invariant-loop-value
invariant-loop-value l = record {
  whole : sum (drop l.value-index l.lacing) ≡ length l.left;
  cut : (segments : ℕ) → length l.fn.rest.items ≡ 255 * segments →
      CutSoFar segments l.fn.rest.items (take l.value-index l.lacing) l.body l.packets.items l.rest.items l.left;
  noted : l.grower ≡ l.fn.grower;
}
