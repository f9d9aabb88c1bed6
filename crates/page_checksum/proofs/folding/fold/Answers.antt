use Rattle.std.proofs.Common.{◌+◌, ◌<◌, ℕ, length, slice_index, arith, ap, ◌∙◌}
use Rattle.std.specs.Prelude.{bit_xor}
use Rattle.page_checksum.proofs.Pendings.{fold_more, other_place}
use Rattle.page_checksum.proofs.folding.fold.Goals as goal

pub loop-i-preserved : goal.loop-i-preserved
loop-i-preserved c =
    let i : ℕ = c.loop-i.i in
    let v : ℕ = bit_xor (slice_index c.args.piece.now i) c.pending.result in
    let room : 256 + i < length c.loop-i.folded = omega arith in
    record {
      each = fold_more c.args.piece.now c.loop-i.folded i v room (ap (bit_xor (slice_index c.args.piece.now i)) c.pending.ensures) c.loop-i.invariant.each;
      kept = λ j h. other_place c.loop-i.folded (256 + i) v j (omega arith) ∙ c.loop-i.invariant.kept j h;
    }
