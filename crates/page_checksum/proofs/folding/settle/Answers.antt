use Rattle.std.proofs.Common.{◌≡◌, ◌+◌, ◌<◌, ◌≢◌, ℕ, List, length, slice_index, set, arith, ap, ◌∙◌, below_more, length-set, get_or-set_other, get_or-set_same}
use Rattle.std.specs.Prelude.{bit_xor}
use Rattle.page_checksum.specs.Pending.{pending_at}
use Rattle.page_checksum.proofs.folding.settle.Goals as goal

pub loop-i-preserved : goal.loop-i-preserved
loop-i-preserved c =
    let i : ℕ = c.loop-i.i in
    let last : List ℕ = c.args.last.now in
    let folded : List ℕ = c.args.folded.now in
    let v : ℕ = bit_xor (slice_index last i) c.pending.result in
    let room : i < length c.loop-i.settled = omega arith in
    record {
      long = length-set c.loop-i.settled i v ∙ c.loop-i.invariant.long;
      each = below_more (λ j. slice_index (set c.loop-i.settled i v) j ≡ bit_xor (slice_index last j) (pending_at (slice_index folded) (256 + j))) i
          (λ j h. let ne : j ≢ i = omega arith in get_or-set_other c.loop-i.settled i j v 0 ne ∙ c.loop-i.invariant.each j h)
          (get_or-set_same c.loop-i.settled i v 0 room ∙ ap (bit_xor (slice_index last i)) c.pending.ensures);
    }
