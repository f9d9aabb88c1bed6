use Rattle.page_checksum.proofs.Slices.{piece_on}
use Rattle.page_checksum.proofs.crc.checksum_by_tables.Goals as goal

pub loop-sixteen-preserved : goal.loop-sixteen-preserved
loop-sixteen-preserved c =
    let some = c.in-Some in
    piece_on _ 16 _ _ _ _ _ _ c.loop-sixteen.invariant some.ensures.cases.0 some.ensures.cases.1 c.checksum_on_sixteen-sum.ensures

pub loop-eight-preserved : goal.loop-eight-preserved
loop-eight-preserved c =
    let some = c.in-Some-split_first_chunk in
    piece_on _ 8 _ _ _ _ _ _ c.loop-eight.invariant some.ensures.cases.0 some.ensures.cases.1 c.checksum_on_eight-sum.ensures

pub loop-four-preserved : goal.loop-four-preserved
loop-four-preserved c =
    let some = c.in-Some-split_first_chunk-2 in
    piece_on _ 4 _ _ _ _ _ _ c.loop-four.invariant some.ensures.cases.0 some.ensures.cases.1 c.checksum_on_four-sum.ensures
