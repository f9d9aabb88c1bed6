use Rattle.archive_times.proofs.Readings.{one_more}
use Rattle.archive_times.proofs.reading.last_line.Goals as goal

pub loop-line-preserved : goal.loop-line-preserved
loop-line-preserved c =
    let (lines, text_is, are, last_is) = c.loop-line.invariant in
    let (is, split) = c.in-Some.ensures.line in
    one_more c.args.committed c.args.last c.loop-line.last lines c.in-Some.line c.args.text.now c.loop-line.rest.now c.in-Some.after.now text_is are last_is is split
