use Rattle.std.proofs.Common.{arith}
use Rattle.std.proofs.lemmas.Fmt.{length-decimal-le}
use Rattle.feed_replies.proofs.reply.put_number.Goals as goal

pub write_digits-requires : goal.write_digits-requires
write_digits-requires c =
    let short = length-decimal-le 20 c.args.number (omega arith) (omega (arith, c.ranges.number)) (omega (arith, c.ranges.number)) in
    (omega (arith, short, c.requires.room), omega (arith, c.requires.within, c.told-line))

pub returns-clause-short : goal.returns-clause-short
returns-clause-short c =
    let short = length-decimal-le 20 c.args.number (omega arith) (omega (arith, c.ranges.number)) (omega (arith, c.ranges.number)) in
    omega (arith, short, c.write_digits.ensures.start)
