use Rattle.std.proofs.Common.{◌≤◌, length, ap, arith}
use Rattle.std.specs.Fmt.{decimal}
use Rattle.std.proofs.lemmas.Fmt.{length-decimal-le}
use Rattle.text_line.specs.Line.{LineState}
use Rattle.text_line.proofs.line.Line.put_number.Goals as goal

pub write_digits-self-inside-requires : goal.write_digits-self-inside-requires
write_digits-self-inside-requires c =
    let short : length (decimal c.args.number) ≤ 20 = length-decimal-le 20 c.args.number (omega arith) (omega (arith, c.ranges.number)) (omega (arith, c.ranges.number)) in
    (omega (arith, short, c.requires, ap (λ (l : LineState). l.room) c.self.view_is), omega (arith, c.self.invariant, c.self.told))

pub returns-clause-room : goal.returns-clause-room
returns-clause-room c =
    let short : length (decimal c.args.number) ≤ 20 = length-decimal-le 20 c.args.number (omega arith) (omega (arith, c.ranges.number)) (omega (arith, c.ranges.number)) in
    omega (arith, short, c.write_digits-self-inside.ensures.start, ap (λ (l : LineState). l.room) c.self.view_is)
