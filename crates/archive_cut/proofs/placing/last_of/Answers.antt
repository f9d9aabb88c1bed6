use Rattle.std.proofs.Common.{None, ◌∙◌, ap, arith}
use Rattle.archive_times.specs.Times.{last_of}
use Rattle.archive_cut.proofs.placing.last_of.Goals as goal

pub returns : goal.returns
returns c lines rest of =
    let (found, of_found, is) = c.last_line-last.ensures in
    is ∙ ap (last_of None) (c.lines_are_known_by_their_text.ensures.same c.args.committed None c.args.times.now found lines _ rest (omega arith) of_found of).0
