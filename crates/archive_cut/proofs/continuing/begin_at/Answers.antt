use Rattle.std.proofs.Common.{sym, subst}
use Rattle.archive_cut.specs.Heads.{StandUpTo}
use Rattle.archive_cut.proofs.continuing.begin_at.Goals as goal

pub returns-in-Ok-Some-clause-begins : goal.returns-in-Ok-Some-clause-begins
returns-in-Ok-Some-clause-begins g c news sure s =
    let on = c.behind_ends.ensures.source in
    rw c.in-Ok-Some.field-0-is at
    (c.in-Ok-Some.ensures.found c.args.new_end news (on.honest_same.0 sure) (subst (λ b. StandUpTo b 0 c.args.new_end news) (sym (on.bytes_same sure)) s)
    c.if-begun-new_end.true)
