use Rattle.std.proofs.Common.{◌-◌, ◌∙◌, ap, drop, sym, subst, take}
use Rattle.archive_cut.specs.Continuing.{StandsIn}
use Rattle.archive_cut.specs.Heads.{StandUpTo}
use Rattle.archive_cut.proofs.continuing.meeting_at.Goals as goal

pub returns-in-Ok-true-clause-meets : goal.returns-in-Ok-true-clause-meets
returns-in-Ok-true-clause-meets g c olds pages so sn s1 s2 begun =
    let on = c.streams_at.ensures.source in
    let link = rw c.in-Ok-Some.field-0-is at (c.in-Ok-Some.ensures.found c.args.old_end olds so s1 c.requires) in
    let met =
    c.in-Ok-true.ensures.meets olds pages (on.honest_same.0 so) sn
    (subst (λ b. StandUpTo b c.args.link.begin c.args.old_end olds) (sym (on.bytes_same so)) s1) s2 c.in-Ok-true.field-0-test in
    let value = c.as_slice-first.ensures.value in
    record {
      first = c.as_slice-first.result.now;
      begun = c.args.news.now;
      link = subst (λ l. StandsIn c.args.link.begin c.args.end olds l) (sym value) link;
      ended = ap (λ b. take (c.args.old_end - c.args.end) (drop c.args.end b)) (sym (on.bytes_same so)) ∙ met.1;
      left_out = begun;
      as_many = met.0;
      alike = met.2;
    }
