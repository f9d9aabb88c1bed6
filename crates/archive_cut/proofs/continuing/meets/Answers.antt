use Rattle.std.proofs.Common.{sym, ◌∙◌, subst}
use Rattle.archive_cut.specs.Heads.{StandUpTo}
use Rattle.archive_cut.proofs.continuing.meets.Goals as goal

pub returns-in-Ok-clause-meets : goal.returns-in-Ok-clause-meets
returns-in-Ok-clause-meets g c olds news so sn s1 s2 yes' =
    let on = c.stands_ended.ensures.source in (
      sym c.count_open.ensures ∙ c.if-count_open.false ∙ c.count_open-2.ensures,
      c.in-Ok-true.ensures.ended c.in-Ok-true.field-0-test so,
      c.in-Ok.ensures.alike olds news (on.honest_same.0 so) sn
          (subst (λ b. StandUpTo b c.args.link.begin c.args.ends.1 olds) (sym (on.bytes_same so)) s1) s2 yes',
    )
