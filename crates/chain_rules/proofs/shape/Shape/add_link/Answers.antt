use Rattle.std.proofs.Common.{◌<◌, ◌+◌, ◌^◌, sym, ap, subst, arith, length}
use Rattle.ogg_command.specs.declared.command.Command.TheVariants.{Begin as BeginOf}
use Rattle.chain_rules.specs.Shape.{ShapeState}
use Rattle.chain_rules.proofs.Kept.{begin_fits}
use Rattle.chain_rules.proofs.Planned.{is_kept, plan_fits, begun_count}
use Rattle.chain_rules.proofs.shape.Shape.add_link.Goals as goal

pub add_link-requires-clause-few : goal.add_link-requires-clause-few
add_link-requires-clause-few c =
    let begin = c.args.begin.now in
    omega (
      arith,
      ap length c.requires.planned.after,
      begun_count begin.skeleton begin.streams,
      (begin_fits c.args.self.now.chain begin (is_kept c.args.self.now.chain (BeginOf begin) _ c.requires.planned)).streams,
    )

pub add_link-requires-clause-own : goal.add_link-requires-clause-own
add_link-requires-clause-own c = c.requires.planned.own

pub add_link-requires-clause-links : goal.add_link-requires-clause-links
add_link-requires-clause-links c =
    let begin = c.args.begin.now in
    subst (λ (s : ShapeState). s.chain.links < 65536) (sym c.self.view_is)
    (begin_fits c.args.self.now.chain begin (is_kept c.args.self.now.chain (BeginOf begin) _ c.requires.planned)).links

pub add_link-requires-clause-long : goal.add_link-requires-clause-long
add_link-requires-clause-long c =
    subst (λ (s : ShapeState). s.chain.length_of + c.args.size < 2 ^ 63) (sym c.self.view_is)
    (omega (arith, plan_fits c.args.self.now.chain (BeginOf c.args.begin.now) _ c.requires.planned))
