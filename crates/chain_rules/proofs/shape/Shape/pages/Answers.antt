use Rattle.std.proofs.Common.{sym, subst}
use Rattle.command_pages.specs.Fits.{CommandFits}
use Rattle.chain_rules.specs.Shape.{ShapeState}
use Rattle.chain_rules.proofs.Kept.{command_fits}
use Rattle.chain_rules.proofs.shape.Shape.pages.Goals as goal

pub of-requires : goal.of-requires
of-requires c =
    subst (λ (s : ShapeState). CommandFits s.chain c.args.command.now) (sym c.self.view_is) (command_fits c.args.self.now.chain c.args.command.now c.requires)
