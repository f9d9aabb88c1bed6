use Rattle.std.proofs.Common.{ℕ, ◌+◌, ◌<◌, sym, subst, Result}
use Rattle.std.specs.Prelude.{IfOk}
use Rattle.chain_rules.specs.Limits.{longest_file}
use Rattle.ogg_command.specs.declared.refusal.Refusal.{Refusal}
use Rattle.chain_rules.proofs.Kept.{size_fits}
use Rattle.chain_rules.proofs.shape.Shape.plan.Goals as goal

pub returns-clause-fits : goal.returns-clause-fits
returns-clause-fits c =
    subst (λ (r : Result ℕ Refusal). IfOk r (λ size. c.args.self.now.chain.length_of + size < longest_file)) (sym c.decide_by.ensures.decides)
    (size_fits c.args.self.now.chain c.args.command.now)
