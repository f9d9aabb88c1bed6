use Rattle.std.proofs.Common.{◌∙◌, ◌++◌, ap}
use Rattle.import_changes.specs.Changed.{ChangeState}
use Rattle.import_changes.proofs.Steps.{taken_more}
use Rattle.import_changes.proofs.changes.Changes.avoid.Goals as goal

pub returns-clause-changed : goal.returns-clause-changed
returns-clause-changed c = λ taken h.
    taken_more taken c.args.serials.now c.args.self.now _ (ap (λ (s : ChangeState). s.options) c.self.view_is)
    (c.in_ok-take_all.ensures.ok ∙ ap (λ (s : ChangeState). s.given ++ c.args.serials.now) c.self.view_is) h
