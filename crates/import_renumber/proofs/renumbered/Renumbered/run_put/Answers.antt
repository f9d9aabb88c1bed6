use Rattle.std.proofs.Common.{◌≡◌, ℕ, List, refl, subst}
use Rattle.std.proofs.lemmas.Result.{IfOk-weaker, on_err_weaker}
use Rattle.ogg_command.specs.declared.command.Command.TheVariants.{Put as PutOf}
use Rattle.import_renumber.specs.Renumbering.{IsSpare, put_given}
use Rattle.import_renumber.proofs.Steps.{not_called, put_answered, put_fails}
use Rattle.import_renumber.proofs.renumbered.Renumbered.run_put.Goals as goal

pub returns-in-Err-clause-ok : goal.returns-in-Err-clause-ok
returns-in-Err-clause-ok g c = λ before under.
    not_called g.T.Runner.answers g.T.Runner.is_in before (PutOf c.args.put.now) _ _ _ _ _ under refl

pub returns-clause-ok : goal.returns-clause-ok
returns-clause-ok g c = λ before under.
    IfOk-weaker c.run_command.result _ _
    (λ reply. put_answered g.T.Runner.answers g.T.Runner.is_in before c.args.put.now c.in-Ok.now _ _ _ _ reply _ _ under
    (subst (λ (n : List (ℕ × ℕ)). (spare : ℕ) × IsSpare n spare × (c.in-Ok.now ≡ put_given n spare c.args.put.now)) c.as_slice.ensures.value c.in-Ok.ensures))
    (c.run_command.ensures.ok before.below under.0)

pub returns-clause-err : goal.returns-clause-err
returns-clause-err g c = λ before under.
    on_err_weaker c.run_command.result
    (put_fails g.T.Runner.answers g.T.Runner.is_in before c.args.put.now c.in-Ok.now _ _ _ _ _ _ under
    (subst (λ (n : List (ℕ × ℕ)). (spare : ℕ) × IsSpare n spare × (c.in-Ok.now ≡ put_given n spare c.args.put.now)) c.as_slice.ensures.value c.in-Ok.ensures))
    (c.run_command.ensures.err before.below under.0)
