use Rattle.std.proofs.Common.{◌++◌, refl, sym, ◌∙◌, ap}
use Rattle.ogg_command.specs.declared.command.Command.TheVariants.{Begin as BeginOf}
use Rattle.import_renumber.specs.Renumbering.{begun_serials}
use Rattle.import_renumber.proofs.Steps.{begin_fails, begin_refused, begin_taken, not_called}
use Rattle.import_renumber.proofs.renumbered.Renumbered.run_begin.Goals as goal

pub returns-in-Err-clause-ok : goal.returns-in-Err-clause-ok
returns-in-Err-clause-ok g c = λ before under.
    not_called g.T.Runner.answers g.T.Runner.is_in before (BeginOf c.args.begin.now) _ _ _ _ _ under refl

pub returns-in-Err-reserve-clause-ok : goal.returns-in-Err-reserve-clause-ok
returns-in-Err-reserve-clause-ok g c = λ before under.
    not_called g.T.Runner.answers g.T.Runner.is_in before (BeginOf c.args.begin.now) _ _ _ _ _ under c.in-Err-reserve.ensures.same

pub returns-in-Err-run_command-clause-err : goal.returns-in-Err-run_command-clause-err
returns-in-Err-run_command-clause-err g c = λ before under.
    begin_fails g.T.Runner.answers g.T.Runner.is_in before c.args.begin.now c.in-Ok.named.begin _ _ _ _ c.in-Ok.named.names.items _ _ _ under c.in-Ok-reserve.ensures.same c.in-Ok.ensures.begins
    (c.in-Err-run_command.ensures.err before.below under.0)

pub returns-then-is_refusal-clause-ok : goal.returns-then-is_refusal-clause-ok
returns-then-is_refusal-clause-ok g c = λ before under.
    begin_refused g.T.Runner.answers g.T.Runner.is_in before c.args.begin.now c.in-Ok.named.begin _ _ _ _ c.in-Ok.named.names.items _ c.in-Ok-run_command.reply _ _ under c.in-Ok-reserve.ensures.same c.in-Ok.ensures.begins
    (sym c.is_refusal.ensures ∙ c.if-is_refusal.true) (c.in-Ok-run_command.ensures.ok before.below under.0)

pub returns-clause-ok : goal.returns-clause-ok
returns-clause-ok g c = λ before under.
    begin_taken g.T.Runner.answers g.T.Runner.is_in before c.args.begin.now c.in-Ok.named.begin _ _ _ _ c.in-Ok.named.names.items _ c.in-Ok-run_command.reply _ _ under
    (c.push_all.ensures ∙ ap (λ l. c.reserve.new.self.listed ++ l) (c.as_slice.ensures.value ∙ c.in-Ok.ensures.serials) ∙ ap (λ l. l ++ begun_serials c.in-Ok.named.begin) c.in-Ok-reserve.ensures.same) c.in-Ok.ensures.begins
    (sym c.is_refusal.ensures ∙ c.if-is_refusal.false) (c.in-Ok-run_command.ensures.ok before.below under.0)
