use Rattle.std.proofs.Common.{List, ℕ, None, sym, ◌∙◌, subst, refl}
use Rattle.archive_times.specs.Times.{AreLinesOf}
use Rattle.file_actions.specs.Times.{most}
use Rattle.file_actions.specs.declared.checks.Places.{Places}
use Rattle.file_actions.proofs.Passing.{reached, unreached}
use Rattle.file_actions.proofs.checks.Places.pass.Goals as goal

pub returns-else-is_reached : goal.returns-else-is_reached
returns-else-is_reached c places lines rest passed below =
    let now : Places = record c.args.self.now { fault = c.fault_after-self.result } in
    record {
      lines_of = passed.lines_of;
      stands = unreached places lines c.args.self.now now c.args.place passed.stands below (λ it. (let yes' = c.is_reached.ensures.1 it in let no' = c.if-is_reached.false in cc))
          c.fault_after-self.ensures refl refl refl;
    }

pub returns-then-is_reached : goal.returns-then-is_reached
returns-then-is_reached c places lines rest passed below =
    let on = c.step.ensures in
    record {
      lines_of = subst (λ (text : List ℕ). AreLinesOf most None text lines rest) (sym on.same.0) passed.lines_of;
      stands = reached c.args.self.now.text.items places lines rest c.args.self.now c.step.new.self c.args.place passed.lines_of passed.stands below
          (c.is_reached.ensures.0 c.if-is_reached.true) (on.same.1 ∙ c.fault_after-self.ensures) (λ front left of last end. on.line front left rest of last end) on.at;
    }
