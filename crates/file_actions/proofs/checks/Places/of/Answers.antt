use Rattle.std.proofs.Common.{List, [], Option, None, ℕ, sym, subst, refl}
use Rattle.archive_times.specs.Times.{AreLinesOf}
use Rattle.file_actions.specs.Times.{StandsBy, most}
use Rattle.file_actions.specs.declared.checks.TimesFault.{TimesFault}
use Rattle.file_actions.proofs.Passing.{awaits_first}
use Rattle.file_actions.proofs.checks.Places.of.Goals as goal

pub returns : goal.returns
returns c lines rest of =
    let on = c.step.ensures in
    let stepped = on.line [] lines rest of refl refl in
    record {
      lines_of = subst (λ (text : List ℕ). AreLinesOf most None text lines rest) (sym on.same.0) of;
      stands = subst (λ (fault : Option TimesFault). StandsBy [] lines c.step.new.self fault) (sym on.same.1)
          (record {
            front = [];
            left = lines;
            lines_are = refl;
            are_at = tt;
            awaits = awaits_first lines;
            next_is = stepped.0;
            at_is = on.at;
            end_is = stepped.1;
          });
    }
