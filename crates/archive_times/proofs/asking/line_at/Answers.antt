use Rattle.std.proofs.Common.{arith, ap, sym, ◌∙◌}
use Rattle.archive_times.specs.Asked.{line_at}
use Rattle.archive_times.proofs.Readings.{all_later, next_of, none_of, passed}
use Rattle.archive_times.proofs.asking.line_at.Goals as goal

pub returns-then-line-time : goal.returns-then-line-time
returns-then-line-time c lines rest of =
    let (left, of_left, same) = c.loop-line.invariant lines rest of in
    let (is, text_is) = c.in-Some.ensures.line in
    let (others, split, _) = next_of c.args.committed c.loop-line.last c.loop-line.rest.now left rest c.in-Some.line c.in-Some.after.now (omega arith) of_left is text_is in
    sym (same ∙ ap (λ l. line_at c.loop-line.last l c.args.time) split ∙ all_later c.loop-line.last c.in-Some.line others c.args.time (omega arith))

pub loop-line-preserved : goal.loop-line-preserved
loop-line-preserved c lines rest of =
    let (left, of_left, same) = c.loop-line.invariant lines rest of in
    let (is, text_is) = c.in-Some.ensures.line in
    let (others, split, of_others) = next_of c.args.committed c.loop-line.last c.loop-line.rest.now left rest c.in-Some.line c.in-Some.after.now (omega arith) of_left is text_is in
    (others, of_others, same ∙ ap (λ l. line_at c.loop-line.last l c.args.time) split ∙ passed c.loop-line.last c.in-Some.line others c.args.time (omega arith))

pub returns : goal.returns
returns c lines rest of =
    let (left, of_left, same) = c.loop-line.invariant lines rest of in
    let (none, _) = none_of c.args.committed c.loop-line.last c.loop-line.rest.now left rest of_left c.in_default.ensures.each in
    sym (same ∙ ap (λ l. line_at c.loop-line.last l c.args.time) none)
