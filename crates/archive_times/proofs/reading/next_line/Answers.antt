use Rattle.std.proofs.Common.{◌≡◌, ◌++◌, Some, None, arith, ap, sym, subst, ◌∙◌}
use Rattle.std.proofs.lemmas.Bool.Decides.{Decides-eqb}
use Rattle.std.proofs.lemmas.Slice.Eq.{strip_prefix_is}
use Rattle.std.specs.Bool.{IsTrue}
use Rattle.archive_times.specs.Times.{IsNext, line_text}
use Rattle.archive_times.proofs.Texts.{read_of, same_line}
use Rattle.archive_times.proofs.reading.next_line.Goals as goal
use Rattle.archive_times.proofs.reading.next_line.Goals.{in_default-via-in-Some+else-is_next, in_default-via-in_default}

-- what is stripped off is the text of the line
stripped : (c : goal.Then-is_next) → c.args.text.now ≡ line_text c.line_read-line.result ++ c.in-Some.rest.now
stripped c =
    strip_prefix_is Decides-eqb c.args.text.now c.as_slice.result.now (Some c.in-Some.rest) c.in-Some.ensures.cases
    ∙ ap (λ t. t ++ c.in-Some.rest.now) (c.as_slice.ensures ∙ c.text-written.ensures)

is_next : (c : goal.Then-is_next) → IsNext c.args.committed c.args.last c.line_read-line.result
is_next c = c.is_next.ensures.0 c.if-is_next.true

pub returns-in-Some-clause-line : goal.returns-in-Some-clause-line
returns-in-Some-clause-line c = (is_next c, stripped c)

pub returns-in-Some-clause-each : goal.returns-in-Some-clause-each
returns-in-Some-clause-each c line rest is e =
    same_line c.args.committed c.line_read-line.result line c.in-Some.rest.now rest c.args.text.now (omega arith) (is_next c).1 is.1 (stripped c) e

pub returns-in_default-clause-each : goal.returns-in_default-clause-each
returns-in_default-clause-each c line rest is e =
    let read : c.line_read-line.result ≡ line = c.line_read-line.ensures ∙ read_of c.args.committed line rest c.args.text.now (omega arith) is.1 e in
    let written : c.as_slice.result.now ≡ line_text line = c.as_slice.ensures ∙ c.text-written.ensures ∙ ap line_text read in
    elim c.in_default.branch [
      | in_default-via-in-Some+else-is_next w ↦
          (let next : IsNext c.args.committed c.args.last c.line_read-line.result = subst (IsNext c.args.committed c.args.last) (sym read) is in
          let it_is : IsTrue w.is_next.result = w.is_next.ensures.1 next in
          let isn_t = w.if-is_next.false in
          cc)
      | in_default-via-in_default w ↦
          strip_prefix_is Decides-eqb c.args.text.now c.as_slice.result.now None w.in_default.ensures.cases rest (e ∙ ap (λ t. t ++ rest) (sym written))
    ]
