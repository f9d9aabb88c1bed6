use Rattle.std.proofs.Common.{◌≡◌, ◌+◌, ◌-◌, ◌≤◌, ◌++◌, length, take, drop, arith, ap, sym, ◌∙◌, length-drop}
use Rattle.std.proofs.lemmas.List.{drop-drop}
use Rattle.serve_origins.proofs.Splicing.{both_written, front_written}
use Rattle.serve_origins.proofs.added.past_field.Goals as goal

pub returns-then-count-left-clause-written : goal.returns-then-count-left-clause-written
returns-then-count-left-clause-written c bytes fits more =
    let field = c.args.field.now in
    let few : c.args.count ≤ length (drop c.args.sent field) = omega (arith, c.if-count-left.true, c.saturating_sub-left.ensures, c.saturating_sub-left.auto, length-drop c.args.sent field) in
    let past : c.saturating_add.result ≡ c.args.sent + c.args.count = omega (arith, c.if-count-left.true, c.saturating_sub-left.ensures, c.saturating_add.ensures) in
    front_written (drop c.args.sent field) bytes more c.args.count few
    ∙ ap (λ l. take c.args.count (drop c.args.sent field ++ bytes) ++ (l ++ more)) (drop-drop c.args.count c.args.sent field ∙ ap (λ n. drop n field) (sym past))

pub returns-else-count-left-clause-written : goal.returns-else-count-left-clause-written
returns-else-count-left-clause-written c bytes fits more =
    let field = c.args.field.now in
    let enough : length (drop c.args.sent field) ≤ c.args.count = omega (arith, c.if-count-left.false, c.saturating_sub-left.ensures, length-drop c.args.sent field) in
    let past : c.saturating_sub.result ≡ c.args.count - length (drop c.args.sent field) = omega (arith, c.saturating_sub.ensures, c.saturating_sub-left.ensures, length-drop c.args.sent field) in
    ap (λ n. drop c.args.sent field ++ (take n bytes ++ more)) past
    ∙ both_written (drop c.args.sent field) bytes more c.args.count enough
