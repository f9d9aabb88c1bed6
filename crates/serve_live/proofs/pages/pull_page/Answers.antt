use Rattle.std.proofs.Common.{◌≡◌, ◌<◌, Result, Ok, Err, length, drop, sym, ◌∙◌, subst}
use Rattle.std.specs.Result.{IfOk}
use Rattle.serve_live.specs.Pulling.{names_kept}
use Rattle.serve_live.proofs.Ahead.{head_at, head_stays}
use Rattle.serve_live.proofs.NextPage.{next_of, stands}
use Rattle.serve_live.proofs.Passing.{passed_on}
use Rattle.serve_live.proofs.pages.pull_page.Goals as goal

on_ok : {X E : Type 0} {P Q : X → Type 0} (r : Result X E) → IfOk r P → ((x : X) → P x → Q x) → IfOk r Q
on_ok (Ok x) is goes = goes x is
on_ok (Err e) is goes = tt

pub returns-then-after-left-clause-pulled : goal.returns-then-after-left-clause-pulled
returns-then-after-left-clause-pulled g c committed more rest sure is some b =
    let left = c.args.left in
    let names = c.args.names.now in
    let same = c.read_head.ensures.source.bytes_same sure in
    let sure1 = c.read_head.ensures.source.honest_same.0 sure in
    let heads = head_at c.kept_names-kept.result.now (names_kept names left) _ _ left.place c.in-Ok.head c.kept_names-kept.ensures same (λ page. c.in-Ok.ensures.read page sure) in
    c.in-Ok-give_on.ensures.pulled names committed more rest sure1 (same ∙ is) some heads b

pub returns-then-after-left-clause-passes : goal.returns-then-after-left-clause-passes
returns-then-after-left-clause-passes g c committed more rest sure is some b =
    let left = c.args.left in
    let names = c.args.names.now in
    let same = c.read_head.ensures.source.bytes_same sure in
    let sure1 = c.read_head.ensures.source.honest_same.0 sure in
    let heads = head_at c.kept_names-kept.result.now (names_kept names left) _ _ left.place c.in-Ok.head c.kept_names-kept.ensures same (λ page. c.in-Ok.ensures.read page sure) in
    c.in-Ok-give_on.ensures.passes names committed more rest sure1 (same ∙ is) some heads b

pub returns-else-count-buffer-clause-pulled : goal.returns-else-count-buffer-clause-pulled
returns-else-count-buffer-clause-pulled g c committed more rest sure is some b =
    let left = c.args.left in
    let names = c.args.names.now in
    let same = c.read_head.ensures.source.bytes_same sure in
    let sure1 = c.read_head.ensures.source.honest_same.0 sure in
    let heads = head_at c.kept_names-kept.result.now (names_kept names left) _ _ left.place c.in-Ok.head c.kept_names-kept.ensures same (λ page. c.in-Ok.ensures.read page sure) in
    let after = c.in-Ok-give_on.after in
    let first = c.in-Ok-give_on.ensures.pulled names committed more rest sure1 (same ∙ is) some heads b in
    let same2 = c.give_on.ensures.source.bytes_same sure1 in
    let sure2 = c.give_on.ensures.source.honest_same.0 sure1 in
    let here : after.place ≡ left.place = c.if-after-left.false in
    let some2 = subst (λ place. place < length committed) (sym here) some in
    let heads2 = head_stays names _ _ left after c.in-Ok.head here (c.in-Ok-give_on.ensures.stays here).0 same2 heads in
    c.give_on-in-Ok-give_on.ensures.pulled names committed more rest sure2 (same2 ∙ same ∙ is) some2 heads2 first

pub returns-else-count-buffer-clause-passes : goal.returns-else-count-buffer-clause-passes
returns-else-count-buffer-clause-passes g c committed more rest sure is some b =
    let left = c.args.left in
    let names = c.args.names.now in
    let same = c.read_head.ensures.source.bytes_same sure in
    let sure1 = c.read_head.ensures.source.honest_same.0 sure in
    let heads = head_at c.kept_names-kept.result.now (names_kept names left) _ _ left.place c.in-Ok.head c.kept_names-kept.ensures same (λ page. c.in-Ok.ensures.read page sure) in
    let after = c.in-Ok-give_on.after in
    let first = c.in-Ok-give_on.ensures.pulled names committed more rest sure1 (same ∙ is) some heads b in
    let same2 = c.give_on.ensures.source.bytes_same sure1 in
    let sure2 = c.give_on.ensures.source.honest_same.0 sure1 in
    let here : after.place ≡ left.place = c.if-after-left.false in
    let some2 = subst (λ place. place < length committed) (sym here) some in
    let heads2 = head_stays names _ _ left after c.in-Ok.head here (c.in-Ok-give_on.ensures.stays here).0 same2 heads in
    let passed = c.in-Ok-give_on.ensures.passes names committed more rest sure1 (same ∙ is) some heads b in
    on_ok c.give_on-in-Ok-give_on.result (c.give_on-in-Ok-give_on.ensures.passes names committed more rest sure2 (same2 ∙ same ∙ is) some2 heads2 first)
    (λ given later. passed_on committed left after given.1 passed later)

pub returns-in-Err-clause-cause : goal.returns-in-Err-clause-cause
returns-in-Err-clause-cause g c committed more rest sure is some b err =
    let left = c.args.left in
    let kept = names_kept c.args.names.now left in
    let h = next_of committed kept left.place left.skip (drop c.args.given rest) b.left_is some in
    let s = stands committed (g.S.PageSource.bytes c.args.source.now) more kept left.place left.skip (drop c.args.given rest) h is in
    c.in-Err.ensures.cause h.page sure s err
