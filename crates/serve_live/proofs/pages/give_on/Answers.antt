use Rattle.std.proofs.Common.{◌+◌, ◌≤◌, drop, arith}
use Rattle.serve_live.specs.Names.{name_in}
use Rattle.serve_live.specs.Heads.{IsHeadOf}
use Rattle.serve_live.specs.Listening.{part_at}
use Rattle.serve_live.specs.Pulling.{names_kept}
use Rattle.serve_live.proofs.NextPage.{next_of, stands, is_after, pulled_some, part_of_head, part_of_body}
use Rattle.serve_live.proofs.Passing.{passed_some}
use Rattle.serve_live.proofs.pages.give_on.Goals as goal

pub returns-then-left-head-clause-pulled : goal.returns-then-left-head-clause-pulled
returns-then-left-head-clause-pulled g c names committed more rest sure is some heads b =
    let left = c.args.left in
    let n = c.give_head-count.result in
    let kept = names_kept names left in
    let bytes = g.S.PageSource.bytes c.args.source.now in
    let h = next_of committed kept left.place left.skip (drop c.args.given rest) b.left_is some in
    let s = stands committed bytes more kept left.place left.skip (drop c.args.given rest) h is in
    let head : IsHeadOf (name_in kept) h.page c.args.head.now = heads h.page s in
    let gave = c.give_head-count.ensures.some in
    let after = c.left_after-after.ensures in
    pulled_some committed rest names left c.left_after-after.result c.args.head.now.begins c.args.given n c.args.head.now.size c.args.buffer.now _ c.give_head-count.new.buffer
    b h (omega (arith, c.requires.room)) (omega (arith, gave.1, c.requires.some.1)) head.size head.begins c.give_head-count.ensures.copied
    (part_of_head (name_in kept) h.page c.args.head.now left.skip n head gave.1)
    (is_after left c.left_after-after.result c.args.head.now.begins c.args.head.now.size n after.within after.behind)

pub returns-in-Ok-clause-pulled : goal.returns-in-Ok-clause-pulled
returns-in-Ok-clause-pulled g c names committed more rest sure is some heads b =
    let left = c.args.left in
    let n = c.min-count.result in
    let kept = names_kept names left in
    let p = g.S.PageSource in
    let bytes = p.bytes c.args.source.now in
    let h = next_of committed kept left.place left.skip (drop c.args.given rest) b.left_is some in
    let s = stands committed bytes more kept left.place left.skip (drop c.args.given rest) h is in
    let head : IsHeadOf (name_in kept) h.page c.args.head.now = heads h.page s in
    let copied = c.in-Ok.ensures.read sure in
    let fits : left.skip + n ≤ c.args.head.now.size = omega (arith, c.min-count.ensures, c.if-left-head.false) in
    let after = c.left_after-after-in-Ok.ensures in
    pulled_some committed rest names left c.left_after-after-in-Ok.result c.args.head.now.begins c.args.given n c.args.head.now.size c.args.buffer.now
    (part_at (left.place + left.skip) n bytes) c.read_on.new.buffer
    b h (omega (arith, c.requires.room)) fits head.size head.begins copied
    (part_of_body (name_in kept) bytes h.page left.place left.skip n s (omega (arith, c.requires.some.0, c.if-left-head.false)) (omega (arith, fits, head.size)))
    (is_after left c.left_after-after-in-Ok.result c.args.head.now.begins c.args.head.now.size n after.within after.behind)

pub returns-then-left-head-clause-passes : goal.returns-then-left-head-clause-passes
returns-then-left-head-clause-passes g c names committed more rest sure is some heads b =
    let left = c.args.left in
    let n = c.give_head-count.result in
    let kept = names_kept names left in
    let h = next_of committed kept left.place left.skip (drop c.args.given rest) b.left_is some in
    let s = stands committed (g.S.PageSource.bytes c.args.source.now) more kept left.place left.skip (drop c.args.given rest) h is in
    let head = heads h.page s in
    let gave = c.give_head-count.ensures.some in
    let after = c.left_after-after.ensures in
    passed_some committed kept (drop c.args.given rest) left c.left_after-after.result c.args.head.now.begins n c.args.head.now.size h (omega (arith, gave.1, c.requires.some.1))
    head.size head.begins (is_after left c.left_after-after.result c.args.head.now.begins c.args.head.now.size n after.within after.behind)

pub returns-in-Ok-clause-passes : goal.returns-in-Ok-clause-passes
returns-in-Ok-clause-passes g c names committed more rest sure is some heads b =
    let left = c.args.left in
    let n = c.min-count.result in
    let kept = names_kept names left in
    let h = next_of committed kept left.place left.skip (drop c.args.given rest) b.left_is some in
    let s = stands committed (g.S.PageSource.bytes c.args.source.now) more kept left.place left.skip (drop c.args.given rest) h is in
    let head = heads h.page s in
    let fits : left.skip + n ≤ c.args.head.now.size = omega (arith, c.min-count.ensures, c.if-left-head.false) in
    let after = c.left_after-after-in-Ok.ensures in
    passed_some committed kept (drop c.args.given rest) left c.left_after-after-in-Ok.result c.args.head.now.begins n c.args.head.now.size h fits
    head.size head.begins (is_after left c.left_after-after-in-Ok.result c.args.head.now.begins c.args.head.now.size n after.within after.behind)
