use Rattle.std.proofs.Common.{◌+◌, ◌≤◌, ◌<◌, length, drop, ◌∙◌, ap, arith}
use Rattle.ogg_page.specs.Page.{page_bytes}
use Rattle.ogg_page.specs.PageLaws.{length-page_bytes}
use Rattle.serve_machine.specs.Places.{part_at}
use Rattle.serve_sending.proofs.Ahead.{ahead}
use Rattle.serve_sending.proofs.Pulled.{none_given, some_given}
use Rattle.page_heads.specs.Laws.{part_of_page}
use Rattle.serve_sending.proofs.walking.pull_page.Goals as goal

pub returns-then-count-eq0-clause-pulled : goal.returns-then-count-eq0-clause-pulled
returns-then-count-eq0-clause-pulled g c committed more rest sure is b =
    let bytes = g.S.PageSource.bytes c.args.source.now in
    let left = c.args.left in
    let next = c.next_of_page-count in
    let h = ahead bytes committed more c.args.serial left.place left.skip left.count _ is b.is_rest c.requires.some in
    let given = next.ensures.given committed (drop c.args.given rest) h.page h.stands (c.in-Ok.ensures.read h.page sure h.in_all) b.is_rest in
    none_given committed rest c.args.serial left next.result.1 c.args.given next.result.0 c.args.buffer.now h.page b c.if-count-eq0.true
    (omega (arith, next.ensures.total, c.if-count-eq0.true)) given

pub returns-in-Ok-read_on-clause-pulled : goal.returns-in-Ok-read_on-clause-pulled
returns-in-Ok-read_on-clause-pulled g c committed more rest sure is b =
    let s = g.S.PageSource in
    let bytes = s.bytes c.args.source.now in
    let left = c.args.left in
    let next = c.next_of_page-count in
    let n = next.result.0 in
    let h = ahead bytes committed more c.args.serial left.place left.skip left.count _ is b.is_rest c.requires.some in
    let extent = c.in-Ok.ensures.read h.page sure h.in_all in
    let given = next.ensures.given committed (drop c.args.given rest) h.page h.stands extent b.is_rest in
    let inside = next.ensures.inside (let k : 0 < n = omega (arith, c.if-count-eq0.false) in k) in
    let fits : left.skip + n ≤ length (page_bytes h.page) = omega (arith, inside, ap (λ x. x.size) extent, length-page_bytes h.page) in
    let same = c.read_extent.ensures.source.bytes_same sure in
    let copied = c.in-Ok-read_on.ensures.read (c.read_extent.ensures.source.honest_same.0 sure) in
    let part = ap (part_at (left.place + left.skip) n) same ∙ part_of_page bytes h.page left.place left.skip n h.in_all fits in
    some_given committed rest c.args.serial left next.result.1 c.args.given n c.args.buffer.now (part_at (left.place + left.skip) n (s.bytes c.read_extent.new.source))
    c.read_on.new.buffer h.page b (omega (arith, c.requires.room)) next.ensures.total copied part given

pub returns-in-Err-clause-cause : goal.returns-in-Err-clause-cause
returns-in-Err-clause-cause g c committed more rest sure is b err =
    let left = c.args.left in
    let h = ahead (g.S.PageSource.bytes c.args.source.now) committed more c.args.serial left.place left.skip left.count _ is b.is_rest c.requires.some in
    c.in-Err.ensures.cause h.page sure h.in_all err
