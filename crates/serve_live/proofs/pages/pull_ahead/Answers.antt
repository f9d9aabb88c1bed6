use Rattle.std.proofs.Common.{◌+◌, ◌≤◌, ◌++◌, length, take, drop, ◌∙◌, ap, arith}
use Rattle.serve_live.specs.Listening.{part_at}
use Rattle.serve_live.proofs.Ahead.{was_read}
use Rattle.serve_live.proofs.pages.pull_ahead.Goals as goal

pub returns-in-Ok-clause-pulled : goal.returns-in-Ok-clause-pulled
returns-in-Ok-clause-pulled g c committed more rest sure is end some b =
    let left = c.args.left in
    let given = c.args.given in
    let count = c.min-count.result in
    let inside : left.place + count ≤ length committed = omega (arith, end, c.min-count.ensures, c.min-to.ensures, c.if-to-left.false) in
    let copied = c.in-Ok.ensures.read sure ∙ ap (λ bytes. take given c.args.buffer.now ++ (part_at left.place count bytes ++ drop (given + count) c.args.buffer.now)) is in
    let read = was_read committed more rest c.args.names.now left given count c.args.buffer.now c.read_on.new.buffer b c.read_on.ensures.kept copied (omega (arith, c.requires.room)) inside in
    (c.give_all.ensures.gives committed more rest (omega (arith, inside)) read).pulled

pub returns-in-Ok-clause-passes : goal.returns-in-Ok-clause-passes
returns-in-Ok-clause-passes g c committed more rest sure is end some b =
    let left = c.args.left in
    let given = c.args.given in
    let count = c.min-count.result in
    let inside : left.place + count ≤ length committed = omega (arith, end, c.min-count.ensures, c.min-to.ensures, c.if-to-left.false) in
    let copied = c.in-Ok.ensures.read sure ∙ ap (λ bytes. take given c.args.buffer.now ++ (part_at left.place count bytes ++ drop (given + count) c.args.buffer.now)) is in
    let read = was_read committed more rest c.args.names.now left given count c.args.buffer.now c.read_on.new.buffer b c.read_on.ensures.kept copied (omega (arith, c.requires.room)) inside in
    (c.give_all.ensures.gives committed more rest (omega (arith, inside)) read).passed
