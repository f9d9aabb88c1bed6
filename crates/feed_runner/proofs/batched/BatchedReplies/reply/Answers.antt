use Rattle.std.specs.Io.KnownBytes.{append_known}
use Rattle.feed_replies.specs.Reply.{reply_line}
use Rattle.feed_runner.proofs.Sent.{line_left, lines_left, on_err, told_so_far}
use Rattle.feed_runner.proofs.batched.BatchedReplies.reply.Goals as goal

pub returns-in_err-write_reply-clause-part : goal.returns-in_err-write_reply-clause-part
returns-in_err-write_reply-clause-part g c =
    let out = g.W.Write.contents in
    let before = c.args.self.now in
    let sent = c.make_room.new.self in
    on_err c.from_residual-in_err-write_reply.result _
    (line_left (out before.out) (out sent.out) before.waiting.items sent.waiting.items c.args.reply.now c.in_ok-make_room.ensures.out c.in_ok-make_room.ensures.lines)

pub returns-clause-part : goal.returns-clause-part
returns-clause-part g c =
    let out = g.W.Write.contents in
    let before = c.args.self.now in
    let sent = c.make_room.new.self in
    let last = c.send.new.self in
    lines_left c.send.result (out before.out) (out sent.out) (out last.out) before.waiting.items sent.waiting.items c.write_reply.new.writer.items last.waiting.items
    c.args.reply.now c.in_ok-make_room.ensures.out c.in_ok-make_room.ensures.lines c.in_ok-write_reply.ensures.ok
    c.send.ensures.out c.send.ensures.lines c.send.ensures.left

pub returns-clause-err : goal.returns-clause-err
returns-clause-err g c =
    let out = g.W.Write.contents in
    let before = c.args.self.now in
    let last = c.send.new.self in
    on_err c.send.result _
    (told_so_far (append_known (out before.out) before.waiting.items) (out c.make_room.new.self.out) (append_known (out last.out) last.waiting.items)
    c.make_room.new.self.waiting.items c.write_reply.new.writer.items (reply_line c.args.reply.now)
    c.in_ok-make_room.ensures.lines c.in_ok-write_reply.ensures.ok c.send.ensures.lines)
