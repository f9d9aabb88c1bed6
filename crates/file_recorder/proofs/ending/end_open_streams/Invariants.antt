use Rattle.std.proofs.Common.{◌≡◌, List}
use Rattle.std.specs.List.{flat_map}
use Rattle.std.specs.Io.KnownBytes.{Appends}
use Rattle.feed_replies.specs.declared.reply.Reply.{Reply}
use Rattle.feed_replies.specs.Reply.{reply_line}
use Rattle.file_recorder.specs.Running.{Answers, Progress, streams_in}
use Rattle.file_recorder.specs.Ending.{AreEnded, unended}
use Rattle.file_recorder.proofs.ending.end_open_streams.Given as goal

-- each turn ends a stream
abbrev pub decreases-loop-serial : goal.decreases-loop-serial
decreases-loop-serial g l = unended l.recorder.chain.streams

-- streams were ended so far, and the lines of the replies told
abbrev pub invariant-loop-serial : goal.invariant-loop-serial
invariant-loop-serial g l =
    (before : Progress g.row.D.Denot) → before.now ≡ l.fn.recorder → (mid : Progress g.row.D.Denot) × (replies : List Reply)
    × (mid.now ≡ l.recorder) × AreEnded streams_in (Answers g.D.Disk) before mid replies
    × Appends (g.S.Replies.lines l.fn.replies) (g.S.Replies.lines l.replies) (flat_map reply_line replies)
