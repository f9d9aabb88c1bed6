use Rattle.std.proofs.Common.{◌≡◌, List}
use Rattle.feed_replies.specs.declared.reply.Reply.{Reply}
use Rattle.file_recorder.specs.Running.{Answers, Progress, streams_in}
use Rattle.file_recorder.specs.Ending.{AreEnded, unended}
use Rattle.file_recorder.proofs.ending.end_streams.Given as goal

-- each turn ends a stream
abbrev pub decreases-loop-serial : goal.decreases-loop-serial
decreases-loop-serial g l = unended l.recorder.chain.streams

-- streams were ended so far
abbrev pub invariant-loop-serial : goal.invariant-loop-serial
invariant-loop-serial g l =
    (before : Progress g.row.D.Denot) → before.now ≡ l.fn.recorder → (mid : Progress g.row.D.Denot) × (replies : List Reply)
    × (mid.now ≡ l.recorder) × AreEnded streams_in (Answers g.D.Disk) before mid replies
