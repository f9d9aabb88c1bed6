use Rattle.std.proofs.Common.{◌≡◌, length}
use Rattle.serve_texts.specs.Reply.{reply_after}
use Rattle.serve_texts.proofs.reply.reply_after.Given as goal

-- the rest of the bytes leads to the same
abbrev pub invariant-loop-byte : goal.invariant-loop-byte
invariant-loop-byte l = reply_after l.reply l.rest ≡ reply_after l.initial.reply l.bytes

abbrev pub decreases-loop-byte : goal.decreases-loop-byte
decreases-loop-byte l = length l.rest
