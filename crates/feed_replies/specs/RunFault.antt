-- The numbers and names of what ends a run over a feed. They are ours.
use Rattle.std.specs.Prelude.{ℕ, List, codes}
use Rattle.feed_replies.specs.declared.fault.RunFault.{RunFault}
use Rattle.feed_replies.specs.declared.fault.RunFault.TheVariants.{Feed, Write, TooMany}

abbrev pub code_of : RunFault → ℕ
code_of (Feed fault) = 1
code_of Write = 2
code_of TooMany = 3

abbrev pub name_of : RunFault → List ℕ
name_of (Feed fault) = codes "Feed"
name_of Write = codes "Write"
name_of TooMany = codes "TooMany"
