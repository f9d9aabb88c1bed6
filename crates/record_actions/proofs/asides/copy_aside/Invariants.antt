use Rattle.record_actions.specs.Tail.{OnlyRead}
use Rattle.record_actions.proofs.asides.copy_aside.Given as goal

-- the disk was only read
abbrev pub invariant-loop-number : goal.invariant-loop-number
invariant-loop-number g l = OnlyRead g.D.Disk l.fn.disk l.disk
