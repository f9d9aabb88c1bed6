use Rattle.disk_tail.proofs.InContents.{held_is_read, written_stands, cut_stands}
use Rattle.disk_tail.proofs.laws.tails_stand_in_the_contents.Goals as goal

pub returns-clause-read : goal.returns-clause-read
returns-clause-read c contents tail at n stands holds = held_is_read contents tail at n stands holds

pub returns-clause-write : goal.returns-clause-write
returns-clause-write c contents bytes tail at stands room = written_stands contents bytes tail at stands room

pub returns-clause-cut : goal.returns-clause-cut
returns-clause-cut c contents tail to stands room = cut_stands contents tail to stands room
