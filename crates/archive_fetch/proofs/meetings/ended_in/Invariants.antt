use Rattle.std.proofs.Common.{length}
use Rattle.archive_fetch.proofs.EndPages.{AreTaken}
use Rattle.archive_fetch.proofs.meetings.ended_in.Given as goal

abbrev pub invariant-pages : goal.invariant-pages
invariant-pages l = AreTaken l.bytes l.ended.items l.rest

abbrev pub decreases-pages : goal.decreases-pages
decreases-pages l = length l.rest
