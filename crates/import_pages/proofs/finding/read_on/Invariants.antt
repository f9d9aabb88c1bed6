use Rattle.std.proofs.Common.{◌≡◌, Err, length}
use Rattle.ogg_page.specs.Reading.{page_at}
use Rattle.ogg_page.specs.declared.fault.PageFault.TheVariants.{Short}
use Rattle.import_pages.specs.Room.{held_of}
use Rattle.import_pages.proofs.InRoom.{HasRead}
use Rattle.import_pages.proofs.finding.read_on.Given as goal

-- the beginning of a page is held, each turn read one byte or more, no read has failed, and the room is as large as it
-- was
abbrev pub invariant-loop : goal.invariant-loop
invariant-loop g l =
    HasRead (held_of l.initial.room l.initial.held) (g.R.Read.remaining l.initial.reader) l.counter l.room l.held (g.R.Read.remaining l.reader)
    × (page_at (held_of l.room l.held) ≡ Err Short)
    × (l.failures ≡ l.initial.failures)
    × (length l.room ≡ length l.initial.room)
