use Rattle.std.proofs.Common.{◌-◌}
use Rattle.ogg_page.specs.Window.{KeepsSource}
use Rattle.archive_cut.proofs.continuing.behind_ends.Given as goal

abbrev pub invariant-pages : goal.invariant-pages
invariant-pages g l = let s = g.S.PageSource in KeepsSource s.bytes s.is_honest s.size s.only_reads l.fn.source l.source

abbrev pub decreases-pages : goal.decreases-pages
decreases-pages g l = l.end - l.place
