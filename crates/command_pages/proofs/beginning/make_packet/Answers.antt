use Rattle.std.proofs.Common.{◌∷◌, [], subst, sym, arith}
use Rattle.packetiser.specs.Run.{flagged, pages_of_run}
use Rattle.packetiser.specs.PageSpace.{NextFits, NextMade}
use Rattle.command_pages.specs.Encoding.{header}
use Rattle.command_pages.specs.Laws.Short.{one_each}
use Rattle.command_pages.proofs.MadePages.{alone_counted, only_page}
use Rattle.command_pages.proofs.beginning.make_packet.Goals as goal

pub of-page-requires-clause-numbers : goal.of-page-requires-clause-numbers
of-page-requires-clause-numbers g c = omega (arith, one_each c.args.packet.now c.requires.short, c.ranges.sequence.fits)

pub next-requires : goal.next-requires
next-requires g c = subst (λ l. NextFits g.S.PageSpace.fits c.args.space.now l) (sym c.of-page.ensures) c.requires.room

pub returns : goal.returns
returns g c =
    only_page g.S.PageSpace.has_made c.args.space.now (flagged c.args.flags (pages_of_run c.args.serial c.args.sequence (header c.args.packet.now ∷ []))) c.next.result c.next.new.self c.next.new.space
    (alone_counted c.args.serial c.args.sequence c.args.flags c.args.packet.now c.requires.short)
    (subst (λ l. NextMade g.S.PageSpace.has_made c.args.space.now l c.next.result c.next.new.self c.next.new.space) c.of-page.ensures c.next.ensures)
