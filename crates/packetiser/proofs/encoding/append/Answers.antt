use Rattle.packetiser.specs.Laws.Appending.{appends_on}
use Rattle.packetiser.proofs.encoding.append.Goals as goal

pub loop-pages-preserved : goal.loop-pages-preserved
loop-pages-preserved g c =
    let made = c.loop-pages-test.ensures in
    record { pages = appends_on c.args.out.now c.loop-pages.out c.next.new.space c.args.pages c.loop-pages.pages c.next.new.self made.0 made.1 made.2 c.loop-pages.invariant.pages }
