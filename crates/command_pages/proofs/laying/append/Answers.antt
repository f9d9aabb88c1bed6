use Rattle.packetiser.specs.Laws.Appending.{appends_on}
use Rattle.command_pages.specs.CommandPages.{pages_to_begin}
use Rattle.command_pages.proofs.laying.append.Goals as goal

pub loop-pages-preserved : goal.loop-pages-preserved
loop-pages-preserved c =
    let made = c.loop-pages-test.ensures.page in
    record {
      on = c.next.ensures.on;
      pages = appends_on c.args.out.now c.loop-pages.out c.next.new.space (pages_to_begin c.args.pages) (pages_to_begin c.loop-pages.pages) (pages_to_begin c.next.new.self)
          made.0 made.1 made.2 c.loop-pages.invariant.pages;
    }
