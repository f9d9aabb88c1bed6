use Rattle.import_mend.specs.Whole.{pages_of}
use Rattle.import_mend.proofs.Sources.{end_from_pages, from_start}
use Rattle.import_mend.proofs.laws.packets_come_from_the_input.Goals as goal

pub returns-clause-pages : goal.returns-clause-pages
returns-clause-pages c pages start new mends given are begins taken = (from_start pages start new mends given are begins taken).origin.commands

pub returns-clause-end : goal.returns-clause-end
returns-clause-end c pages start new mends last given more are begins taken ends =
    end_from_pages (pages_of pages) new last given more (from_start pages start new mends given are begins taken) ends
