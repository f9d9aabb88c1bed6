use Rattle.std.proofs.Common.{◌∙◌, sym}
use Rattle.ogg_page.specs.Reading.{fields_at}
use Rattle.ogg_page.specs.Laws.ReadAgain.{ok_same}
use Rattle.ogg_page.proofs.reading.known_page.Goals as goal

pub returns : goal.returns
returns c = ok_same c.page_in_front.result (fields_at c.args.bytes.now) (sym c.page_in_front.ensures ∙ c.requires.page)
