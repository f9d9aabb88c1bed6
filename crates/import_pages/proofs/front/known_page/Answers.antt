use Rattle.std.proofs.Common.{◌∙◌, ap, sym}
use Rattle.ogg_page.specs.Reading.{page_at, fields_at}
use Rattle.ogg_page.specs.ReadingLaws.{page_is_read}
use Rattle.ogg_page.specs.Laws.ReadAgain.{ok_same}
use Rattle.import_pages.proofs.front.known_page.Goals as goal

pub returns : goal.returns
returns c =
    let page = c.split_known_page.result.0 in
    let parts = c.split_known_page.ensures in
    ok_same page (fields_at c.args.bytes.now)
    (sym (ap page_at parts.1 ∙ page_is_read page c.split_known_page.result.1.now parts.0) ∙ c.requires)
