use Rattle.std.proofs.Common.{◌+◌, ◌∙◌, sym, length}
use Rattle.std.proofs.lemmas.Bool.{ltb-true, ltb-false}
use Rattle.ogg_page.specs.Laws.Headers.{header_found, body_is_short, whole_is_not_short}
use Rattle.import_pages.proofs.front.wants_more.Goals as goal

pub returns-in-Ok-clause-yes : goal.returns-in-Ok-clause-yes
returns-in-Ok-clause-yes c is =
    let header = c.in-Ok.header in
    let found = header_found c.args.bytes.now header (sym c.read_header.ensures.exact ∙ c.in-Ok.is) in
    body_is_short c.args.bytes.now header found (ltb-true (length c.args.bytes.now) (27 + header.values + header.body) is)

pub returns-in-Ok-clause-no : goal.returns-in-Ok-clause-no
returns-in-Ok-clause-no c is short =
    let header = c.in-Ok.header in
    let found = header_found c.args.bytes.now header (sym c.read_header.ensures.exact ∙ c.in-Ok.is) in
    whole_is_not_short c.args.bytes.now header found (ltb-false (length c.args.bytes.now) (27 + header.values + header.body) is) short
