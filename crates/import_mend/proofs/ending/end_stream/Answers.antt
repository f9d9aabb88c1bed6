use Rattle.std.proofs.Common.{◌≡◌, ◌++◌, ◌∙◌, ap}
use Rattle.ogg_page.specs.Page.{Page, page_bytes}
use Rattle.link_chain.specs.Taking.{fault_of_page}
use Rattle.import_gather.specs.Gathered.{Gathered, without_packet}
use Rattle.import_gather.specs.Kept.{is_too_long}
use Rattle.import_mend.specs.Mended.{end_page}
use Rattle.import_mend.proofs.Ends.{end_fits, end_is_short}
use Rattle.import_mend.proofs.ending.end_stream.Goals as goal

pub take-requires-clause-fits : goal.take-requires-clause-fits
take-requires-clause-fits c =
    let page : Page = end_page c.args.stream.next_sequence c.args.stream in
    let same : c.written_page-page.result ≡ page =
    c.written_page-page.ensures page c.write_last.ensures.is_page (c.as_slice.ensures.value ∙ c.in_ok-write_last.ensures.ok ∙ ap (λ l. l ++ page_bytes page) c.clear.ensures.items) in
    let g : Gathered = c.args.gatherer.now in
    ap (λ (h : Gathered). fault_of_page h.chain c.written_page-page.result) c.drop_packet.ensures
    ∙ ap (fault_of_page (without_packet c.args.stream.serial g).chain) same ∙ end_fits c.args.stream g c.requires.links c.requires.known c.requires.unended

pub take-requires-clause-short : goal.take-requires-clause-short
take-requires-clause-short c =
    let page : Page = end_page c.args.stream.next_sequence c.args.stream in
    let same : c.written_page-page.result ≡ page =
    c.written_page-page.ensures page c.write_last.ensures.is_page (c.as_slice.ensures.value ∙ c.in_ok-write_last.ensures.ok ∙ ap (λ l. l ++ page_bytes page) c.clear.ensures.items) in
    let g : Gathered = c.args.gatherer.now in
    ap (λ (h : Gathered). is_too_long h.link c.written_page-page.result) c.drop_packet.ensures
    ∙ ap (is_too_long (without_packet c.args.stream.serial g).link) same ∙ end_is_short c.args.stream g
