use Rattle.std.proofs.Common.{◌≡◌, List, false, refl, sym, ◌∙◌, ap, Err, Ok}
use Rattle.std.proofs.lemmas.Bool.{false≢true}
use Rattle.ogg_page.specs.Page.{Page, bytes_of_pages}
use Rattle.ogg_page.specs.PageLaws.{are_bytes_of_pages}
use Rattle.ogg_page.specs.Pages.{found_in}
use Rattle.packet_view.specs.Stream.{parts_left, stream}
use Rattle.packet_view.specs.StreamParts.{at_start, parts_from}
use Rattle.link_index.specs.Index.{LinkEntry}
use Rattle.link_index.specs.declared.info.LinkInfo.{LinkInfo}
use Rattle.ogg_split.specs.Asked.{StandsIn}
use Rattle.ogg_split.specs.LinkParts.{window_of_link}
use Rattle.ogg_split.proofs.Parted.{gives_link, parts_of_link}
use Rattle.ogg_split.proofs.Placed.{inside, stands_in, some_link, whole_link, link_at, link_is_there, link_is_missing, stream_is_missing, nothing_missing}
use Rattle.ogg_split.proofs.windows.parts_of.Given.{Over}
use Rattle.ogg_split.proofs.windows.parts_of.Goals as goal

-- the stream's parts are those of the link's pages
its_parts : (g : Over) (c : goal.After-of g) (pages : List Page) (link : LinkInfo) → c.in-Ok.found ≡ link
    → StandsIn (g.S.PageSource.bytes c.args.window.source) link pages
    → parts_left g.S.PageSource.bytes c.of.result ≡ parts_from c.args.serial at_start false (found_in link.start (bytes_of_pages pages))
its_parts g c pages link is stands =
    ap (parts_left g.S.PageSource.bytes)
    (c.of.ensures ∙ ap (λ w. stream w c.args.serial) (c.in-Ok-set_range.ensures.ok ∙ ap (window_of_link c.args.window.source) is))
    ∙ parts_of_link g.S.PageSource.bytes c.args.window.source link pages c.args.serial stands

pub returns-in-Ok-set_range-clause-parts : goal.returns-in-Ok-set_range-clause-parts
returns-in-Ok-set_range-clause-parts g c links pages entry are e at =
    let (own, there, is, has) = c.in-Ok.ensures.ok in
    let same : own ≡ entry = inside own entry (sym there ∙ at) in
    its_parts g c pages entry.info (is ∙ ap (λ (x : LinkEntry). x.info) same) (stands_in links c.args.index.now _ c.args.link pages entry are e at)

pub returns-in-Ok-set_range-clause-packets : goal.returns-in-Ok-set_range-clause-packets
returns-in-Ok-set_range-clause-packets g c links pages are e =
    let (entry, there, is, has) = c.in-Ok.ensures.ok in
    let stands = stands_in links c.args.index.now _ c.args.link pages entry are e there in
    let small = are_bytes_of_pages pages stands.are_pages in
    (gives_link c.args.serial entry.info.start pages _ stands.are_pages (link_at links c.args.link pages are.are_links.each e)
    (c.packets_are_held.ensures c.args.serial (bytes_of_pages pages) small)
    (c.parts_are_of_the_packets.ensures c.args.serial 0 (bytes_of_pages pages) small) (its_parts g c pages entry.info is stands)).packets

pub returns-in-Ok-set_range-clause-unfinished : goal.returns-in-Ok-set_range-clause-unfinished
returns-in-Ok-set_range-clause-unfinished g c links are =
    let (entry, there, is, has) = c.in-Ok.ensures.ok in
    let (pages, link, stands) = whole_link links c.args.index.now _ c.args.link entry are there in
    let small = are_bytes_of_pages pages stands.are_pages in
    (gives_link c.args.serial entry.info.start pages _ stands.are_pages link (c.packets_are_held.ensures c.args.serial (bytes_of_pages pages) small)
    (c.parts_are_of_the_packets.ensures c.args.serial 0 (bytes_of_pages pages) small) (its_parts g c pages entry.info is stands)).unfinished

pub returns-in-Ok-set_range-clause-no_link : goal.returns-in-Ok-set_range-clause-no_link
returns-in-Ok-set_range-clause-no_link g c =
    let (entry, there, is, has) = c.in-Ok.ensures.ok in
    link_is_there (Ok c.of.result) c.args.index.now.entries c.args.link entry (nothing_missing (Ok c.of.result) tt) there

pub returns-in-Err-set_range-clause-no_link : goal.returns-in-Err-set_range-clause-no_link
returns-in-Err-set_range-clause-no_link g c =
    let (entry, there, is, has) = c.in-Ok.ensures.ok in
    link_is_there (Err c.in-Err-set_range.fault) c.args.index.now.entries c.args.link entry
    (nothing_missing (Err c.in-Err-set_range.fault) c.in-Err-set_range.ensures.err) there

pub returns-in-Err-set_range-clause-no_source : goal.returns-in-Err-set_range-clause-no_source
returns-in-Err-set_range-clause-no_source g c links sure are why =
    let (entry, there, is, has) = c.in-Ok.ensures.ok in
    let (pages, stands) = some_link links c.args.index.now _ c.args.link entry are there in
    absurd (false≢true (c.in-Err-set_range.ensures.there pages sure (rw is stands)))

pub returns-in-Err-clause-no_link : goal.returns-in-Err-clause-no_link
returns-in-Err-clause-no_link g c =
    link_is_missing (Err c.in-Err.fault) c.in-Err.fault c.args.index.now.entries c.args.link c.args.serial refl c.in-Err.ensures.err

pub returns-in-Err-clause-no_stream : goal.returns-in-Err-clause-no_stream
returns-in-Err-clause-no_stream g c =
    stream_is_missing (Err c.in-Err.fault) c.in-Err.fault c.args.index.now.entries c.args.link c.args.serial refl c.in-Err.ensures.err
