use Rattle.std.proofs.Common.{◌≡◌, ◌∙◌, ap, sym, subst, refl, Err, Ok}
use Rattle.ogg_page.specs.Page.{bytes_of_pages}
use Rattle.ogg_page.specs.PageLaws.{are_bytes_of_pages}
use Rattle.packet_view.specs.Packets.{PacketsLeft, packets_of}
use Rattle.ogg_split.specs.Unfinished.{IsUnfinishedAtMost}
use Rattle.ogg_split.proofs.Unfinished.{unfinished_at_most}
use Rattle.std.proofs.lemmas.Bool.{false≢true}
use Rattle.ogg_split.proofs.Placed.{stands_in, some_link, whole_link, link_is_there, stream_is_there, link_is_missing, stream_is_missing, nothing_missing}
use Rattle.ogg_split.proofs.copying.packets_of.Goals as goal

pub returns-in-Ok-bytes_of_link-clause-packets : goal.returns-in-Ok-bytes_of_link-clause-packets
returns-in-Ok-bytes_of_link-clause-packets c links pages are e =
    let (entry, there, is, has) = c.in-Ok.ensures.ok in
    let stands = stands_in links c.args.index.now _ c.args.link pages entry are e there in
    c.of.ensures ∙ ap (packets_of c.args.serial) (c.in-Ok-bytes_of_link.ensures.own pages (rw is stands))

pub returns-in-Ok-bytes_of_link-clause-unfinished : goal.returns-in-Ok-bytes_of_link-clause-unfinished
returns-in-Ok-bytes_of_link-clause-unfinished c links are =
    let (entry, there, is, has) = c.in-Ok.ensures.ok in
    let (pages, link, stands) = whole_link links c.args.index.now _ c.args.link entry are there in
    let given : c.of.result ≡ packets_of c.args.serial (bytes_of_pages pages) =
    c.of.ensures ∙ ap (packets_of c.args.serial) (c.in-Ok-bytes_of_link.ensures.own pages (rw is stands)) in
    subst (λ (left : PacketsLeft). IsUnfinishedAtMost left.fault) (sym given)
    (unfinished_at_most c.args.serial pages (packets_of c.args.serial (bytes_of_pages pages)) stands.are_pages (link.streams c.args.serial)
    (c.packets_are_held.ensures c.args.serial (bytes_of_pages pages) (are_bytes_of_pages pages stands.are_pages)))

pub returns-in-Ok-bytes_of_link-clause-no_link : goal.returns-in-Ok-bytes_of_link-clause-no_link
returns-in-Ok-bytes_of_link-clause-no_link c =
    let (entry, there, is, has) = c.in-Ok.ensures.ok in
    link_is_there (Ok c.of.result) c.args.index.now.entries c.args.link entry (nothing_missing (Ok c.of.result) tt) there

pub returns-in-Ok-bytes_of_link-clause-no_stream : goal.returns-in-Ok-bytes_of_link-clause-no_stream
returns-in-Ok-bytes_of_link-clause-no_stream c =
    let (entry, there, is, has) = c.in-Ok.ensures.ok in
    stream_is_there (Ok c.of.result) c.args.index.now.entries c.args.link c.args.serial entry (nothing_missing (Ok c.of.result) tt) there has

pub returns-in-Err-bytes_of_link-clause-no_link : goal.returns-in-Err-bytes_of_link-clause-no_link
returns-in-Err-bytes_of_link-clause-no_link c =
    let (entry, there, is, has) = c.in-Ok.ensures.ok in
    link_is_there (Err c.in-Err-bytes_of_link.fault) c.args.index.now.entries c.args.link entry (nothing_missing (Err c.in-Err-bytes_of_link.fault) c.in-Err-bytes_of_link.ensures.err) there

pub returns-in-Err-bytes_of_link-clause-no_stream : goal.returns-in-Err-bytes_of_link-clause-no_stream
returns-in-Err-bytes_of_link-clause-no_stream c =
    let (entry, there, is, has) = c.in-Ok.ensures.ok in
    stream_is_there (Err c.in-Err-bytes_of_link.fault) c.args.index.now.entries c.args.link c.args.serial entry (nothing_missing (Err c.in-Err-bytes_of_link.fault) c.in-Err-bytes_of_link.ensures.err) there has

pub returns-in-Err-bytes_of_link-clause-no_source : goal.returns-in-Err-bytes_of_link-clause-no_source
returns-in-Err-bytes_of_link-clause-no_source c links are why =
    let (entry, there, is, has) = c.in-Ok.ensures.ok in
    let (pages, stands) = some_link links c.args.index.now _ c.args.link entry are there in
    absurd (false≢true (c.in-Err-bytes_of_link.ensures.there pages (rw is stands)))

pub returns-in-Err-clause-no_link : goal.returns-in-Err-clause-no_link
returns-in-Err-clause-no_link c =
    link_is_missing (Err c.in-Err.fault) c.in-Err.fault c.args.index.now.entries c.args.link c.args.serial refl c.in-Err.ensures.err

pub returns-in-Err-clause-no_stream : goal.returns-in-Err-clause-no_stream
returns-in-Err-clause-no_stream c =
    stream_is_missing (Err c.in-Err.fault) c.in-Err.fault c.args.index.now.entries c.args.link c.args.serial refl c.in-Err.ensures.err
