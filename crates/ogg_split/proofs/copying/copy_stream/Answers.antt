use Rattle.std.proofs.Common.{refl, Err}
use Rattle.std.proofs.lemmas.Bool.{false≢true}
use Rattle.ogg_split.proofs.Placed.{stands_in, some_link, link_is_there, stream_is_there, link_is_missing, stream_is_missing, nothing_missing}
use Rattle.ogg_split.proofs.copying.copy_stream.Goals as goal

pub returns-in-Ok-bytes_of_link-clause-copied : goal.returns-in-Ok-bytes_of_link-clause-copied
returns-in-Ok-bytes_of_link-clause-copied g c links pages are e =
    let (entry, there, is, has) = c.in-Ok.ensures.ok in
    let stands = stands_in links c.args.index.now _ c.args.link pages entry are e there in
    c.copy_pages.ensures.copied pages stands.are_pages (c.in-Ok-bytes_of_link.ensures.own pages (rw is stands))

pub returns-in-Ok-bytes_of_link-clause-no_link : goal.returns-in-Ok-bytes_of_link-clause-no_link
returns-in-Ok-bytes_of_link-clause-no_link g c =
    let (entry, there, is, has) = c.in-Ok.ensures.ok in
    link_is_there c.copy_pages.result c.args.index.now.entries c.args.link entry c.copy_pages.ensures.there there

pub returns-in-Ok-bytes_of_link-clause-no_stream : goal.returns-in-Ok-bytes_of_link-clause-no_stream
returns-in-Ok-bytes_of_link-clause-no_stream g c =
    let (entry, there, is, has) = c.in-Ok.ensures.ok in
    stream_is_there c.copy_pages.result c.args.index.now.entries c.args.link c.args.serial entry c.copy_pages.ensures.there there has

pub returns-in-Ok-bytes_of_link-clause-no_source : goal.returns-in-Ok-bytes_of_link-clause-no_source
returns-in-Ok-bytes_of_link-clause-no_source g c links are why =
    let (entry, there, is, has) = c.in-Ok.ensures.ok in
    let (pages, stands) = some_link links c.args.index.now _ c.args.link entry are there in
    c.copy_pages.ensures.sound pages stands.are_pages (c.in-Ok-bytes_of_link.ensures.own pages (rw is stands)) why

pub returns-in-Err-bytes_of_link-clause-no_link : goal.returns-in-Err-bytes_of_link-clause-no_link
returns-in-Err-bytes_of_link-clause-no_link g c =
    let (entry, there, is, has) = c.in-Ok.ensures.ok in
    link_is_there (Err c.in-Err-bytes_of_link.fault) c.args.index.now.entries c.args.link entry (nothing_missing (Err c.in-Err-bytes_of_link.fault) c.in-Err-bytes_of_link.ensures.err) there

pub returns-in-Err-bytes_of_link-clause-no_stream : goal.returns-in-Err-bytes_of_link-clause-no_stream
returns-in-Err-bytes_of_link-clause-no_stream g c =
    let (entry, there, is, has) = c.in-Ok.ensures.ok in
    stream_is_there (Err c.in-Err-bytes_of_link.fault) c.args.index.now.entries c.args.link c.args.serial entry (nothing_missing (Err c.in-Err-bytes_of_link.fault) c.in-Err-bytes_of_link.ensures.err) there has

pub returns-in-Err-bytes_of_link-clause-no_source : goal.returns-in-Err-bytes_of_link-clause-no_source
returns-in-Err-bytes_of_link-clause-no_source g c links are why =
    let (entry, there, is, has) = c.in-Ok.ensures.ok in
    let (pages, stands) = some_link links c.args.index.now _ c.args.link entry are there in
    absurd (false≢true (c.in-Err-bytes_of_link.ensures.there pages (rw is stands)))

pub returns-in-Err-clause-no_link : goal.returns-in-Err-clause-no_link
returns-in-Err-clause-no_link g c =
    link_is_missing (Err c.in-Err.fault) c.in-Err.fault c.args.index.now.entries c.args.link c.args.serial refl c.in-Err.ensures.err

pub returns-in-Err-clause-no_stream : goal.returns-in-Err-clause-no_stream
returns-in-Err-clause-no_stream g c =
    stream_is_missing (Err c.in-Err.fault) c.in-Err.fault c.args.index.now.entries c.args.link c.args.serial refl c.in-Err.ensures.err
