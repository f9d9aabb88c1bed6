use Rattle.std.proofs.Common.{refl, Err}
use Rattle.ogg_split.proofs.Placed.{stands_in, some_link, link_is_there, stream_is_there, link_is_missing, stream_is_missing}
use Rattle.ogg_split.proofs.windows.copy_stream_from.Goals as goal

pub returns-in-Ok-clause-copied : goal.returns-in-Ok-clause-copied
returns-in-Ok-clause-copied g c links pages sure are e =
    let (entry, there, is, has) = c.in-Ok.ensures.ok in
    c.copy_stream_of.ensures.copied pages sure (rw is (stands_in links c.args.index.now _ c.args.link pages entry are e there))

pub returns-in-Ok-clause-no_link : goal.returns-in-Ok-clause-no_link
returns-in-Ok-clause-no_link g c =
    let (entry, there, is, has) = c.in-Ok.ensures.ok in
    link_is_there c.copy_stream_of.result c.args.index.now.entries c.args.link entry c.copy_stream_of.ensures.there there

pub returns-in-Ok-clause-no_stream : goal.returns-in-Ok-clause-no_stream
returns-in-Ok-clause-no_stream g c =
    let (entry, there, is, has) = c.in-Ok.ensures.ok in
    stream_is_there c.copy_stream_of.result c.args.index.now.entries c.args.link c.args.serial entry c.copy_stream_of.ensures.there there has

pub returns-in-Ok-clause-cause : goal.returns-in-Ok-clause-cause
returns-in-Ok-clause-cause g c links sure are why =
    let (entry, there, is, has) = c.in-Ok.ensures.ok in
    let (pages, stands) = some_link links c.args.index.now _ c.args.link entry are there in
    c.copy_stream_of.ensures.cause pages sure (rw is stands) why

pub returns-in-Err-clause-no_link : goal.returns-in-Err-clause-no_link
returns-in-Err-clause-no_link g c =
    link_is_missing (Err c.in-Err.fault) c.in-Err.fault c.args.index.now.entries c.args.link c.args.serial refl c.in-Err.ensures.err

pub returns-in-Err-clause-no_stream : goal.returns-in-Err-clause-no_stream
returns-in-Err-clause-no_stream g c =
    stream_is_missing (Err c.in-Err.fault) c.in-Err.fault c.args.index.now.entries c.args.link c.args.serial refl c.in-Err.ensures.err
