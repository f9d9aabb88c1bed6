use Rattle.ogg_split.proofs.Placed.{stands_in, some_link, link_is_there}
use Rattle.ogg_split.proofs.windows.copy_link_from.Goals as goal

pub returns-in-Ok-clause-copied : goal.returns-in-Ok-clause-copied
returns-in-Ok-clause-copied g c links pages sure are e =
    let (entry, there, is) = c.in-Ok.ensures.ok in
    c.copy_whole.ensures.copied pages sure (rw is (stands_in links c.args.index.now _ c.args.link pages entry are e there))

pub returns-in-Ok-clause-no_link : goal.returns-in-Ok-clause-no_link
returns-in-Ok-clause-no_link g c =
    let (entry, there, is) = c.in-Ok.ensures.ok in
    link_is_there c.copy_whole.result c.args.index.now.entries c.args.link entry c.copy_whole.ensures.there there

pub returns-in-Ok-clause-cause : goal.returns-in-Ok-clause-cause
returns-in-Ok-clause-cause g c links sure are why =
    let (entry, there, is) = c.in-Ok.ensures.ok in
    let (pages, stands) = some_link links c.args.index.now _ c.args.link entry are there in
    c.copy_whole.ensures.cause pages sure (rw is stands) why
