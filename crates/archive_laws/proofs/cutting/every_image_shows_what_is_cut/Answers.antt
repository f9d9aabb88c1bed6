use Rattle.std.specs.Prelude.{[]}
use Rattle.chain_rules.specs.Encoding.{links_after}
use Rattle.archive_laws.specs.Committing.{AcceptsAfter}
use Rattle.archive_laws.specs.CommittingLaws.{new_shows}
use Rattle.archive_laws.proofs.Accepted.{begun_account}
use Rattle.archive_laws.proofs.Cuts.{history_stands, shows_cuts}
use Rattle.archive_laws.proofs.Shown.{begun_safe}
use Rattle.archive_laws.specs.Committing.{ShowsLinks}
use Rattle.archive_laws.proofs.cutting.every_image_shows_what_is_cut.Goals as goal

pub returns-clause-at_end : goal.returns-clause-at_end
returns-clause-at_end g c = λ start now a events history image is.
    let f = g.F.Folder in
    let law = c.folders_stand_as_their_account.ensures in
    let stands = history_stands f.names f.moment f.left_since g.D.Disk (λ a b event old new h e same. law.event [] a b event old new new_shows h e same) start events a now history in
    shows_cuts c.commands_add_their_packets.ensures.links c.cuts_of_times_add_up.ensures.stood a image stands.0.stands.safe stands.0.stands.newest_safe stands.1
    (law.now [] a now stands.0 image is).0

pub returns-clause-account : goal.returns-clause-account
returns-clause-account g c = λ start now a events. c.archives_keep_what_was_acknowledged.ensures.account [] start now a events new_shows

pub returns-clause-nothing_thrown : goal.returns-clause-nothing_thrown
returns-clause-nothing_thrown g c = λ start now a events. c.archives_keep_what_was_acknowledged.ensures.nothing_thrown [] start now a events new_shows

pub returns-clause-any_moment : goal.returns-clause-any_moment
returns-clause-any_moment g c = λ start now a events history move new may leaves image was.
    let f = g.F.Folder in
    let law = c.folders_stand_as_their_account.ensures in
    let stands = history_stands f.names f.moment f.left_since g.D.Disk (λ a b event old new h e same. law.event [] a b event old new new_shows h e same) start events a now history in
    let safe = begun_safe a move stands.0.stands.safe stands.0.stands.newest_safe in
    shows_cuts c.commands_add_their_packets.ensures.links c.cuts_of_times_add_up.ensures.stood _ image safe.0 safe.1
    (begun_account AcceptsAfter links_after [] f.names f.moment f.left_since g.D.Disk ShowsLinks a move stands.1 may)
    (law.any_moment [] a move now new new_shows stands.0 may leaves image was).0
