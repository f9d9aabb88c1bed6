use Rattle.archive_history.proofs.KeptEnd.{event_keeps, ends_empty}
use Rattle.archive_history.proofs.Starting.{last_of}
use Rattle.archive_history.proofs.laws.the_last_file_is_kept.Goals as goal

pub returns-clause-begins : goal.returns-clause-begins
returns-clause-begins g c = tt

pub returns-clause-event : goal.returns-clause-event
returns-clause-event g c = λ first a b event old new is keeps safe.
    let f = g.F.Folder in
    let r = g.B.Recordings in
    event_keeps f.names f.moment f.left_since g.D.Disk r.shows r.accepts r.next first a b event old new is keeps safe

pub returns-clause-found : goal.returns-clause-found
returns-clause-found g c = λ a n front rising stay safe same. last_of a.ended a.newest n front rising stay (λ none. ends_empty a none safe) same
