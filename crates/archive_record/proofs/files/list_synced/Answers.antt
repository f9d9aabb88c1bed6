use Rattle.std.proofs.Common.{◌∙◌, [], Result, Ok, Err, OnOk}
use Rattle.archive_record.proofs.files.list_synced.Goals as goal

at_ok : {T E : Type 0} (P : Type 0) (r : Result T E) → P → OnOk r P
at_ok P (Ok x) p = p
at_ok P (Err e) p = tt

pub returns-clause-leads : goal.returns-clause-leads
returns-clause-leads g c = at_ok _ c.list.result (λ honest a disks named.
    let mid = c.sync.new.self in
    let still = c.sync.ensures.honest.0 honest in
    let lead = c.calls_lead_on.ensures in
    let first = lead.syncing [] a disks c.args.folder.now mid honest (c.sync.ensures.time honest) (c.in_ok-sync.ensures.synced honest) named in
    let then = lead.asking [] first.0 disks mid c.list.new.self still (c.list.ensures.time still) (c.list.ensures.same still) first.2 in
    (first.0, first.1, c.list.ensures.same still ∙ first.2, c.events_lead_on.ensures.both [] a first.0 first.0 _ _ _ first.3 then))
