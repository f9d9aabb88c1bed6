use Rattle.std.proofs.Common.{sym, ◌∙◌, ap}
use Rattle.archive_folder.specs.Names.{synced}
use Rattle.archive_history.proofs.Events.{syncing}
use Rattle.archive_history.proofs.Led.{asked_leads, synced_leads, recorded_leads, ended_leads, sealed_leads, aside_leads, resumed_leads}
use Rattle.archive_history.proofs.laws.calls_lead_on.Goals as goal

pub returns-clause-asking : goal.returns-clause-asking
returns-clause-asking g c = λ first a disks old new honest time kept same.
    let f = g.F.Folder in
    let r = g.B.Recordings in
    asked_leads f.names f.moment f.left_since g.D.Disk r.shows r.accepts r.next first a disks old new same (g.met.F.Folder.laws old honest) time kept

pub returns-clause-syncing : goal.returns-clause-syncing
returns-clause-syncing g c = λ first a disks old new honest time now same.
    let f = g.F.Folder in
    let r = g.B.Recordings in
    let b = syncing a in
    let named = now ∙ ap synced same ∙ sym b.2 in
    (b.0, b.1, named, synced_leads f.names f.moment f.left_since g.D.Disk r.shows r.accepts r.next first a b.0 disks old new same (g.met.F.Folder.laws old honest) time b.1 named)

pub returns-clause-recording : goal.returns-clause-recording
returns-clause-recording g c = λ first a file disks folder step disk is same answer safe it.
    let f = g.F.Folder in
    let r = g.B.Recordings in
    recorded_leads f.names f.moment f.left_since g.D.Disk r.shows r.accepts r.next first a file disks folder step disk is same answer safe it

pub returns-clause-ending : goal.returns-clause-ending
returns-clause-ending g c = λ first a file disks folder bytes is same none only.
    let f = g.F.Folder in
    let r = g.B.Recordings in
    ended_leads f.names f.moment f.left_since g.D.Disk r.shows r.accepts r.next first a file disks folder bytes is same none only

pub returns-clause-setting_aside : goal.returns-clause-setting_aside
returns-clause-setting_aside g c = λ first a file here is same.
    let f = g.F.Folder in
    let r = g.B.Recordings in
    aside_leads f.names f.moment f.left_since g.D.Disk r.shows r.accepts r.next first a file here is same

pub returns-clause-resuming : goal.returns-clause-resuming
returns-clause-resuming g c = λ first a b here is same.
    let f = g.F.Folder in
    let r = g.B.Recordings in
    resumed_leads f.names f.moment f.left_since g.D.Disk r.shows r.accepts r.next first a b here is same

pub returns-clause-sealing : goal.returns-clause-sealing
returns-clause-sealing g c = λ first a file disks folder disk bytes is same stays flush seal only.
    let f = g.F.Folder in
    let r = g.B.Recordings in
    sealed_leads f.names f.moment f.left_since g.D.Disk r.shows r.accepts r.next first a file disks folder disk bytes is same stays flush seal only
