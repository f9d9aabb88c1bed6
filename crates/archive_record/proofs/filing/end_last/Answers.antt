use Rattle.std.proofs.Common.{◌∙◌, ℕ, subst, sym}
use Rattle.archive_record.specs.Reaching.{ComesBack, IsWritten}
use Rattle.archive_record.proofs.Reaching.{let_go_back, let_go_free, same_some, written_then_back, written_then_free}
use Rattle.archive_record.proofs.filing.end_last.Goals as goal

pub returns-then-end_file-clause-ended : goal.returns-then-end_file-clause-ended
returns-then-end_file-clause-ended g c = λ honest a newest disks at hand.
    let f = g.F.Folder in
    let d = g.D.Disk in
    let law = c.files_lead_on.ensures in
    let old = c.args.files.now in
    let mid = c.open_last.new.files in
    let new = c.end_file.new.files in
    let recorder = c.in-Ok.recorder in
    let n = newest.name.number in
    written_then_free f.names f.moment f.left_since f.file d law old mid new a disks n recorder (c.in-Ok.ensures.leads honest a newest disks at hand)
    (λ b file after there written out.
    let is = same_some n c.in-Ok.name.number (sym out ∙ c.in-Ok.ensures.out) in
    let_go_free f.names f.moment f.left_since f.file d law mid new b file c.in-Ok.name.number after c.end_file.result there
    (c.end_file.ensures.leads (c.open_last.ensures.honest.0 honest) b file after there.stands.names_are (subst (λ (k : ℕ). IsWritten d b file k recorder after) is written)))

pub returns-else-end_file-clause-back : goal.returns-else-end_file-clause-back
returns-else-end_file-clause-back g c = λ honest a newest disks at hand.
    let f = g.F.Folder in
    let d = g.D.Disk in
    let law = c.files_lead_on.ensures in
    let old = c.args.files.now in
    let mid = c.open_last.new.files in
    let new = c.end_file.new.files in
    let recorder = c.in-Ok.recorder in
    let n = newest.name.number in
    written_then_back f.names f.moment f.left_since f.file d law old mid new a disks n recorder (c.in-Ok.ensures.leads honest a newest disks at hand)
    (λ b file after there written out.
    let is = same_some n c.in-Ok.name.number (sym out ∙ c.in-Ok.ensures.out) in
    let own = subst (λ (k : ℕ). IsWritten d b file k recorder after) is written in
    subst (λ (k : ℕ). ComesBack f.names f.moment f.left_since d f.file mid b after k new) (sym is)
    (let_go_back f.names f.moment f.left_since f.file d law mid new b file c.in-Ok.name.number recorder after c.end_file.result c.if-end_file.false there own c.end_file.ensures.files
    (c.end_file.ensures.leads (c.open_last.ensures.honest.0 honest) b file after there.stands.names_are own)))
