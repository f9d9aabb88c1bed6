use Rattle.std.proofs.Common.{ℕ, ◌∙◌, refl, subst, sym}
use Rattle.std.proofs.lemmas.Result.{IfOk-weaker}
use Rattle.archive_record.specs.Reaching.{ComesBack, IsWritten}
use Rattle.archive_record.proofs.Reaching.{asked_back, comes_then_written, if_some_where, on_err_where, same_some, written_then_back, written_then_free}
use Rattle.archive_record.proofs.filing.open_newest.Goals as goal

pub returns-then-other-newest-clause-unopened : goal.returns-then-other-newest-clause-unopened
returns-then-other-newest-clause-unopened g c = λ honest a last disks at hand.
    let f = g.F.Folder in
    let law = c.files_lead_on.ensures in
    let old = c.args.files.now in
    asked_back f.names f.moment f.left_since f.file g.D.Disk law old old a last disks at hand refl (λ m other is. is) (law.nothing a old.folder disks)

pub returns-in-Ok-clause-leads : goal.returns-in-Ok-clause-leads
returns-in-Ok-clause-leads g c = IfOk-weaker c.open_ended.result _ _ (λ newest leads. if_some_where _ _ newest (λ (file, r) on. λ honest a last disks at hand.
    let f = g.F.Folder in
    let law = c.files_lead_on.ensures in
    let old = c.args.files.now in
    let mid = c.open_last.new.files in
    let (b, one, between, written, out, led) = c.in-Ok.ensures.leads honest a last disks at hand in
    let is = same_some last.name.number c.in-Ok.name.number (sym out ∙ c.in-Ok.ensures.out) in
    comes_then_written f.names f.moment f.left_since f.file g.D.Disk law old mid c.open_ended.new.files a b disks between file.number r led
    (on (c.open_last.ensures.honest.0 honest) b one between led.0 (subst (λ (k : ℕ). IsWritten g.D.Disk b one k c.in-Ok.recorder between) is written) c.in-Ok.ensures.out)) leads)
    c.open_ended.ensures.leads

pub returns-in-Ok-clause-passed : goal.returns-in-Ok-clause-passed
returns-in-Ok-clause-passed g c = λ passed honest a last disks at hand.
    let f = g.F.Folder in
    let law = c.files_lead_on.ensures in
    let old = c.args.files.now in
    let mid = c.open_last.new.files in
    written_then_free f.names f.moment f.left_since f.file g.D.Disk law old mid c.open_ended.new.files a disks last.name.number c.in-Ok.recorder (c.in-Ok.ensures.leads honest a last disks at hand)
    (λ b one between there written out.
    let is = same_some last.name.number c.in-Ok.name.number (sym out ∙ c.in-Ok.ensures.out) in
    c.open_ended.ensures.over passed (c.open_last.ensures.honest.0 honest) b one between there (subst (λ (k : ℕ). IsWritten g.D.Disk b one k c.in-Ok.recorder between) is written))

pub returns-in-Ok-clause-unopened : goal.returns-in-Ok-clause-unopened
returns-in-Ok-clause-unopened g c = on_err_where c.open_ended.result _ _ (λ failed. λ honest a last disks at hand.
    let f = g.F.Folder in
    let law = c.files_lead_on.ensures in
    let old = c.args.files.now in
    let mid = c.open_last.new.files in
    let new = c.open_ended.new.files in
    written_then_back f.names f.moment f.left_since f.file g.D.Disk law old mid new a disks last.name.number c.in-Ok.recorder (c.in-Ok.ensures.leads honest a last disks at hand)
    (λ b one between there written out.
    let is = same_some last.name.number c.in-Ok.name.number (sym out ∙ c.in-Ok.ensures.out) in
    subst (λ (k : ℕ). ComesBack f.names f.moment f.left_since g.D.Disk f.file mid b between k new) (sym is)
    (failed (c.open_last.ensures.honest.0 honest) b one between there (subst (λ (k : ℕ). IsWritten g.D.Disk b one k c.in-Ok.recorder between) is written) c.in-Ok.ensures.out)))
    c.open_ended.ensures.failed
