use Rattle.std.proofs.Common.{None, Some, Ok, inl, inr, ◌∙◌, ap, refl, subst, sym}
use Rattle.archive_record.specs.Changing.{HasBegun}
use Rattle.archive_record.specs.declared.archive.Archive.{Archive}
use Rattle.archive_record.specs.declared.rotation.Rules.{Rules}
use Rattle.archive_record.proofs.Changed.{has_begun}
use Rattle.archive_record.specs.declared.newest.Newest.{Newest}
use Rattle.archive_record.specs.declared.rotation.Rotation.{Rotation}
use Rattle.archive_record.proofs.Going.{by_same_files, goes_free, goes_then, goes_thrown, goes_written}
use Rattle.archive_record.proofs.archive.Archive.begin_next.Goals as goal

pub returns-in_default-clause-next : goal.returns-in_default-clause-next
returns-in_default-clause-next g c newest is =
    let none = c.in_ok-goes_on.was ∙ ap Ok c.in_default.is in
    inr (λ before now. c.end_newest.ensures.stays before newest is now none, c.nothing.ensures, c.end_newest.ensures.unread none)

pub returns-clause-next : goal.returns-clause-next
returns-clause-next g c newest is = inl (λ before now.
    let some = c.in_ok-goes_on.was ∙ ap Ok c.in-Some.is in
    let (ended, resumes, gone) = c.end_newest.ensures.ended before c.in-Some.goes_on now some in
    record {
      goes_on = c.in-Some.goes_on;
      left = c.end_newest.new.self.rotation.files.folder;
      ended = ended;
      again = c.end_newest.new.self.again.items;
      resumes = resumes;
      input = c.end_newest.ensures.input;
      begun = subst (λ now. HasBegun g.D.Disk c.args.self.now.rotation.rules.keeping.bytes c.end_newest.new.self.again.items c.in_ok-answered.answered now)
          (sym (ap (λ (a : Archive _ _). a.newest) c.committed.ensures.rest))
          (has_begun g.D.Disk c.args.self.now.rotation.rules.keeping.bytes c.end_newest.new.self.again.items c.in_ok-answered.answered c.begin_again.new.self.newest
          c.in_ok-name.name c.in_ok-name.recorder c.on.result c.on.ensures c.in_ok-name.ensures.works
          (λ unbounded. c.in_ok-name.ensures.unwritten (ap (λ (r : Rules). r.keeping.bytes) c.end_newest.ensures.rules ∙ unbounded))
          c.in_ok-answered.ensures.runs);
    })

pub returns-clause-none : goal.returns-clause-none
returns-clause-none g c none =
    let (is, same, unread, beside) = c.end_newest.ensures.none none in (
      unread,
      subst (λ commands. HasBegun g.D.Disk c.args.self.now.rotation.rules.keeping.bytes commands c.in_ok-answered.answered c.committed.new.self.newest)
          (ap (λ (a : Archive _ _). a.again.items) same)
          (subst (λ now. HasBegun g.D.Disk c.args.self.now.rotation.rules.keeping.bytes c.end_newest.new.self.again.items c.in_ok-answered.answered now)
          (sym (ap (λ (a : Archive _ _). a.newest) c.committed.ensures.rest))
          (has_begun g.D.Disk c.args.self.now.rotation.rules.keeping.bytes c.end_newest.new.self.again.items c.in_ok-answered.answered c.begin_again.new.self.newest
          c.in_ok-name.name c.in_ok-name.recorder c.on.result c.on.ensures c.in_ok-name.ensures.works
          (λ unbounded. c.in_ok-name.ensures.unwritten (ap (λ (r : Rules). r.keeping.bytes) c.end_newest.ensures.rules ∙ unbounded))
          c.in_ok-answered.ensures.runs)),
    )

pub returns-in_err-name-clause-goes : goal.returns-in_err-name-clause-goes
returns-in_err-name-clause-goes g c =
    let files = c.args.self.now.rotation.files in
    let was = c.args.self.now.newest in
    let mid = c.end_newest.new.self.rotation.files in
    let gone = c.end_newest.ensures.gone c.in-Some.goes_on (c.in_ok-goes_on.was ∙ ap Ok c.in-Some.is) in
    let ended = by_same_files g.F.Folder.names g.F.Folder.moment g.F.Folder.left_since g.F.Folder.is_honest g.D.Disk files mid mid was c.end_newest.new.self.newest None refl (sym gone) c.end_newest.ensures.goes in
    by_same_files g.F.Folder.names g.F.Folder.moment g.F.Folder.left_since g.F.Folder.is_honest g.D.Disk files c.begin.new.self.files c.begin.new.self.files was None c.end_newest.new.self.newest refl gone
    (goes_then g.F.Folder.names g.F.Folder.moment g.F.Folder.left_since g.F.Folder.is_honest g.F.Folder.file g.D.Disk c.files_lead_on.ensures files mid c.begin.new.self.files was None None ended
    (goes_free g.F.Folder.names g.F.Folder.moment g.F.Folder.left_since g.F.Folder.is_honest g.F.Folder.file g.D.Disk c.files_lead_on.ensures mid c.begin.new.self.files None c.begin.ensures.honest.0 (λ honest a disks at none. c.in_err-name.ensures.unbegun honest a disks at none)))

pub returns-in_err-answered-clause-goes : goal.returns-in_err-answered-clause-goes
returns-in_err-answered-clause-goes g c =
    let files = c.args.self.now.rotation.files in
    let was = c.args.self.now.newest in
    let mid = c.end_newest.new.self.rotation.files in
    let gone = c.end_newest.ensures.gone c.in-Some.goes_on (c.in_ok-goes_on.was ∙ ap Ok c.in-Some.is) in
    let ended = by_same_files g.F.Folder.names g.F.Folder.moment g.F.Folder.left_since g.F.Folder.is_honest g.D.Disk files mid mid was c.end_newest.new.self.newest None refl (sym gone) c.end_newest.ensures.goes in
    let newest : Newest _ = record { name = c.in_ok-name.name; recorder = c.in_ok-name.recorder; join = None } in
    let began = by_same_files g.F.Folder.names g.F.Folder.moment g.F.Folder.left_since g.F.Folder.is_honest g.D.Disk mid c.begin.new.self.files c.begin.new.self.files None (Some newest) (Some c.on.result) refl (ap Some c.on.ensures)
    (goes_written g.F.Folder.names g.F.Folder.moment g.F.Folder.left_since g.F.Folder.is_honest g.F.Folder.file g.D.Disk c.files_lead_on.ensures mid c.begin.new.self.files None newest c.begin.ensures.honest.0 (λ honest a disks at none. c.in_ok-name.ensures.leads honest a disks at none)) in
    let ran = goes_then g.F.Folder.names g.F.Folder.moment g.F.Folder.left_since g.F.Folder.is_honest g.F.Folder.file g.D.Disk c.files_lead_on.ensures files c.begin.new.self.files c.begin_again.new.self.rotation.files was (Some c.on.result) c.begin_again.new.self.newest
    (goes_then g.F.Folder.names g.F.Folder.moment g.F.Folder.left_since g.F.Folder.is_honest g.F.Folder.file g.D.Disk c.files_lead_on.ensures files mid c.begin.new.self.files was None (Some c.on.result) ended began) c.begin_again.ensures.goes in
    ran

pub returns-clause-goes : goal.returns-clause-goes
returns-clause-goes g c =
    let files = c.args.self.now.rotation.files in
    let was = c.args.self.now.newest in
    let mid = c.end_newest.new.self.rotation.files in
    let gone = c.end_newest.ensures.gone c.in-Some.goes_on (c.in_ok-goes_on.was ∙ ap Ok c.in-Some.is) in
    let ended = by_same_files g.F.Folder.names g.F.Folder.moment g.F.Folder.left_since g.F.Folder.is_honest g.D.Disk files mid mid was c.end_newest.new.self.newest None refl (sym gone) c.end_newest.ensures.goes in
    let newest : Newest _ = record { name = c.in_ok-name.name; recorder = c.in_ok-name.recorder; join = None } in
    let began = by_same_files g.F.Folder.names g.F.Folder.moment g.F.Folder.left_since g.F.Folder.is_honest g.D.Disk mid c.begin.new.self.files c.begin.new.self.files None (Some newest) (Some c.on.result) refl (ap Some c.on.ensures)
    (goes_written g.F.Folder.names g.F.Folder.moment g.F.Folder.left_since g.F.Folder.is_honest g.F.Folder.file g.D.Disk c.files_lead_on.ensures mid c.begin.new.self.files None newest c.begin.ensures.honest.0 (λ honest a disks at none. c.in_ok-name.ensures.leads honest a disks at none)) in
    let ran = goes_then g.F.Folder.names g.F.Folder.moment g.F.Folder.left_since g.F.Folder.is_honest g.F.Folder.file g.D.Disk c.files_lead_on.ensures files c.begin.new.self.files c.begin_again.new.self.rotation.files was (Some c.on.result) c.begin_again.new.self.newest
    (goes_then g.F.Folder.names g.F.Folder.moment g.F.Folder.left_since g.F.Folder.is_honest g.F.Folder.file g.D.Disk c.files_lead_on.ensures files mid c.begin.new.self.files was None (Some c.on.result) ended began) c.begin_again.ensures.goes in
    let told = by_same_files g.F.Folder.names g.F.Folder.moment g.F.Folder.left_since g.F.Folder.is_honest g.D.Disk files c.begin_again.new.self.rotation.files c.committed.new.self.rotation.files was c.begin_again.new.self.newest c.committed.new.self.newest
    (ap (λ (r : Rotation _ _). r.files) c.committed.ensures.times) (ap (λ (a : Archive _ _). a.newest) c.committed.ensures.rest) ran in
    goes_then g.F.Folder.names g.F.Folder.moment g.F.Folder.left_since g.F.Folder.is_honest g.F.Folder.file g.D.Disk c.files_lead_on.ensures files c.committed.new.self.rotation.files c.throw_away.new.self.files was c.committed.new.self.newest c.committed.new.self.newest told
    (goes_thrown g.F.Folder.names g.F.Folder.moment g.F.Folder.left_since g.F.Folder.is_honest g.F.Folder.file g.D.Disk c.files_lead_on.ensures c.committed.new.self.rotation.files c.throw_away.new.self.files c.committed.new.self.newest c.throw_away.ensures.honest.0 c.throw_away.ensures.left c.throw_away.ensures.out
    c.throw_away.ensures.leads)
