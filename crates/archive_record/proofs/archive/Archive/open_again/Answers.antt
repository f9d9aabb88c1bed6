use Rattle.std.proofs.Common.{None, Some, ◌∙◌, ap, inr, refl, sym}
use Rattle.std.proofs.lemmas.Result.{IfOk-weaker}
use Rattle.archive_record.specs.declared.rotation.Rules.{Rules}
use Rattle.archive_record.proofs.Recovered.{aside_within}
use Rattle.archive_record.specs.declared.newest.Newest.{Newest}
use Rattle.archive_record.proofs.Going.{back_from, back_to_none, from_files, from_same, opened_from, to_same}
use Rattle.archive_record.proofs.archive.Archive.open_again.Goals as goal

pub returns-in-Err-clause-opened : goal.returns-in-Err-clause-opened
returns-in-Err-clause-opened g c = λ taken none known.
    IfOk-weaker c.set_aside.result _ _
    (λ answered aside. inr (aside_within g.D.Disk c.args.self.now.rotation.rules.keeping.bytes c.open_again.new.self.rules.keeping.bytes taken
    c.args.import.now c.set_aside.new.import answered c.set_aside.new.self.newest (λ unset. ap (λ (r : Rules). r.keeping.bytes) c.open_again.ensures.rules ∙ unset) aside))
    (c.set_aside.ensures.aside taken none known)

pub returns-in-Ok-clause-goes : goal.returns-in-Ok-clause-goes
returns-in-Ok-clause-goes g c = λ none.
    let files = c.args.self.now.rotation.files in
    let mid = c.open_again.new.self.files in
    let newest : Newest _ = record { name = c.args.failed.name; recorder = c.in-Ok.recorder; join = c.again-newest.result.join } in
    opened_from g.F.Folder.names g.F.Folder.moment g.F.Folder.left_since g.F.Folder.is_honest g.F.Folder.file g.D.Disk c.files_lead_on.ensures files mid c.resume.new.self.rotation.files c.args.failed.name.number newest c.resume.new.self.newest refl c.open_again.ensures.honest.0 c.in-Ok.ensures.leads
    (from_same g.F.Folder.names g.F.Folder.moment g.F.Folder.left_since g.F.Folder.is_honest g.D.Disk mid c.resume.new.self.rotation.files (Some newest) (Some c.again-newest.result) c.resume.new.self.newest (ap Some (sym c.again-newest.ensures))
    (from_files g.F.Folder.names g.F.Folder.moment g.F.Folder.left_since g.F.Folder.is_honest g.D.Disk mid c.opened.new.self.files c.resume.new.self.rotation.files (Some c.again-newest.result) c.resume.new.self.newest (sym c.opened.ensures.files) (c.resume.ensures.goes none)))

pub returns-in-Err-Open-Memory-clause-goes : goal.returns-in-Err-Open-Memory-clause-goes
returns-in-Err-Open-Memory-clause-goes g c = λ none.
    let files = c.args.self.now.rotation.files in
    let mid = c.open_again.new.self.files in
    to_same g.F.Folder.names g.F.Folder.moment g.F.Folder.left_since g.F.Folder.is_honest g.F.Folder.file g.D.Disk c.files_lead_on.ensures files mid c.args.failed.name.number None c.args.self.now.newest none
    (back_to_none g.F.Folder.names g.F.Folder.moment g.F.Folder.left_since g.F.Folder.is_honest g.F.Folder.file g.D.Disk c.files_lead_on.ensures files mid c.args.failed.name.number c.open_again.ensures.honest.0 c.in-Err-Open-Memory.ensures.unopened)

pub returns-in-Err-clause-goes : goal.returns-in-Err-clause-goes
returns-in-Err-clause-goes g c = λ none.
    let files = c.args.self.now.rotation.files in
    let mid = c.open_again.new.self.files in
    back_from g.F.Folder.names g.F.Folder.moment g.F.Folder.left_since g.F.Folder.is_honest g.F.Folder.file g.D.Disk c.files_lead_on.ensures files mid c.set_aside.new.self.rotation.files c.args.failed.name.number c.set_aside.new.self.newest c.open_again.ensures.honest.0 c.in-Err.ensures.unopened
    (c.set_aside.ensures.goes none)
