use Rattle.std.proofs.Common.{None, ◌∙◌, ap}
use Rattle.archive_record.specs.declared.archive.Archive.{Archive}
use Rattle.archive_record.proofs.Going.{by_same_files, from_free, goes_none, goes_then}
use Rattle.archive_record.proofs.archive.Archive.set_aside.Goals as goal

pub returns-in_err-begins_again-clause-goes : goal.returns-in_err-begins_again-clause-goes
returns-in_err-begins_again-clause-goes g c = λ none.
    let files = c.args.self.now.rotation.files in
    from_free g.F.Folder.names g.F.Folder.moment g.F.Folder.left_since g.F.Folder.is_honest g.F.Folder.file g.D.Disk c.files_lead_on.ensures files c.begins_again.new.self.rotation.files c.args.failed.name.number c.begins_again.new.self.newest
    (by_same_files g.F.Folder.names g.F.Folder.moment g.F.Folder.left_since g.F.Folder.is_honest g.D.Disk files files c.begins_again.new.self.rotation.files None None c.begins_again.new.self.newest
    (ap (λ (a : Archive _ _). a.rotation.files) c.begins_again.ensures.rest) (ap (λ (a : Archive _ _). a.newest) c.begins_again.ensures.rest ∙ none) (goes_none g.F.Folder.names g.F.Folder.moment g.F.Folder.left_since g.F.Folder.is_honest g.F.Folder.file g.D.Disk c.files_lead_on.ensures files None))

pub returns-clause-goes : goal.returns-clause-goes
returns-clause-goes g c = λ none.
    let files = c.args.self.now.rotation.files in
    let mid = c.begins_again.new.self.rotation.files in
    let gone = ap (λ (a : Archive _ _). a.newest) c.begins_again.ensures.rest ∙ none in
    from_free g.F.Folder.names g.F.Folder.moment g.F.Folder.left_since g.F.Folder.is_honest g.F.Folder.file g.D.Disk c.files_lead_on.ensures files c.begin_next.new.self.rotation.files c.args.failed.name.number c.begin_next.new.self.newest
    (goes_then g.F.Folder.names g.F.Folder.moment g.F.Folder.left_since g.F.Folder.is_honest g.F.Folder.file g.D.Disk c.files_lead_on.ensures files mid c.begin_next.new.self.rotation.files None c.begins_again.new.self.newest c.begin_next.new.self.newest
    (by_same_files g.F.Folder.names g.F.Folder.moment g.F.Folder.left_since g.F.Folder.is_honest g.D.Disk files files mid None None c.begins_again.new.self.newest (ap (λ (a : Archive _ _). a.rotation.files) c.begins_again.ensures.rest) gone (goes_none g.F.Folder.names g.F.Folder.moment g.F.Folder.left_since g.F.Folder.is_honest g.F.Folder.file g.D.Disk c.files_lead_on.ensures files None))
    c.begin_next.ensures.goes)
