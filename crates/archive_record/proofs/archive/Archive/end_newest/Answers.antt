use Rattle.std.proofs.Common.{◌≡◌, ◌++◌, ℕ, None, Some, List, [], refl, sym, ◌∙◌, ap, subst}
use Rattle.file_recorder.specs.Recorder.{RecorderState, committed, staged}
use Rattle.import_record.specs.Resuming.{Resumes}
use Rattle.import_record.specs.Steps.{state_of}
use Rattle.archive_record.specs.Filing.{HasExactly}
use Rattle.archive_record.specs.declared.archive.Archive.{Archive}
use Rattle.archive_record.proofs.Changed.{has_ended, has_not_ended, known_of}
use Rattle.archive_record.proofs.Now.{is_writing}
use Rattle.archive_record.specs.declared.newest.Newest.{Newest}
use Rattle.archive_record.proofs.Going.{by_same_files, ended_free, from_same, goes_free, goes_none, goes_written, unended_written}
use Rattle.archive_record.proofs.archive.Archive.end_newest.Goals as goal

pub returns-in-Err-clause-stays : goal.returns-in-Err-clause-stays
returns-in-Err-clause-stays g c before newest is now none =
    let there = sym c.take.ensures.value ∙ c.in-Some.is in
    let at = is_writing before c.args.self.now.newest c.in-Some.newest there now in
    has_not_ended g.D.Disk c.args.self.now.rotation.files.out c.in-Some.newest newest c.end_held-goes_on.result.0 before c.end_held-goes_on.new.recorder c.in-Err.recorder
    (sym there ∙ is) (c.end_held-goes_on.ensures.ends before.progress at.1) c.in-Err.ensures.failed c.in-Err.ensures.front

pub returns-clause-ended : goal.returns-clause-ended
returns-clause-ended g c before goes_on now is =
    let there = sym c.take.ensures.value ∙ c.in-Some.is in
    let at = is_writing before c.args.self.now.newest c.in-Some.newest there now in
    let same : c.end_held-goes_on.result.0 ≡ goes_on = cc is in (
      has_ended g.D.Disk (g.F.Folder.is_honest c.args.self.now.rotation.files.folder) (g.F.Folder.file c.begins_again.new.self.rotation.files.folder)
          c.end_held-goes_on.result.0 goes_on before c.in-Some.newest.name c.end_held-goes_on.new.recorder at.0 same
          (c.end_held-goes_on.ensures.ends before.progress at.1)
          (λ honest disk. subst (λ (a : Archive _ _). HasExactly g.D.Disk (g.F.Folder.file a.rotation.files.folder) c.in-Some.newest.name.number
          (committed g.D.Disk.state c.end_held-goes_on.new.recorder ++ staged g.D.Disk.state c.end_held-goes_on.new.recorder)) (sym c.begins_again.ensures.rest)
          (c.in-Ok.ensures.ended honest disk)),
      known_of c.serials_of-serials.result _ _ c.in_ok-begins_again.ensures.known c.serials_of-serials.ensures c.in_ok-begins_again.ensures.resumes
          (λ taken is_taken resumes.
          subst (λ (l : List ℕ). Resumes [] l (state_of c.args.import.now) (state_of c.begins_again.new.import) c.begins_again.new.self.again.items)
          (is_taken ∙ ap (λ (r : RecorderState _). r.chain.serials) (sym at.1)) resumes),
      ap (λ (a : Archive _ _). a.newest) c.begins_again.ensures.rest ∙ c.take.ensures.after,
    )

pub returns-in_default-clause-goes : goal.returns-in_default-clause-goes
returns-in_default-clause-goes g c =
    let files = c.args.self.now.rotation.files in
    let was = c.args.self.now.newest in
    by_same_files g.F.Folder.names g.F.Folder.moment g.F.Folder.left_since g.F.Folder.is_honest g.D.Disk files files files was was c.take.new.self refl (c.take.ensures.after ∙ (sym c.in_default.is ∙ c.take.ensures.value)) (goes_none g.F.Folder.names g.F.Folder.moment g.F.Folder.left_since g.F.Folder.is_honest g.F.Folder.file g.D.Disk c.files_lead_on.ensures files was)

pub returns-in-Err-clause-goes : goal.returns-in-Err-clause-goes
returns-in-Err-clause-goes g c =
    let files = c.args.self.now.rotation.files in
    let was = c.args.self.now.newest in
    let now : Newest _ = record c.in-Some.newest { recorder = c.in-Err.recorder } in
    from_same g.F.Folder.names g.F.Folder.moment g.F.Folder.left_since g.F.Folder.is_honest g.D.Disk files c.end_group.new.self.files was (Some c.in-Some.newest) (Some now) (sym c.take.ensures.value ∙ c.in-Some.is)
    (goes_written g.F.Folder.names g.F.Folder.moment g.F.Folder.left_since g.F.Folder.is_honest g.F.Folder.file g.D.Disk c.files_lead_on.ensures files c.end_group.new.self.files (Some c.in-Some.newest) now c.end_group.ensures.honest.0
    (λ honest a disks at (file, written, out).
    unended_written g.F.Folder.names g.F.Folder.moment g.F.Folder.left_since g.F.Folder.is_honest g.F.Folder.file g.D.Disk c.files_lead_on.ensures files c.end_group.new.self.files a file c.in-Some.newest.name.number c.in-Some.newest.recorder c.end_held-goes_on.new.recorder c.in-Err.recorder disks at written out
    (c.end_held-goes_on.ensures.does file.world) c.records_are_steps.ensures.steps (λ b one after there writes. c.in-Err.ensures.unended b one after there writes out)))

pub returns-in_err-begins_again-clause-goes : goal.returns-in_err-begins_again-clause-goes
returns-in_err-begins_again-clause-goes g c =
    let files = c.args.self.now.rotation.files in
    let was = c.args.self.now.newest in
    by_same_files g.F.Folder.names g.F.Folder.moment g.F.Folder.left_since g.F.Folder.is_honest g.D.Disk files c.end_group.new.self.files c.begins_again.new.self.rotation.files was None c.begins_again.new.self.newest
    (ap (λ (a : Archive _ _). a.rotation.files) c.begins_again.ensures.rest) (ap (λ (a : Archive _ _). a.newest) c.begins_again.ensures.rest ∙ c.take.ensures.after)
    (from_same g.F.Folder.names g.F.Folder.moment g.F.Folder.left_since g.F.Folder.is_honest g.D.Disk files c.end_group.new.self.files was (Some c.in-Some.newest) None (sym c.take.ensures.value ∙ c.in-Some.is)
    (goes_free g.F.Folder.names g.F.Folder.moment g.F.Folder.left_since g.F.Folder.is_honest g.F.Folder.file g.D.Disk c.files_lead_on.ensures files c.end_group.new.self.files (Some c.in-Some.newest) c.end_group.ensures.honest.0
    (λ honest a disks at (file, written, out).
    ended_free g.F.Folder.names g.F.Folder.moment g.F.Folder.left_since g.F.Folder.is_honest g.F.Folder.file g.D.Disk c.files_lead_on.ensures files c.end_group.new.self.files a file c.in-Some.newest.name.number c.in-Some.newest.recorder c.end_held-goes_on.new.recorder disks at written out
    (c.end_held-goes_on.ensures.does file.world) c.records_are_steps.ensures.steps (c.in-Ok.ensures.leads honest))))

pub returns-clause-goes : goal.returns-clause-goes
returns-clause-goes g c =
    let files = c.args.self.now.rotation.files in
    let was = c.args.self.now.newest in
    by_same_files g.F.Folder.names g.F.Folder.moment g.F.Folder.left_since g.F.Folder.is_honest g.D.Disk files c.end_group.new.self.files c.begins_again.new.self.rotation.files was None c.begins_again.new.self.newest
    (ap (λ (a : Archive _ _). a.rotation.files) c.begins_again.ensures.rest) (ap (λ (a : Archive _ _). a.newest) c.begins_again.ensures.rest ∙ c.take.ensures.after)
    (from_same g.F.Folder.names g.F.Folder.moment g.F.Folder.left_since g.F.Folder.is_honest g.D.Disk files c.end_group.new.self.files was (Some c.in-Some.newest) None (sym c.take.ensures.value ∙ c.in-Some.is)
    (goes_free g.F.Folder.names g.F.Folder.moment g.F.Folder.left_since g.F.Folder.is_honest g.F.Folder.file g.D.Disk c.files_lead_on.ensures files c.end_group.new.self.files (Some c.in-Some.newest) c.end_group.ensures.honest.0
    (λ honest a disks at (file, written, out).
    ended_free g.F.Folder.names g.F.Folder.moment g.F.Folder.left_since g.F.Folder.is_honest g.F.Folder.file g.D.Disk c.files_lead_on.ensures files c.end_group.new.self.files a file c.in-Some.newest.name.number c.in-Some.newest.recorder c.end_held-goes_on.new.recorder disks at written out
    (c.end_held-goes_on.ensures.does file.world) c.records_are_steps.ensures.steps (c.in-Ok.ensures.leads honest))))

pub returns-clause-gone : goal.returns-clause-gone
returns-clause-gone g c = λ goes_on is. ap (λ (a : Archive _ _). a.newest) c.begins_again.ensures.rest ∙ c.take.ensures.after
