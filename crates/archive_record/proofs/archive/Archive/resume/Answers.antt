use Rattle.std.proofs.Common.{None, Some, List, ℕ, refl, ◌∙◌, subst}
use Rattle.import_record.specs.Resuming.{Resumes}
use Rattle.import_record.specs.Running.{HasRun}
use Rattle.import_record.specs.Steps.{state_of}
use Rattle.file_recorder.specs.Running.{progress}
use Rattle.archive_record.specs.Writing.{AnswersIn, writing}
use Rattle.archive_record.proofs.Going.{by_same_files, commands_answered, goes_by, goes_dropped, part_answered}
use Rattle.archive_record.proofs.archive.Archive.resume.Goals as goal

pub returns-in-Ok-ran-clause-goes_on : goal.returns-in-Ok-ran-clause-goes_on
returns-in-Ok-ran-clause-goes_on g c = λ works. record {
  recorder = c.args.newest.recorder;
  works = works;
  commands = c.in-Ok.commands.items;
  resumes = subst (λ streams. Resumes streams c.args.newest.recorder.chain.serials (state_of c.args.import.now) (state_of c.resume.new.self) c.in-Ok.commands.items)
      c.streams.ensures
      (subst (λ (serials : List ℕ). Resumes c.streams.result.now serials (state_of c.args.import.now) (state_of c.resume.new.self) c.in-Ok.commands.items)
      (c.as_slice-serials.ensures ∙ c.serials.ensures) c.in-Ok.ensures.resumes);
  input = c.resume.ensures.same;
  runs = λ first world.
      let here = writing c.args.newest.name (progress first world c.args.newest.recorder) in
      let (after, reached, ran) = c.in-Ok-ran.ensures.ok here (refl, refl) in
      (after, reached, subst (λ commands. HasRun (AnswersIn g.D.Disk) commands c.in-Ok-ran.answered here after None None) c.as_slice.ensures.value ran);
}

pub returns-in-Err-clause-goes : goal.returns-in-Err-clause-goes
returns-in-Err-clause-goes g c = λ none.
    let files = c.args.self.now.rotation.files in
    by_same_files g.F.Folder.names g.F.Folder.moment g.F.Folder.left_since g.F.Folder.is_honest g.D.Disk files files files (Some c.args.newest) None c.args.self.now.newest refl none (goes_dropped g.F.Folder.names g.F.Folder.moment g.F.Folder.left_since g.F.Folder.is_honest g.F.Folder.file g.D.Disk c.files_lead_on.ensures files c.args.newest)

pub returns-in-Ok-ran-clause-goes : goal.returns-in-Ok-ran-clause-goes
returns-in-Ok-ran-clause-goes g c = λ none.
    let files = c.args.self.now.rotation.files in
    goes_by g.F.Folder.names g.F.Folder.moment g.F.Folder.left_since g.F.Folder.is_honest g.F.Folder.file g.D.Disk c.files_lead_on.ensures files c.args.newest (Some c.run_all-ran.new.runner) c.records_are_steps.ensures.steps
    (λ before now.
    let (after, reached, ran) = c.in-Ok-ran.ensures.ok before now in
    (after, reached, commands_answered g.D.Disk _ _ before after _ _ ran))

pub returns-clause-goes : goal.returns-clause-goes
returns-clause-goes g c = λ none.
    let files = c.args.self.now.rotation.files in
    goes_by g.F.Folder.names g.F.Folder.moment g.F.Folder.left_since g.F.Folder.is_honest g.F.Folder.file g.D.Disk c.files_lead_on.ensures files c.args.newest (Some c.run_all-ran.new.runner) c.records_are_steps.ensures.steps
    (λ before now.
    let (after, reached, ran) = c.in-Err-ran.ensures.err before now in
    (after, reached, part_answered g.D.Disk _ before after _ _ ran))
