use Rattle.std.proofs.Common.{◌≡◌, ◌++◌, ℕ, List, Result, Some, Err, refl, sym, ◌∙◌, ap, subst, inr}
use Rattle.std.specs.Prelude.{Bool, false, not, true}
use Rattle.ogg_command.specs.declared.command.Command.{Command}
use Rattle.import_pages.specs.Reader.{ReaderState}
use Rattle.import_mend.specs.Found.{offset_found}
use Rattle.import_mend.specs.Importing.{mending_of}
use Rattle.import_mend.specs.Whole.{TakesPage}
use Rattle.import_record.specs.Begun.{begun_after, begun_of}
use Rattle.import_changes.specs.Changed.{Become}
use Rattle.import_record.specs.Steps.{BeginsLink}
use Rattle.import_record.specs.declared.fault.RecordFault.{RecordFault}
use Rattle.import_record.specs.declared.fault.RecordFault.TheVariants.{Memory}
use Rattle.import_record.specs.declared.reading.Step.{Step}
use Rattle.import_record.proofs.reading.ImportRun.take.Goals as goal

is_a_page : (is_page : Bool) → not is_page ≡ false → is_page ≡ true
is_a_page true e = refl
is_a_page false e = cc

pub returns-in-Ok-run-clause-takes : goal.returns-in-Ok-run-clause-takes
returns-in-Ok-run-clause-takes g c before is =
    let (more, appended, step) = c.in-Ok.ensures.steps in
    let (offset, page, is_page, lent, takes) = step.0 (is_a_page c.in-Ok.found.is_page c.if-not-found.false) in
    let (after, here, given, changed, begun, ran, times) = c.in-Ok-run.ensures.ran before is in
    let all : c.take.new.commands.items ≡ more = appended ∙ ap (λ (l : List Command). l ++ more) c.new-commands.ensures.items in
    let was : c.args.self.now.input.pages.lent ≡ Some (offset, page) = ap (λ (s : ReaderState). s.lent) (sym c.in-Ok.ensures.same) ∙ lent in
    let same : c.in-Ok.found.offset ≡ offset = c.in-Ok.ensures.offset ∙ ap (λ l. offset_found l c.args.self.now.input.pages.offset) was in (
      after,
      here,
      (
        (offset, page),
        was,
        sym same,
        record {
          more = more;
          given = given;
          mended = subst (λ (o : ℕ). TakesPage o page (mending_of c.args.self.now.input) (mending_of c.take.new.self) c.in-Ok.found.mend more) (sym same) takes;
          options = refl;
          changed = subst (λ (l : List Command). Become c.args.self.now.changes c.run.new.changes l given) all changed;
          begun = begun ∙ ap (λ (l : List Command). begun_after (begun_of c.args.self.now.begun) l given) all;
          ran = ran;
        },
      ),
    )

err_is : (fault : RecordFault) → (let r : Result Step RecordFault = Err fault in r) ≡ Err Memory → fault ≡ Memory
err_is fault e = cc

pub returns-in-Err-run-clause-memory : goal.returns-in-Err-run-clause-memory
returns-in-Err-run-clause-memory g c = λ is.
    let (more, appended, step) = c.in-Ok.ensures.steps in
    let (offset, page, is_page, lent, takes) = step.0 (is_a_page c.in-Ok.found.is_page c.if-not-found.false) in
    let all : c.take.new.commands.items ≡ more = appended ∙ ap (λ (l : List Command). l ++ more) c.new-commands.ensures.items in
    inr (
      (offset, page),
      c.in-Ok.found.mend,
      more,
      takes,
      subst BeginsLink all (c.in-Err-run.ensures.memory (ap Err (err_is c.in-Err-run.fault is))),
    )
