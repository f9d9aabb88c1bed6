use Rattle.std.proofs.Common.{◌≡◌, Bool, None, Ok, sym, ap, subst}
use Rattle.std.specs.Prelude.{vec_capacity}
use Rattle.std.proofs.lemmas.Result.{IfOk-weaker}
use Rattle.import_mend.specs.Found.{Searches}
use Rattle.import_mend.specs.declared.import.Import.{Import}
use Rattle.import_pages.specs.Reader.{HasAdvanced, ReaderState}
use Rattle.import_record.specs.Reading.{HasTaken, LacksMemoryFor}
use Rattle.import_record.specs.Steps.{state_of}
use Rattle.import_record.proofs.Stepped.{stepped, told}
use Rattle.import_record.proofs.reading.ImportRun.step.Goals as goal

pub returns-in-Ok-true-clause-steps : goal.returns-in-Ok-true-clause-steps
returns-in-Ok-true-clause-steps g c before is =
    let advances : c.args.self.now.input.pages.outcome ≡ None
    → HasAdvanced c.args.self.now.input.pages (g.R.Read.remaining c.args.reader.now) (Ok tt) c.search.new.self.pages (g.R.Read.remaining c.search.new.reader) = λ none. (subst (λ (found : Bool). Searches found c.args.self.now.input.pages (g.R.Read.remaining c.args.reader.now) c.args.self.now.input.junk
    c.search.new.self.pages (g.R.Read.remaining c.search.new.reader) c.search.new.self.junk) c.in-Ok-true.field-0-test (c.in-Ok-true.ensures.finds none)).0 in
    IfOk-weaker c.take.result _ _
    (λ step took.
    let (after, here, taken) = took in (
      after,
      here,
      stepped g.T.Runner.answers step c.args.self.now.input.pages c.search.new.self.pages _ (state_of c.args.self.now) _ _ _ _ _ _ _ advances c.take.ensures.same
          (subst (λ (i : Import). HasTaken g.T.Runner.answers step c.search.new.self.pages.lent (state_of (record c.args.self.now { input = i })) (g.P.Write.contents c.args.pages.now) before
          (state_of c.take.new.self) (g.P.Write.contents c.take.new.pages) after) c.in-Ok-true.ensures.same taken),
    ))
    (c.take.ensures.takes before is)

pub returns-in-Ok-true-clause-junk : goal.returns-in-Ok-true-clause-junk
returns-in-Ok-true-clause-junk g c =
    IfOk-weaker c.take.result _ _
    (λ step takes. told step _ _ _ _ _ _ _ _ (c.in-Ok-true.ensures.untold (ap Ok c.in-Ok-true.field-0-test)) (ap (λ (s : ReaderState). s.offset) (sym c.take.ensures.same)) takes)
    c.take.ensures.junk

pub returns-in-Ok-true-clause-memory : goal.returns-in-Ok-true-clause-memory
returns-in-Ok-true-clause-memory g c = λ is.
    subst (λ (i : Import). LacksMemoryFor (record c.args.self.now { input = i }) c.take.new.self (vec_capacity i.mender.room)) c.in-Ok-true.ensures.same
    (c.take.ensures.memory is)
