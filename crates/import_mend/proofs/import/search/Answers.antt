use Rattle.std.proofs.Common.{◌≡◌, None, Err, Result, subst}
use Rattle.std.specs.Prelude.{IfSome}
use Rattle.import_pages.specs.Reader.{HasAdvanced}
use Rattle.import_pages.specs.declared.fault.PageReaderFault.{PageReaderFault}
use Rattle.import_mend.proofs.Finding.{goes_on_after}
use Rattle.import_mend.proofs.import.search.Goals as goal

pub returns-in-Err-Page-clause-goes_on : goal.returns-in-Err-Page-clause-goes_on
returns-in-Err-Page-clause-goes_on g c = λ _.
    let after = goes_on_after c.args.pages.now c.advance.new.self c.pass_over.new.self (g.R.Read.remaining c.args.reader.now) (g.R.Read.remaining c.advance.new.reader)
    c.in-Err-Page.field-0-0 c.pass_over.result (c.advance.new.reader ≡ c.args.reader.now)
    (subst (λ (f : PageReaderFault). c.args.pages.now.outcome ≡ None → HasAdvanced c.args.pages.now (g.R.Read.remaining c.args.reader.now) (Err f) c.advance.new.self
    (g.R.Read.remaining c.advance.new.reader)) c.in-Err-Page.field-0-is c.in-Err-Page.ensures.gives)
    (subst (λ (f : PageReaderFault). IfSome c.args.pages.now.outcome (λ was. ((let r : Result (Unit {0}) PageReaderFault = Err f in r) ≡ was) × (c.advance.new.self ≡ c.args.pages.now)
    × (c.advance.new.reader ≡ c.args.reader.now))) c.in-Err-Page.field-0-is c.in-Err-Page.ensures.stays)
    c.pass_over.ensures.passes c.pass_over.ensures.stays c.pass_over.ensures.none in
    (after.0, after.1)

pub returns-in-Err-Page-clause-counted : goal.returns-in-Err-Page-clause-counted
returns-in-Err-Page-clause-counted g c =
    let after = goes_on_after c.args.pages.now c.advance.new.self c.pass_over.new.self (g.R.Read.remaining c.args.reader.now) (g.R.Read.remaining c.advance.new.reader)
    c.in-Err-Page.field-0-0 c.pass_over.result (c.advance.new.reader ≡ c.args.reader.now)
    (subst (λ (f : PageReaderFault). c.args.pages.now.outcome ≡ None → HasAdvanced c.args.pages.now (g.R.Read.remaining c.args.reader.now) (Err f) c.advance.new.self
    (g.R.Read.remaining c.advance.new.reader)) c.in-Err-Page.field-0-is c.in-Err-Page.ensures.gives)
    (subst (λ (f : PageReaderFault). IfSome c.args.pages.now.outcome (λ was. ((let r : Result (Unit {0}) PageReaderFault = Err f in r) ≡ was) × (c.advance.new.self ≡ c.args.pages.now)
    × (c.advance.new.reader ≡ c.args.reader.now))) c.in-Err-Page.field-0-is c.in-Err-Page.ensures.stays)
    c.pass_over.ensures.passes c.pass_over.ensures.stays c.pass_over.ensures.none in
    after.2
