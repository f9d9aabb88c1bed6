use Rattle.std.proofs.Common.{◌∙◌, Bool, Ok, ap, refl, subst}
use Rattle.import_mend.specs.Found.{Searches}
use Rattle.import_mend.proofs.Finding.{none_passed, one_passed, still_goes_on}
use Rattle.import_mend.proofs.import.find_page.Goals as goal

pub loop-init : goal.loop-init
loop-init g c = (
  λ goes_on. none_passed c.args.pages.now (g.R.Read.remaining c.args.reader.now) c.args.junk.now goes_on,
  refl,
  λ read. read,
)

pub loop-preserved : goal.loop-preserved
loop-preserved g c =
    let (passing, counted, cause) = c.loop.invariant in (
      λ goes_on.
          let was = passing goes_on in
          let (count, one, now) = subst (λ (found : Bool). Searches found c.loop.pages (g.R.Read.remaining c.loop.reader) c.loop.junk
          c.search.new.pages (g.R.Read.remaining c.search.new.reader) c.search.new.junk) c.in-Ok-false.field-0-test (c.in-Ok-false.ensures.finds was.goes_on) in
          one_passed c.args.pages.now (g.R.Read.remaining c.args.reader.now) c.loop.pages (g.R.Read.remaining c.loop.reader) c.args.junk.now c.loop.junk c.loop.counter
          (g.R.Read.remaining c.search.new.reader) count c.search.new.pages c.search.new.junk was one now,
      c.in-Ok-false.ensures.counted ∙ counted,
      still_goes_on c.search.new.pages.outcome (c.in-Ok-false.ensures.goes_on (ap Ok c.in-Ok-false.field-0-test)).1,
    )
