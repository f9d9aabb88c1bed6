use Rattle.std.proofs.Common.{◌≡◌, Some, None, Err}
use Rattle.import_pages.specs.declared.fault.PageReaderFault.TheVariants.{Read}
use Rattle.import_mend.proofs.Finding.{Passing}
use Rattle.import_mend.proofs.import.find_page.Given as goal

-- each turn passed over a byte or more, and no read has failed
abbrev pub invariant-loop : goal.invariant-loop
invariant-loop g l =
    (l.initial.pages.outcome ≡ None →
    Passing l.initial.pages (g.R.Read.remaining l.initial.reader) l.pages (g.R.Read.remaining l.reader) l.initial.junk l.junk l.counter)
    × (l.pages.failures ≡ l.initial.pages.failures)
    × (l.pages.outcome ≡ Some (Err Read) → l.initial.pages.outcome ≡ Some (Err Read))
