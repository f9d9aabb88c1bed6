use Rattle.std.proofs.Common.{◌≡◌, ◌++◌, ◌∙◌, ap, sym, Ok, Err, ℕ, List, drop, length, sum, arith, Result}
use Rattle.std.specs.Prelude.{IfOk}
use Rattle.ogg_page.specs.Page.{Page, IsPage, AreBytes, page_bytes}
use Rattle.ogg_page.specs.Reading.{page_at}
use Rattle.ogg_page.specs.declared.fault.PageFault.{PageFault}
use Rattle.ogg_page.specs.Laws.ReadAgain.{read_is_page, page_is_read}
use Rattle.ogg_page.proofs.reading.read_page.Goals as goal

found_by : (bytes : List ℕ) → AreBytes bytes → (r : Result Page PageFault) → r ≡ page_at bytes →
    IfOk r (λ page. IsPage page × (rest : List ℕ) × (bytes ≡ page_bytes page ++ rest))
found_by bytes h (Ok page) e =
    let both = read_is_page bytes page h (sym e) in
    (both.0, drop (sum page.lacing) (drop (length page.lacing) (drop 27 bytes)), both.1)
found_by bytes h (Err f) e = tt

pub returns-clause-found : goal.returns-clause-found
returns-clause-found c = found_by c.args.bytes.now (λ i. omega (arith, c.type_inv.bytes i)) _ c.page_or_fault.ensures

pub returns-clause-each : goal.returns-clause-each
returns-clause-each c = λ page rest is e. c.page_or_fault.ensures ∙ ap page_at e ∙ page_is_read page rest is
