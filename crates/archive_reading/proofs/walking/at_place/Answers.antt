use Rattle.std.proofs.Common.{◌≡◌, List, ℕ, drop, sym, ◌∙◌, ap, subst, arith}
use Rattle.std.specs.Prelude.{slice_index}
use Rattle.ogg_page.specs.Head.{Stands}
use Rattle.ogg_page.specs.Laws.HeadBytes.{lies_inside}
use Rattle.page_heads.specs.Laws.{later_failed}
use Rattle.archive_reading.proofs.Walks.{first_byte}
use Rattle.archive_reading.proofs.walking.at_place.Goals as goal
use Rattle.archive_reading.proofs.walking.at_place.Goals.{then-byte-ne-CAPTURE-via-then-byte-ne-CAPTURE, then-byte-ne-CAPTURE-via-else-byte-ne-CAPTURE+then-end-place-eq1}

pub returns-then-byte-ne-CAPTURE-clause-page : goal.returns-then-byte-ne-CAPTURE-clause-page
returns-then-byte-ne-CAPTURE-clause-page g c page sure s =
    let bytes = g.S.PageSource.bytes c.args.source.now in
    let read = c.in_ok-read_at.ensures.read sure in
    let first : slice_index c.read_at.new.buffer 0 ≡ 0x4F = ap (λ (l : List ℕ). slice_index l 0) read ∙ first_byte (drop c.args.place bytes) page s in
    elim c.then-byte-ne-CAPTURE.branch [
      | then-byte-ne-CAPTURE-via-then-byte-ne-CAPTURE w ↦ absurd (w.if-byte-ne-CAPTURE.true first)
      | then-byte-ne-CAPTURE-via-else-byte-ne-CAPTURE+then-end-place-eq1 w ↦
          absurd (omega (arith, lies_inside bytes page c.args.place s, g.met.S.PageSource.fits c.args.source.now sure, c.in_ok-read_at.ensures.size, w.end.ensures, w.if-end-place-eq1.true))
    ]

pub returns-in-Err-clause-page_cause : goal.returns-in-Err-clause-page_cause
returns-in-Err-clause-page_cause g c page sure s err =
    let ok = c.in_ok-read_at.ensures in
    later_failed _ _ _ ok.cause.later
    (c.in-Err.ensures.cause page (ok.honest.0 sure) (subst (λ (b : List ℕ). Stands (drop c.args.place b) page) (sym (ok.same sure)) s) err)
