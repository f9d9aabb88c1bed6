use Rattle.std.proofs.Common.{ap, arith, length, refl, sym, ◌∙◌}
use Rattle.ogg_page.specs.Page.{page_bytes}
use Rattle.ogg_page.specs.PageLaws.{length-page_bytes}
use Rattle.gate_file.specs.CommitLaws.{one_page}
use Rattle.file_recorder.proofs.Growing.{is_append}
use Rattle.file_recorder.proofs.staging.stage_page.Goals as goal

pub stage_last-requires-clause-pages : goal.stage_last-requires-clause-pages
stage_last-requires-clause-pages g c =
    let (page, is, made) = c.requires.made in
    is_append (page_bytes page) c.closed.result.now (one_page (page_bytes page) page is refl) (omega (arith, length-page_bytes page)) (c.closed.ensures page made)

pub stage-requires-clause-pages : goal.stage-requires-clause-pages
stage-requires-clause-pages g c = let (page, is, made) = c.requires.made in one_page c.bytes.result.now page is (c.bytes.ensures page made)

pub stage-requires-clause-some : goal.stage-requires-clause-some
stage-requires-clause-some g c = λ none.
    let (page, is, made) = c.requires.made in
    absurd (omega (arith, length-page_bytes page, ap length (sym (c.bytes.ensures page made) ∙ none)))
