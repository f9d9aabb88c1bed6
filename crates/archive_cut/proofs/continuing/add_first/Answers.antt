use Rattle.std.proofs.Common.{◌++◌, [], ◌∙◌, ap, sym}
use Rattle.std.proofs.lemmas.Bool.{cond-false}
use Rattle.serve_live.specs.Renaming.{back_of}
use Rattle.archive_cut.proofs.Continued.{back_here}
use Rattle.archive_cut.proofs.continuing.add_first.Goals as goal

pub returns-in-Ok-extend_from_slice-clause-added : goal.returns-in-Ok-extend_from_slice-clause-added
returns-in-Ok-extend_from_slice-clause-added g c page sure stands size_is =
    c.in-Ok-extend_from_slice.ensures.items
    ∙ ap (λ l. c.args.found.now.items ++ l)
    (c.as_slice.ensures.value
    ∙ c.in-Ok.ensures.read sure
    ∙ back_here (g.S.PageSource.bytes c.args.source.now) c.args.place c.args.size page stands size_is
    ∙ sym (cond-false c.args.ended [] (back_of page) c.if-ended.false))
