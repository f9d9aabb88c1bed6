use Rattle.std.proofs.Common.{sym, subst}
use Rattle.ogg_http.specs.Range.{LiesIn}
use Rattle.ogg_http.specs.declared.answer.Answer.TheVariants.{Full, Part as PartOf}
use Rattle.serve_responses.specs.Response.{ranged}
use Rattle.serve_sending.specs.Answering.{IsAnswered, length_of}
use Rattle.serve_sending.proofs.Answered.{whole_answered, part_answered}
use Rattle.serve_sending.proofs.answering.ranged.Goals as goal

pub returns-in-Whole-clause-answered : goal.returns-in-Whole-clause-answered
returns-in-Whole-clause-answered c committed bytes f =
    let len = c.length_of-len.result in
    subst (λ r. IsAnswered committed (ranged bytes r) (Full len) c.cut.result) (sym c.in-Whole.is)
    (whole_answered committed bytes c.args.found len c.cut.result f c.length_of-len.ensures (c.cut.ensures committed bytes f))

pub returns-in-Part-clause-answered : goal.returns-in-Part-clause-answered
returns-in-Part-clause-answered c committed bytes f =
    let len = c.length_of-len.result in
    let inside = subst (LiesIn (length_of c.args.found)) c.in-Part.is c.requires in
    subst (λ r. IsAnswered committed (ranged bytes r) (PartOf c.in-Part.first c.in-Part.last len) c.cut-in-Part.result) (sym c.in-Part.is)
    (part_answered committed bytes c.args.found c.in-Part.first c.in-Part.last len c.cut-in-Part.result f c.length_of-len.ensures inside.0 inside.1 (c.cut-in-Part.ensures committed bytes f))
