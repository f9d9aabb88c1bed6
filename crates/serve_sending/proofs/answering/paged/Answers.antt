use Rattle.std.proofs.Common.{Some, option_copied}
use Rattle.serve_responses.specs.Response.{Pages, get_response}
use Rattle.serve_sending.proofs.Answered.{whole_made, range_answered}
use Rattle.serve_sending.proofs.answering.paged.Goals as goal

pub returns : goal.returns
returns c committed bytes f =
    whole_made committed (get_response (option_copied c.args.range) (Some (Pages bytes))) c.ranged-answer.result.0 c.ranged-answer.result.1 c.with_body.result
    (range_answered committed bytes c.args.found (option_copied c.args.range) c.asked_range.result c.length_of.result c.ranged-answer.result.0 c.ranged-answer.result.1 f c.length_of.ensures
    c.asked_range.ensures.range (c.ranged-answer.ensures.answered committed bytes f)) c.with_body.ensures.text c.with_body.ensures.body
