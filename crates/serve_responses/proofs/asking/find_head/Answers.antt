use Rattle.serve_responses.proofs.Reading.{asks_or_waits}
use Rattle.serve_responses.proofs.asking.find_head.Goals as goal

pub returns-clause-read : goal.returns-clause-read
returns-clause-read c =
    asks_or_waits c.args.received.now c.read_head.result c.read_head.ensures.whole c.read_head.ensures.found c.read_head.ensures.partial c.read_head.ensures.bad
