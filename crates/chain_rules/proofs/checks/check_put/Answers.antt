use Rattle.chain_rules.proofs.Turns.{put_refused, put_decided}
use Rattle.chain_rules.proofs.checks.check_put.Goals as goal

pub returns-in-Some : goal.returns-in-Some
returns-in-Some c = λ chain s b.
    put_refused chain c.args.put.now c.as_slice.result.now c.in-Some.refusal c.as_slice.ensures (c.in-Some.ensures.rules chain s)

pub returns-then-streams-le-FEW_STREAMS : goal.returns-then-streams-le-FEW_STREAMS
returns-then-streams-le-FEW_STREAMS c = λ chain s b.
    put_decided chain c.args.put.now c.as_slice.result.now c.check_by.result c.as_slice.ensures (c.in_default.ensures.rules chain s) (c.check_by.ensures.decides chain s b)

pub returns-else-streams-le-FEW_STREAMS : goal.returns-else-streams-le-FEW_STREAMS
returns-else-streams-le-FEW_STREAMS c = λ chain s b.
    put_decided chain c.args.put.now c.as_slice.result.now c.check_by-else-streams-le-FEW_STREAMS.result c.as_slice.ensures (c.in_default.ensures.rules chain s)
    (c.check_by-else-streams-le-FEW_STREAMS.ensures.decides chain s b)
