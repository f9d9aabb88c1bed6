use Rattle.chain_rules.proofs.LonePut.{one_decided, one_after}
use Rattle.chain_rules.proofs.Turns.{put_refused, put_decided}
use Rattle.chain_rules.proofs.checks.decide_put.Goals as goal

pub returns-in-Some-clause-decides : goal.returns-in-Some-clause-decides
returns-in-Some-clause-decides c = λ chain s b.
    put_refused chain c.args.put.now c.as_slice-entries.result.now c.in-Some.refusal c.as_slice-entries.ensures (c.in-Some.ensures.rules chain s)

pub returns-clause-decides : goal.returns-clause-decides
returns-clause-decides c = λ chain s b.
    put_decided chain c.args.put.now c.as_slice-entries.result.now c.check_by.result c.as_slice-entries.ensures (c.in_default.ensures.rules chain s) (c.check_by.ensures.decides chain s b)

pub returns-then-entries-eq1-clause-decides : goal.returns-then-entries-eq1-clause-decides
returns-then-entries-eq1-clause-decides c = λ chain s b.
    one_decided chain c.args.put.now c.as_slice-entries.result.now c.index-entries-0.result c.check_one.result c.as_slice-entries.ensures c.if-entries-eq1.true c.index-entries-0.is
    (c.in_default.ensures.rules chain s) (c.check_one.ensures.decides chain s b)

pub returns-then-entries-eq1-clause-after : goal.returns-then-entries-eq1-clause-after
returns-then-entries-eq1-clause-after c =
    one_after c.args.put.now c.as_slice-entries.result.now c.index-entries-0.result c.check_one.result c.args.streams.now _ c.as_slice-entries.ensures c.if-entries-eq1.true c.index-entries-0.is
    c.check_one.ensures.after
