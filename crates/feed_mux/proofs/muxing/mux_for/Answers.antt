use Rattle.std.proofs.lemmas.Result.{IfErr-weaker, IfOk-weaker}
use Rattle.feed_mux.specs.Progress.{at_start}
use Rattle.feed_mux.proofs.muxing.mux_for.Goals as goal

pub returns-clause-ok : goal.returns-clause-ok
returns-clause-ok g c =
    IfOk-weaker c.run_feed_for.result _ _ (λ tally end. (end.0, end.2)) (c.run_feed_for.ensures.ok at_start c.new-multiplexer.ensures.reached)

pub returns-clause-err : goal.returns-clause-err
returns-clause-err g c =
    IfErr-weaker c.run_feed_for.result _ _ (λ fault end. (end.0, end.2)) (c.run_feed_for.ensures.err at_start c.new-multiplexer.ensures.reached)
