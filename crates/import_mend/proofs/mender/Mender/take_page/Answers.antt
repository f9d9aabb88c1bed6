use Rattle.std.proofs.Common.{sym, ◌∙◌, ap}
use Rattle.link_chain.specs.ChainState.{ChainState}
use Rattle.import_mend.specs.Ways.{way_of}
use Rattle.import_mend.proofs.Taken.{first_fits, restarts_first}
use Rattle.import_mend.proofs.mender.Mender.take_page.Goals as goal

pub enter-requires-clause-fits : goal.enter-requires-clause-fits
enter-requires-clause-fits c =
    first_fits c.args.gatherer.now.chain c.lost_in-lost.result c.args.page.now (sym c.is_first.ensures ∙ c.if-is_first.true)
    (ap (λ (s : ChainState). way_of s c.lost_in-lost.result c.args.page.now) (sym c.chain-2.ensures) ∙ sym c.way_of.ensures ∙ c.in-Take.is)

pub restart-requires : goal.restart-requires
restart-requires c =
    restarts_first c.args.gatherer.now.chain c.lost_in-lost.result c.args.page.now
    (ap (λ (s : ChainState). way_of s c.lost_in-lost.result c.args.page.now) (sym c.chain-2.ensures) ∙ sym c.way_of.ensures ∙ c.in-Restart.is)
