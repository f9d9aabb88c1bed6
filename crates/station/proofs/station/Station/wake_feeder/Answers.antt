use Rattle.std.proofs.Common.{◌≡◌, true, false, sym, ◌∙◌}
use Rattle.station.proofs.Succeeding.{woken_one}
use Rattle.station.proofs.Kept.{woken_one as woken_one_turned}
use Rattle.station.proofs.station.Station.wake_feeder.Goals as goal

false_true : false ≡ true → ⊥
false_true e = cc

pub returns-then-reads-clause-turns : goal.returns-then-reads-clause-turns
returns-then-reads-clause-turns g c =
    woken_one c.args.self.now.clients c.wake.new.self.clients c.in-Some-Peer.key (λ none. false_true (sym (c.reads.ensures.none none) ∙ c.if-reads.true))
    c.wake.ensures.turn c.wake.ensures.others

pub returns-then-reads-clause-turned : goal.returns-then-reads-clause-turned
returns-then-reads-clause-turned g c =
    woken_one_turned c.args.self.now.clients c.wake.new.self.clients c.in-Some-Peer.key (λ none. false_true (sym (c.reads.ensures.none none) ∙ c.if-reads.true))
    c.wake.ensures.turn c.wake.ensures.others
