use Rattle.std.proofs.Common.{Bool, sym, ◌∙◌, ap, subst}
use Rattle.station_hub.specs.declared.live_hub.LiveHub.{LiveHub}
use Rattle.station.specs.Spare.{IsAskedIn}
use Rattle.station.proofs.station.Station.ask_any.Goals as goal

pub returns-then-is_spare-clause-asks : goal.returns-then-is_spare-clause-asks
returns-then-is_spare-clause-asks g c client is =
    let old = c.args.self.now in
    let new = c.ask_in_spare.new.self in
    let (after, left, asked) = c.ask_in_spare.ensures.asks client is in (
      after,
      left,
      subst (λ (b : Bool). IsAskedIn g.D.Disk b old.options.password old.live.places c.args.bytes.now old.live.hub new.live.hub client after)
          (sym (sym c.is_spare.ensures ∙ c.if-is_spare.true)) (ap (λ (live : LiveHub _). live.hub) c.ask_in_spare.ensures.live, asked),
    )

pub returns-else-is_spare-clause-asks : goal.returns-else-is_spare-clause-asks
returns-else-is_spare-clause-asks g c client is =
    let old = c.args.self.now in
    let new = c.ask_on.new.self in
    let (after, left, asked) = c.ask_on.ensures.asks client is in (
      after,
      left,
      subst (λ (b : Bool). IsAskedIn g.D.Disk b old.options.password old.live.places c.args.bytes.now old.live.hub new.live.hub client after)
          (sym (sym c.is_spare.ensures ∙ c.if-is_spare.false)) asked,
    )

pub returns-then-is_spare-clause-sourced : goal.returns-then-is_spare-clause-sourced
returns-then-is_spare-clause-sourced g c = c.ask_in_spare.ensures.sourced

pub returns-else-is_spare-clause-sourced : goal.returns-else-is_spare-clause-sourced
returns-else-is_spare-clause-sourced g c = c.ask_on.ensures.sourced
