use Rattle.std.proofs.Common.{◌≡◌, None}
use Rattle.serve_hub.specs.Parts.{serials_in}
use Rattle.station.specs.Clocks.{KeepsClocks}
use Rattle.station.specs.Beginning.{BeginsBeside, run_in}
use Rattle.station.specs.Kept.{AreTried}
use Rattle.station.proofs.Succeeding.{HasTried, OthersStand, StayFrom}
use Rattle.station.proofs.station.Station.offer_again.Given as goal

abbrev pub invariant-loop-key : goal.invariant-loop-key
invariant-loop-key g l =
    (l.initial.self.air ≡ None → HasTried l.initial.self.clients.slots l.self.clients.slots l.self.air l.key)
    × StayFrom l.initial.self.clients.slots l.self.clients.slots l.key
    × OthersStand l.initial.self.clients.slots l.self.clients.slots
    × (l.self.live ≡ l.initial.self.live)
    × (l.self.options ≡ l.initial.self.options)
    × (l.initial.self.air ≡ None → BeginsBeside (serials_in l.initial.self.live.hub.file) l.initial.self.options.skeletons (run_in l.self.air))
    × AreTried l.initial.self.options.password l.fn.now l.initial.self.clients.slots l.self.clients.slots
    × (l.key-end ≡ l.initial.self.clients.slots.capacity)
    × KeepsClocks l.initial.self l.self
