use Rattle.std.proofs.Common.{◌≡◌, Some, ◌∙◌, ap}
use Rattle.serve_clients.specs.declared.clients.Clients.{Clients}
use Rattle.slab.specs.Slab.{get}
use Rattle.station.specs.Changing.{come}
use Rattle.station.proofs.station.Station.enter.Goals as goal

pub returns-clause-some : goal.returns-clause-some
returns-clause-some g c =
    let clients : Clients = record c.args.self.now.clients { slots = c.insert.new.slots } in
    let found : get clients.slots c.in_ok-key.key ≡ Some (come c.args.client) = c.in_ok-key.ensures.some ∙ ap Some c.arrive.ensures in
    (clients, found, c.wake.ensures.turn (come c.args.client) found)
