use Rattle.std.proofs.Common.{refl}
use Rattle.station_files.proofs.Behind.{behind, behind_all, enters_next_at}
use Rattle.station_files.proofs.seats.Stations.enter_after.Goals as goal

pub returns-in-Some : goal.returns-in-Some
returns-in-Some g c =
    let past = c.in-Some.past.now in
    behind c.args.self.now _ _ c.saturating_add.result past c.args.next c.args.client c.enter_next.result c.enter_next.new.station c.saturating_add.ensures
    c.in-Some.ensures.item.3.0 c.in-Some.ensures.value
    (enters_next_at past.number c.args.next c.args.client c.enter_next.result past.station c.enter_next.new.station c.enter_next.ensures.entered c.enter_next.ensures.none)
    refl refl

pub returns-in-None : goal.returns-in-None
returns-in-None g c =
    let newest = c.args.self.now.newest in
    let after = c.enter_next-in-None.new.station in
    let to = c.enter_next-in-None.result in
    behind_all c.args.self.now _ _ c.saturating_add.result c.args.next c.args.client to c.saturating_add.ensures c.in-None.ensures.item.3
    (enters_next_at 0 c.args.next c.args.client to newest after c.enter_next-in-None.ensures.entered c.enter_next-in-None.ensures.none)
    refl
