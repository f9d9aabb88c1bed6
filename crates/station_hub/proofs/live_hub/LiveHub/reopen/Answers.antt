use Rattle.std.proofs.Common.{Some, None, [], ◌∷◌, length, refl, sym, ◌∙◌, ap, subst}
use Rattle.serve_hub.specs.Parts.{HubParts}
use Rattle.serve_hub.specs.Showing.{Shows}
use Rattle.serve_machine.specs.Hub.{Reopen}
use Rattle.station_hub.specs.LiveLaws.{records_keep}
use Rattle.station_hub.specs.Places.{PlacesState, reopened_to}
use Rattle.station_hub.specs.Tracking.{Tracks}
use Rattle.station_hub.proofs.live_hub.LiveHub.reopen.Goals as goal

pub returns-in-Ok-clause-records : goal.returns-in-Ok-clause-records
returns-in-Ok-clause-records g c before shows =
    let old = c.args.self.now in
    let (after, shown, step) = c.in-Ok.ensures.step before shows in
    let (going, is_open, places) = c.reopened.ensures.told after shown in (
      record { event = Reopen (Some after.committed); after = after } ∷ [],
      (step, tt),
      (refl, tt),
      subst (λ (hub : HubParts _). Shows g.D.Disk hub after) (sym c.reopened.ensures.hub) shown,
      λ start tracks. subst (λ (one : PlacesState). Tracks start after one)
          (ap (λ n. reopened_to n (length after.committed) going old.places) (sym (c.end-end.ensures before shows)) ∙ sym places)
          (c.listeners_join_committed_links.ensures.reopened start before after old.places going after.committed step is_open tracks),
    )

pub returns-in-Ok-clause-keeps : goal.returns-in-Ok-clause-keeps
returns-in-Ok-clause-keeps g c = records_keep g.D.Disk c.args.self.now c.reopened.new.self (returns-in-Ok-clause-records g c)

pub returns-in-Err-clause-records : goal.returns-in-Err-clause-records
returns-in-Err-clause-records g c before shows =
    let (after, shown, step) = c.in-Err.ensures.step before shows in (
      record { event = Reopen None; after = after } ∷ [],
      (step, tt),
      (refl, tt),
      shown,
      λ start tracks. c.listeners_join_committed_links.ensures.lost start before after c.args.self.now.places step tracks,
    )

pub returns-in-Err-clause-keeps : goal.returns-in-Err-clause-keeps
returns-in-Err-clause-keeps g c start before shows tracks =
    let (after, shown, step) = c.in-Err.ensures.step before shows in
    (after, shown, c.listeners_join_committed_links.ensures.lost start before after c.args.self.now.places step tracks)
