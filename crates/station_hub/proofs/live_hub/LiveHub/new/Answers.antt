use Rattle.std.proofs.Common.{None, ℕ, List, refl, sym, ap, subst}
use Rattle.link_chain.specs.Links.{AreLinks}
use Rattle.serve_live.specs.Boundaries.{no_link}
use Rattle.station_hub.specs.Marking.{Start}
use Rattle.station_hub.specs.Places.{PlacesState}
use Rattle.station_hub.specs.Tracking.{Tracks}
use Rattle.station_hub.proofs.live_hub.LiveHub.new.Goals as goal

pub returns-clause-begins : goal.returns-clause-begins
returns-clause-begins g c =
    let none = c.in_ok-places.ensures in (
      refl,
      λ start machine is.
          subst (λ (places : PlacesState). Tracks start machine places) (sym none)
          (subst (λ (one : Start). Tracks one machine (record { boundaries = no_link; begun = None }))
          (sym (ap (λ (all : List ℕ). record { bytes = all; links = start.links; recording = start.recording }) is.bytes))
          (c.listeners_join_committed_links.ensures.begins machine start.links start.recording
          (subst (λ (bytes : List ℕ). AreLinks bytes start.links) is.bytes is.are_links) is.holds is.none_held is.none_in_doubt)),
    )
