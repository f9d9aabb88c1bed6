use Rattle.station_laws.proofs.Placed.{begins, joins, keeps_all, keeps_call}
use Rattle.station_laws.proofs.places.listeners_of_a_station_join_committed_links.Goals as goal

pub returns : goal.returns
returns g c = record {
  begins = begins g.D.Disk;
  call = keeps_call g.D.Disk;
  kept = keeps_all g.D.Disk;
  joins = joins g.D.Disk (λ start machine places place tracks found (links, are_links).
      let (moment, is) = c.listeners_join_committed_links.ensures.joins start machine places place links tracks found are_links in
      (moment, (links, are_links, is)));
  hears = λ start first begun key old calls before tracks gets. gets.hears start (gets.tracked start tracks);
}
