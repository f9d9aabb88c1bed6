-- What the stations are after one of them was lent to be changed. Ours.
use Rattle.std.specs.Borrow.{Fml, Lends, MutBor, RattleType}
use Rattle.disk_model.specs.declared.disk.Disk.{Ghosts as DiskModel}
use Rattle.station.specs.contracts.station.Station.{the_row as station_row}
use Rattle.station.specs.declared.station.Station.{Station}
use Rattle.station_files.specs.contracts.seats.Stations.{the_row}
use Rattle.station_files.specs.declared.seats.Stations.{Stations}

-- the newest is what was left behind the reference
abbrev pub LendsNewest : (D : RattleType) → DiskModel D.Denot → MutBor (Stations D.Denot) → MutBor (Station D.Denot) → Fml
LendsNewest D model stations lent = Lends (the_row D model) (station_row D model) stations lent (λ (station : Station D.Denot). record stations.now { newest = station })
