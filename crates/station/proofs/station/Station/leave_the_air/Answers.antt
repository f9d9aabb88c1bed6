use Rattle.std.proofs.Common.{is_some, ◌∙◌, subst, ◌||◌}
use Rattle.station.specs.Parting.{FeederParts}
use Rattle.station.proofs.Leaving.{same_air}
use Rattle.station_sources.specs.Air.{parting_answer}
use Rattle.station_sources.specs.declared.air.OnAir.{OnAir}
use Rattle.station.proofs.station.Station.leave_the_air.Goals as goal

pub returns-in-Some-clause-parts : goal.returns-in-Some-clause-parts
returns-in-Some-clause-parts g c air is =
    let new = c.left_by.new.self in
    subst (λ (one : OnAir). FeederParts (parting_answer (c.args.given_up || is_some c.left_by.result) one) one c.args.self.now.clients.slots new.clients.slots)
    (same_air c.in-Some.air air (c.in-Some.ensures.value ∙ is)) c.left_by.ensures.parts

pub returns-in-Some-clause-succeeded : goal.returns-in-Some-clause-succeeded
returns-in-Some-clause-succeeded g c some = c.left_by.ensures.succeeded c.take.ensures.after

pub returns-in-Some-clause-begins : goal.returns-in-Some-clause-begins
returns-in-Some-clause-begins g c some = c.left_by.ensures.begins c.take.ensures.after

pub returns-in-Some-clause-records : goal.returns-in-Some-clause-records
returns-in-Some-clause-records g c = c.left_by.ensures.records

pub returns-in-Some-clause-kept : goal.returns-in-Some-clause-kept
returns-in-Some-clause-kept g c = c.left_by.ensures.kept

pub returns-in-Some-clause-at_rest : goal.returns-in-Some-clause-at_rest
returns-in-Some-clause-at_rest g c some = c.left_by.ensures.at_rest
