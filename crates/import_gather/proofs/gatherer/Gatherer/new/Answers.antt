use Rattle.import_gather.specs.Gathered.{Gathered}
use Rattle.import_gather.proofs.Gathering.{nothing_taken}
use Rattle.import_gather.proofs.gatherer.Gatherer.new.Goals as goal

pub returns-clause-gathered : goal.returns-clause-gathered
returns-clause-gathered c =
    let made : Gathered = record { chain = c.new.result.chain; link = c.new-2.result; refused = c.new-3.result } in
    nothing_taken made c.new.ensures c.new-2.ensures
