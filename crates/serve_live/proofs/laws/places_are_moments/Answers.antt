use Rattle.serve_live.proofs.Places.{moment_at}
use Rattle.serve_live.proofs.laws.places_are_moments.Goals as goal

pub returns : goal.returns
returns c = moment_at
