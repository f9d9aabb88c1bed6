use Rattle.serve_live.proofs.Hearing.{begins_following, follows_by_pull, goes_on_following}
use Rattle.serve_live.proofs.laws.listeners_hear_on.Goals as goal

pub returns : goal.returns
returns c = record { begins = begins_following; grows = goes_on_following; pulls = follows_by_pull }
