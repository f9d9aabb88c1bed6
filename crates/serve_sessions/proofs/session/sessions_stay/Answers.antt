use Rattle.std.proofs.Common.{[], ◌∷◌}
use Rattle.serve_sessions.proofs.Listed.{kept_on}
use Rattle.serve_sessions.proofs.session.sessions_stay.Goals as goal

pub returns : goal.returns
returns c before after event index parts step same front are =
    let (grown, _) = c.committed_bytes_grow.ensures.grows before (record { event = event; after = after } ∷ []) (step, tt) in
    kept_on before.committed grown.0 after.committed grown.1 index parts before.sessions after.sessions same (c.rests_of_responses_stay.ensures.stays before.committed grown.0) front are
