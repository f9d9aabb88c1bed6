use Rattle.serve_live.proofs.Live.{one_live, live_grows, listener_grows}
use Rattle.serve_live.proofs.laws.sessions_hear_what_is_committed.Goals as goal

pub returns : goal.returns
returns c = record { once = one_live; grows = live_grows; left = listener_grows }
