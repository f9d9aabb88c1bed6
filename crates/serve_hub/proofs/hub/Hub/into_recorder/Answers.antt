use Rattle.std.proofs.Common.{rules}
use Rattle.serve_hub.proofs.hub.Hub.into_recorder.Goals as goal

pub returns-clause-none : goal.returns-clause-none
returns-clause-none g c = (search rules, c.unwrap.result.end, search rules)
