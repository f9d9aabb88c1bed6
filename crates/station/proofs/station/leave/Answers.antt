use Rattle.std.proofs.Common.{rules}
use Rattle.std.proofs.lemmas.Fn.{filter_same}
use Rattle.station.specs.Spare.{is_another}
use Rattle.station.proofs.station.leave.Goals as goal

pub returns : goal.returns
returns c = filter_same _ (is_another c.args.key) _ (λ x b f' k. search rules) _ _ c.retain.ensures.filtered
