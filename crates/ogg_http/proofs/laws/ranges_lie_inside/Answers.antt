use Rattle.ogg_http.proofs.RangeInside.{range_inside}
use Rattle.ogg_http.proofs.laws.ranges_lie_inside.Goals as goal

pub returns : goal.returns
returns c = range_inside
