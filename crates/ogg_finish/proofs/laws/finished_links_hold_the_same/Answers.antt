use Rattle.ogg_finish.proofs.OneLink.{are_links, hold_links, of_stream, same_reached, end_full}
use Rattle.ogg_finish.proofs.laws.finished_links_hold_the_same.Goals as goal

pub returns : goal.returns
returns c = record { links = are_links; holds = hold_links; streams = of_stream; positions = same_reached; ends = end_full }
