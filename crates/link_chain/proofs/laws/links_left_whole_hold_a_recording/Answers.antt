use Rattle.link_chain.specs.Laws.LeftWhole.{left_whole}
use Rattle.link_chain.proofs.laws.links_left_whole_hold_a_recording.Goals as goal

pub returns : goal.returns
returns c = left_whole
