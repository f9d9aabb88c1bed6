use Rattle.serve_live.proofs.Commands.{make_place}
use Rattle.serve_live.proofs.laws.commands_make_places.Goals as goal

pub returns : goal.returns
returns c = make_place c.commands_add_their_packets.ensures.links
