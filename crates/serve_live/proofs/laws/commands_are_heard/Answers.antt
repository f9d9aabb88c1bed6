use Rattle.serve_live.proofs.Commands.{are_heard}
use Rattle.serve_live.proofs.laws.commands_are_heard.Goals as goal

pub returns : goal.returns
returns c = are_heard c.commands_add_their_packets.ensures.links
