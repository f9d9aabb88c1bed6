use Rattle.chain_rules.proofs.Held.{are_held, held_from_nothing}
use Rattle.chain_rules.proofs.laws.commands_add_their_packets.Goals as goal

pub returns : goal.returns
returns c = record { links = are_held; holds = held_from_nothing }
