use Rattle.chain_rules.proofs.ByteSizes.{size_is}
use Rattle.chain_rules.proofs.Held.{is_held, still_holds}
use Rattle.chain_rules.proofs.laws.command_adds_its_packets.Goals as goal

pub returns : goal.returns
returns c = record { size = size_is; links = is_held; holds = still_holds }
