-- How long the bytes of a command are.
use Rattle.std.proofs.Common.{◌≡◌, ℕ, length, sym, ◌∙◌, Ok}
use Rattle.ogg_command.specs.declared.command.Command.{Command}
use Rattle.link_chain.specs.ChainState.{ChainState}
use Rattle.chain_rules.specs.Encoding.{command_bytes, pages_of_command}
use Rattle.chain_rules.specs.Decision.{decision}
use Rattle.command_pages.specs.Laws.Sizes.{length-bytes_of_pages}
use Rattle.chain_rules.proofs.Kept.{size_is_own}

pub size_is : (chain : ChainState) (command : Command) (size : ℕ) → decision chain command ≡ Ok size → length (command_bytes chain command) ≡ size
size_is chain command size e = length-bytes_of_pages (pages_of_command chain command) ∙ sym (size_is_own chain command size e)
