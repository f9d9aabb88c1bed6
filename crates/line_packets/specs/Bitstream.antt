-- What a command adds to a bitstream. Ours.
use Rattle.std.specs.Prelude.{◌≡◌, ℕ, List, ◌++◌, IsOk}
use Rattle.ogg_page.specs.Page.{Page}
use Rattle.link_chain.specs.ChainState.{ChainState, chain_state_of}
use Rattle.chain_rules.specs.Decision.{decision}
use Rattle.chain_rules.specs.Encoding.{command_bytes, links_after}
use Rattle.ogg_command.specs.declared.command.Command.{Command}

-- the command isn't refused after these links, its pages are appended, and the chain is that of the links with it
pub record Adds (links : List (List Page)) (command : Command) (old new : List ℕ) (chain : ChainState) : Type 0 where
  pub taken : IsOk (decision (chain_state_of links) command)
  pub pages : new ≡ old ++ command_bytes (chain_state_of links) command
  pub chain_is : chain ≡ chain_state_of (links_after links command)
