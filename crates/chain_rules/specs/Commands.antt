-- Commands one after the other, each on the links that those before it left.
use Rattle.std.specs.Prelude.{ℕ, List, [], ◌∷◌, ◌++◌, IsOk, ⊤}
use Rattle.std.specs.List.{fold}
use Rattle.ogg_page.specs.Page.{Page}
use Rattle.link_chain.specs.ChainState.{chain_state_of}
use Rattle.chain_rules.specs.Decision.{decision}
use Rattle.chain_rules.specs.Encoding.{command_bytes, links_after}
use Rattle.ogg_command.specs.declared.command.Command.{Command}

-- none of them is refused
abbrev pub AreKept : List (List Page) → List Command → Type 0
AreKept links [] = ⊤
AreKept links (command ∷ commands) = IsOk (decision (chain_state_of links) command) × AreKept (links_after links command) commands

-- the bytes that they add
abbrev pub bytes_of_commands : List (List Page) → List Command → List ℕ
bytes_of_commands links [] = []
bytes_of_commands links (command ∷ commands) = command_bytes (chain_state_of links) command ++ bytes_of_commands (links_after links command) commands

-- the links that they leave
abbrev pub links_behind : List (List Page) → List Command → List (List Page)
links_behind links commands = fold links_after links commands
