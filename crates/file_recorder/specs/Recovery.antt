-- What is recovered from an image: the recording that its committed bytes hold. Ours.
use Rattle.std.specs.Prelude.{ℕ, List, IsOk}
use Rattle.ogg_page.specs.Page.{Page}
use Rattle.history.specs.Recovery.{Recovers}
use Rattle.gate_file.specs.Commit.{CommitsTo}
use Rattle.link_chain.specs.ChainState.{chain_state_of}
use Rattle.link_chain.specs.Recording.{Recording, Holds}
use Rattle.ogg_command.specs.Command.{IsCommand}
use Rattle.ogg_command.specs.declared.command.Command.{Command}
use Rattle.chain_rules.specs.Decision.{decision}

abbrev pub Links : Type 0
Links = List (List Page)

-- the image's committed bytes are these
abbrev pub Commits : List ℕ → List ℕ → Type 0
Commits image bytes = CommitsTo bytes image

-- The image shows the recording: its committed bytes are links (RFC 3533, section 4) that hold it, and no packet in
-- them is unfinished.
abbrev pub Shows : List ℕ → Recording → Type 0
Shows = Recovers Commits Holds

-- there are links that hold the recording, and after them no rule refuses the command
abbrev pub Accepts : Recording → Command → Type 0
Accepts recording command =
    (bytes : List ℕ) × (held : Holds bytes recording) × IsCommand command × IsOk (decision (chain_state_of held.0) command)
