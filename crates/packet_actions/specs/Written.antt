-- What was written of the pages of a file. Ours.
use Rattle.std.specs.Prelude.{◌≡◌, ℕ, List, [], map}
use Rattle.ogg_page.specs.Page.{Page}
use Rattle.chain_rules.specs.Recording.{Recording, after}
use Rattle.import_gather.specs.Gathered.{CanGoOn, HasGathered}
use Rattle.line_packets.specs.Choosing.{Came, LinkState, WritesAll, command_in, no_link}
use Rattle.packet_actions.specs.declared.paging.PageLines.{PageLines}

-- These links were taken. The text has the lines that are asked for of the commands that their pages have given, each
-- with what was known when its page came.
pub record HasWritten (links : List (List Page)) (paging : PageLines) (text : List ℕ) : Type 0 where
  pub given : List Came
  pub gathered : HasGathered links paging.gatherer (map command_in given)
  pub goes_on : CanGoOn paging.gatherer
  pub writes : WritesAll paging.choosing.wanted no_link given paging.choosing.link text

-- The file has ended. The text has the lines that are asked for of commands that add up to the recording.
pub record HasWrittenAll (recording : Recording) (paging : PageLines) (text : List ℕ) : Type 0 where
  pub given : List Came
  pub adds_up : after [] (map command_in given) ≡ recording
  pub link : LinkState
  pub writes : WritesAll paging.choosing.wanted no_link given link text
