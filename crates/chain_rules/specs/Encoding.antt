-- The links after a command: the pages that it adds stand in `command_pages`.
use Rattle.std.specs.Prelude.{List, [], ◌∷◌, ◌++◌}
use Rattle.ogg_page.specs.Page.{Page}
pub use Rattle.command_pages.specs.Encoding.{header, timed, first_flag, last_flag, first_pages, header_pages, fishead_of, fisbone_of, fisbone_packet, skeleton_stream, fishead_pages, fisbone_pages, skeleton_end, pages_of_begin, with_front, runs_of, run_serial, pages_behind, run_position, with_run, pages_of_runs, end_page, command_bytes}
unfoldable pub use Rattle.command_pages.specs.Encoding.{pages_of_command}
use Rattle.link_chain.specs.ChainState.{chain_state_of}
pub use Rattle.link_chain.specs.Links.{with_pages}
use Rattle.ogg_command.specs.declared.command.Command.{Command}
use Rattle.ogg_command.specs.declared.command.Command.TheVariants.{Begin as BeginOf, Put as PutOf, End as EndOf}

abbrev pub joined_with : List (List Page) → Command → List Page → List (List Page)
joined_with links (BeginOf begin) pages = links ++ pages ∷ []
joined_with links (PutOf put) pages = with_pages links pages
joined_with links (EndOf serial) pages = with_pages links pages

-- the links after a command
abbrev pub links_after : List (List Page) → Command → List (List Page)
links_after links command = joined_with links command (pages_of_command (chain_state_of links) command)
