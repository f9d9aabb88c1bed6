-- What is heard of a recording that grows by commands. Ours.
use Rattle.std.specs.Prelude.{◌≡◌, false, List, [], ◌∷◌, ◌++◌, length, drop}
use Rattle.std.specs.List.{AllByRecursion}
use Rattle.ogg_page.specs.Page.{Page, bytes_of_pages}
use Rattle.ogg_command.specs.declared.command.Command.{Command}
use Rattle.ogg_command.specs.declared.command.Command.TheVariants.{Begin as BeginOf}
use Rattle.ogg_command.specs.declared.command.Begin.{Begin}
use Rattle.link_chain.specs.ChainState.{chain_state_of}
use Rattle.link_chain.specs.Links.{AreLinks, flattened}
use Rattle.chain_rules.specs.Commands.{bytes_of_commands, links_behind}
use Rattle.chain_rules.specs.Decision.{is_begin}
use Rattle.chain_rules.specs.Encoding.{pages_of_command}
use Rattle.chain_rules.specs.Recording.{Stream, Recording, HoldsLink, HoldsLinks, after, begun_link}
use Rattle.serve_live.specs.Heard.{heard_bytes}
use Rattle.serve_live.specs.Joining.{AreLater, IsJoined, heard_streams}

-- none of the commands begins a link
abbrev pub NoneBegins : List Command → Type 0
NoneBegins commands = AllByRecursion (λ command. is_begin command ≡ false) commands

-- the streams of the last link
abbrev pub last_streams : Recording → List Stream
last_streams [] = []
last_streams (link ∷ []) = link
last_streams (link ∷ next ∷ links) = last_streams (next ∷ links)

-- the recording of the joined link and the links after it, as it is heard
abbrev pub heard_recording : List Stream → List Stream → Recording → Recording
heard_recording begun joined [] = []
heard_recording begun joined (link ∷ links) = heard_streams begun joined link ∷ links

-- After these links a command began the link, others were passed, and others came since. What is heard is a chain of
-- links. Its first link holds what the Begin held, and the packets since; the links after it hold what they hold.
pub record AreHeard (links : List (List Page)) (recording : Recording) (begin : Begin) (passed since : List Command) : Type 0 where
  pub begin_pages : List Page
  pub begin_is : begin_pages ≡ pages_of_command (chain_state_of links) (BeginOf begin)
  pub passed_pages : List Page
  pub joins : IsJoined begin_pages passed_pages
  pub held_begin : HoldsLink begin_pages (begun_link begin.skeleton begin.streams)
  pub held_joined : HoldsLink (begin_pages ++ passed_pages) (last_streams (after recording (BeginOf begin ∷ passed)))
  pub joined : links_behind links (BeginOf begin ∷ passed) ≡ links ++ (begin_pages ++ passed_pages) ∷ []
  pub after_pages : List Page
  pub added : bytes_of_commands (links_behind links (BeginOf begin ∷ passed)) since ≡ bytes_of_pages after_pages
  -- the pages since: those of the joined link, and those of the links after it
  pub later : List Page
  pub further : List (List Page)
  pub after_are : after_pages ≡ later ++ flattened further
  pub unmarked : AreLater later
  pub grown : links_behind (links_behind links (BeginOf begin ∷ passed)) since ≡ links ++ (begin_pages ++ (passed_pages ++ later)) ∷ further
  pub heard_links : List (List Page)
  pub are_links : AreLinks (heard_bytes begin_pages passed_pages after_pages) heard_links
  pub holds : HoldsLinks heard_links
      (heard_recording (begun_link begin.skeleton begin.streams) (last_streams (after recording (BeginOf begin ∷ passed)))
      (drop (length recording) (after (after recording (BeginOf begin ∷ passed)) since)))
