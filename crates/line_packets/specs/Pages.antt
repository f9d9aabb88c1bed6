-- What the pages of an input's lines hold. Ours.
use Rattle.std.specs.Prelude.{◌≡◌, ◌⊎◌, ℕ, Bool, true, false, List, [], ◌∷◌, ◌++◌, map}
use Rattle.std.specs.List.{AllByRecursion, flat_map, fold}
use Rattle.ogg_command.specs.Command.{IsCommand}
use Rattle.ogg_command.specs.declared.command.Begin.{Begin}
use Rattle.ogg_command.specs.declared.command.Command.{Command}
use Rattle.ogg_command.specs.declared.command.Command.TheVariants.{Begin as BeginOf, Put as PutOf}
use Rattle.ogg_command.specs.declared.command.Entry.{Entry}
use Rattle.link_chain.specs.ChainState.{ChainState, chain_state_of}
use Rattle.chain_rules.specs.Commands.{AreKept, bytes_of_commands, links_behind}
use Rattle.chain_rules.specs.Recording.{Holds, Recording, begun_link, with_packet}
use Rattle.line_packets.specs.Begin.{BeginsAt}
use Rattle.line_packets.specs.Lines.{lines_from, rest_from, short}
use Rattle.line_packets.specs.Placing.{entries_of}
use Rattle.line_packets.specs.declared.pages.LinePages.{LinePages}
use Rattle.line_packets.specs.declared.streams.Streams.{Streams}

-- lines, and the position of their packets
abbrev pub Taken : Type 0
Taken = ℕ × List (List ℕ)

abbrev pub lines_in : Taken → List (List ℕ)
lines_in taken = taken.1

-- what these lines put
abbrev pub entries_in : Streams → Taken → List Entry
entries_in streams taken = flat_map (entries_of streams taken.0) taken.1

abbrev pub put_of : List Entry → Command
put_of entries = PutOf (record { entries = entries })

-- The commands that put these entries in order. The link begins once there is something to put, and not before.
abbrev pub ArePuts : List ℕ → Streams → Bool → List Command → List Entry → Type 0
ArePuts media streams false commands entries = (commands ≡ []) × (entries ≡ [])
ArePuts media streams true commands entries = (time : ℕ) × (begin : Begin) × BeginsAt time media streams begin
    × (puts : List (List Entry)) × (commands ≡ BeginOf begin ∷ map put_of puts) × (entries ≡ flat_map (λ put. put) puts)

-- The pages are those of commands that put these entries, none of which is refused.
pub record HasPut (media : List ℕ) (streams : Streams) (has_begun : Bool) (chain : ChainState) (entries : List Entry) (pages : List ℕ) : Type 0 where
  pub commands : List Command
  pub are_puts : ArePuts media streams has_begun commands entries
  pub fit : AllByRecursion IsCommand commands
  pub kept : AreKept [] commands
  pub pages_are : pages ≡ bytes_of_commands [] commands
  pub chain_is : chain ≡ chain_state_of (links_behind [] commands)

-- These lines of the input were taken, in order, each whole and once. What follows them is `unread`.
pub record HasRead (input : List ℕ) (taken : List Taken) (line unread : List ℕ) : Type 0 where
  pub lines_are : lines_from [] input ≡ flat_map lines_in taken ++ lines_from line unread
  pub rest_is : rest_from [] input ≡ rest_from line unread

-- Of this input these lines were taken, all but `unread`, and these are their pages.
pub record Stands (media : List ℕ) (run : LinePages) (input : List ℕ) (taken : List Taken) (unread pages : List ℕ) : Type 0 where
  pub line : List ℕ
  pub front_is : run.lines.front ≡ short line
  pub has_read : HasRead input taken line unread
  pub has_put : HasPut media run.lines.streams run.has_begun run.bitstream.shape.chain (flat_map (entries_in run.lines.streams) taken) pages

-- the lines of the whole input: what follows the last line feed is one more, unless nothing does
abbrev pub ended_by : List ℕ → List (List ℕ)
ended_by [] = []
ended_by (byte ∷ line) = (byte ∷ line) ∷ []

abbrev pub lines_of : List ℕ → List (List ℕ)
lines_of input = lines_from [] input ++ ended_by (rest_from [] input)

-- The link that these entries are put into.
abbrev pub recorded : Begin → List Entry → Recording
recorded begin entries = fold with_packet (begun_link begin.skeleton begin.streams) entries ∷ []

-- The pages hold the packets of these lines, in order and whole, and nothing else: no link if none of them is put.
abbrev pub HoldsLines : List ℕ → Streams → List Taken → List ℕ → Type 0
HoldsLines media streams taken pages = ((flat_map (entries_in streams) taken ≡ []) × (pages ≡ []))
    ⊎ (time : ℕ) × (begin : Begin) × BeginsAt time media streams begin × Holds pages (recorded begin (flat_map (entries_in streams) taken))

-- The input has ended, and these are all its lines, and their pages.
pub record HasEnded (media : List ℕ) (streams : Streams) (input : List ℕ) (taken : List Taken) (pages : List ℕ) : Type 0 where
  pub lines_are : lines_of input ≡ flat_map lines_in taken
  pub holds : HoldsLines media streams taken pages
