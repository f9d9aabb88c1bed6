-- Which page may follow the pages so far (RFC 3533, sections 4 to 6). The order of the rules is ours.
use Rattle.std.specs.Prelude.{◌≡◌, ◌⊎◌, ◌≤◌, ◌+◌, ℕ, Bool, true, false, not, ◌&&◌, nat_eq, nat_lt, nat_le, is_none, is_some, if◌then◌else◌, Option, Some, None, List, [], ◌∷◌, ◌++◌, length}
use Rattle.std.specs.List.{find}
use Rattle.std.specs.Option.{option_map, option_map_or}
use Rattle.ogg_page.specs.Page.{Page, page_size}
use Rattle.ogg_page.specs.Lacing.{ends_open}
use Rattle.ogg_page.specs.LogicalStream.{is_first, is_last, is_continued}
use Rattle.link_chain.specs.declared.stream_state.StreamState.{StreamState}
use Rattle.link_chain.specs.declared.chain_fault.ChainFault.{ChainFault}
use Rattle.link_chain.specs.declared.chain_fault.ChainFault.TheVariants.{Sequence, Continued, BosPlace, BosShape, SerialTwice, NoStream, AfterEos, BosWhileOpen, TooMany, EosUnfinished, Memory}
use Rattle.link_chain.specs.Progress.{stream_in}
use Rattle.link_chain.specs.ChainState.{ChainState, chain_state_of, is_open}
use Rattle.link_chain.specs.Links.{with_pages}
use Rattle.link_chain.specs.Limits.{most_streams, most_links}
use Rattle.link_chain.specs.Rules.{Rule, first_broken}
use Rattle.link_chain.specs.Room.{ChainWithRoom}
use Rattle.ogg_page.specs.Sizes.{full_value}

-- ---- the links with another page
-- a stream's first page begins a link if there is none yet, or if all streams of the last one have ended
abbrev pub begins_link : ChainState → Page → Bool
begins_link chain page = is_first page && not (is_open chain)

abbrev pub links_with : List (List Page) → Page → List (List Page)
links_with links page = if begins_link (chain_state_of links) page then links ++ (page ∷ []) ∷ [] else with_pages links (page ∷ [])

-- ---- a stream's first page
-- the lacing values are those of exactly one whole packet: full ones, and then another
abbrev pub is_one_packet : List ℕ → Bool
is_one_packet [] = false
is_one_packet (value ∷ []) = nat_lt value full_value
is_one_packet (value ∷ next ∷ values) = nat_eq value full_value && is_one_packet (next ∷ values)

abbrev pub is_whole_packet : Page → Bool
is_whole_packet page = not (is_continued page) && is_one_packet page.lacing

-- for the first page of a link
abbrev pub opening_rules : ChainState → Page → List (Rule ChainFault)
opening_rules chain page = (not (is_whole_packet page), BosShape) ∷ (nat_le most_links chain.links, TooMany) ∷ []

-- for the first page of one more stream of an open link
abbrev pub joining_rules : ChainState → Page → List (Rule ChainFault)
joining_rules chain page =
    (chain.has_data, BosWhileOpen)
    ∷ (is_some (stream_in chain.streams page.serial), SerialTwice)
    ∷ (not (is_whole_packet page), BosShape)
    ∷ (nat_le most_streams (length chain.streams), TooMany)
    ∷ []

-- ---- another page
-- the stream's packet goes on after the page: a page without lacing values leaves it as it is
abbrev pub leaves_open : Page → StreamState → Bool
leaves_open page stream = if nat_eq (length page.lacing) 0 then not stream.finished else ends_open page.lacing

abbrev pub of_stream : ChainState → Page → (StreamState → Bool) → Bool
of_stream chain page test = option_map_or test (stream_in chain.streams page.serial) false

abbrev pub later_rules : ChainState → Page → List (Rule ChainFault)
later_rules chain page =
    (nat_eq chain.links 0, BosPlace)
    ∷ (is_none (stream_in chain.streams page.serial), NoStream)
    ∷ (of_stream chain page (λ stream. stream.ended), AfterEos)
    ∷ (of_stream chain page (λ stream. not (nat_eq page.sequence stream.next_sequence)), Sequence)
    ∷ (of_stream chain page (λ stream. if is_continued page then stream.finished else not stream.finished), Continued)
    ∷ (of_stream chain page (λ stream. is_last page && leaves_open page stream), EosUnfinished)
    ∷ []

-- ---- any page
abbrev pub rules_for_page : ChainState → Page → List (Rule ChainFault)
rules_for_page chain page =
    if is_first page then (if is_open chain then joining_rules chain page else opening_rules chain page) else later_rules chain page

-- the fault of the first rule that the page breaks
unfoldable pub fault_of_page : ChainState → Page → Option ChainFault
fault_of_page chain page = first_broken (rules_for_page chain page)

-- Each of the pages may follow those before it, after the links from which they start, and then the links are these.
abbrev pub AreTaken : List (List Page) → List Page → List (List Page) → Type 0
AreTaken start [] links = links ≡ start
AreTaken start (page ∷ pages) links = (fault_of_page (chain_state_of start) page ≡ None) × AreTaken (links_with start page) pages links

-- ---- a shape
-- there is room for what the page adds: a first page adds a stream to its link, and a serial
abbrev pub HasRoomFor : ChainWithRoom → Page → Type 0
HasRoomFor shape page =
    is_first page ≡ true → ((if is_open shape.chain then length shape.chain.streams else 0) + 1 ≤ shape.stream_room) × (1 ≤ shape.serial_room)

-- the serial of the first stream of the last link that has an unfinished packet
abbrev pub unfinished_stream : ChainState → Option ℕ
unfinished_stream chain = option_map (λ (stream : StreamState). stream.serial) (find (λ (stream : StreamState). not stream.finished) chain.streams)

-- ---- what takes pages in turn: a chain, or an index of one
-- why a page isn't taken: a rule that it breaks; or none, and room is lacking
abbrev pub IsFaultOf : ChainState → Page → Type 0 → ChainFault → Type 0
IsFaultOf chain page lacks fault = (fault_of_page chain page ≡ Some fault) ⊎ ((fault ≡ Memory) × (fault_of_page chain page ≡ None) × lacks)

-- The page isn't taken into the chain, which stays as it is, except for its room.
pub record IsRefused (old : ChainWithRoom) (page : Page) (fault : ChainFault) (new : ChainWithRoom) : Type 0 where
  pub why : IsFaultOf old.chain page (HasRoomFor old page → ⊥) fault
  pub same : new.chain ≡ old.chain

-- The page may follow, and is taken: what was of some links is of the links with the page.
pub record IsTaken {T : Type 0} (is_of : List (List Page) → T → Type 0) (size : T → ℕ) (old : T) (page : Page) (new : T) : Type 0 where
  pub follows : (links : List (List Page)) → is_of links old → fault_of_page (chain_state_of links) page ≡ None
  pub links : (links : List (List Page)) → is_of links old → is_of (links_with links page) new
  pub grows : size new ≡ size old + page_size page
