-- What is done with a page, by the pages before it. What a sound chain is stands in RFC 3533, sections 4 to 6; what is
-- done where a page has no place in one is ours.
use Rattle.std.specs.Prelude.{ℕ, ◌+◌, ◌-◌, ◌^◌, Bool, not, ◌&&◌, ◌||◌, nat_eq, nat_lt, nat_le, is_some, if◌then◌else◌, Option, Some, None, length}
use Rattle.ogg_page.specs.Page.{Page}
use Rattle.ogg_page.specs.LogicalStream.{is_first, is_last}
use Rattle.link_chain.specs.declared.stream_state.StreamState.{StreamState}
use Rattle.link_chain.specs.ChainState.{ChainState, is_open}
use Rattle.link_chain.specs.Limits.{most_streams, most_links}
use Rattle.link_chain.specs.Progress.{stream_in}
use Rattle.link_chain.specs.Taking.{is_whole_packet}
use Rattle.import_mend.specs.declared.ways.Way.{Way}
use Rattle.import_mend.specs.declared.ways.Way.TheVariants.{Take, Restart, Stranger, Repeated, Misshapen, Full}

-- ---- limits
-- A page that isn't its stream's last leaves a number for the last, so that each stream can be ended.
abbrev pub leaves_number : Page → ℕ → Bool
leaves_number page number = nat_lt number (2 ^ 32 - 1) || (is_last page && nat_lt number (2 ^ 32))

-- the number of bytes from which on no further page is taken
abbrev pub most_bytes : ℕ
most_bytes = 2 ^ 62

-- ---- a stream's first page
-- It begins a link of its own if the link is past its first pages, or has its serial.
abbrev pub restarts : ChainState → Page → Bool
restarts chain page = is_open chain && (chain.has_data || is_some (stream_in chain.streams page.serial))

-- with it there are more links than there may be, or more streams in the link
abbrev pub is_one_more : ChainState → Page → Bool
is_one_more chain page =
    if is_open chain && not (restarts chain page) then nat_le most_streams (length chain.streams) else nat_le most_links chain.links

abbrev pub way_of_first : ChainState → Page → Way
way_of_first chain page =
    if not (is_whole_packet page) then Misshapen
    else (if is_one_more chain page then Full
    else (if not (leaves_number page page.sequence) then Full
    else (if restarts chain page then Restart
    else Take)))

-- ---- another page of a stream
-- `lost` is how many of the stream's pages so far were lost: by so much the numbers that come are ahead of those that
-- are given.
abbrev pub number_due : ℕ → StreamState → ℕ
number_due lost stream = stream.next_sequence + lost

-- The page came before. After a gap that is also told by its position, if it has one: the stream is past it.
abbrev pub is_repeated : ℕ → StreamState → Page → Bool
is_repeated lost stream page =
    nat_lt page.sequence (number_due lost stream)
    || (nat_lt (number_due lost stream) page.sequence && nat_lt page.position stream.last_position)

abbrev pub way_of_later : ℕ → StreamState → Page → Way
way_of_later lost stream page =
    if stream.ended then Stranger
    else (if is_repeated lost stream page then Repeated
    else (if not (leaves_number page stream.next_sequence) then Full
    else Take))

-- ---- any page
-- before the first link there is no stream
abbrev pub way_of_known : ChainState → ℕ → Page → Option StreamState → Way
way_of_known chain lost page None = Stranger
way_of_known chain lost page (Some stream) = if nat_eq chain.links 0 then Stranger else way_of_later lost stream page

abbrev pub way_of : ChainState → ℕ → Page → Way
way_of chain lost page =
    if nat_le most_bytes chain.length_of then Full
    else (if is_first page then way_of_first chain page
    else way_of_known chain lost page (stream_in chain.streams page.serial))
