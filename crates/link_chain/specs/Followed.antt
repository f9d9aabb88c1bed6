-- The chain state after a page that may follow, after another link, and after further pages of the last link.
use Rattle.std.specs.Prelude.{◌+◌, ◌-◌, ◌^◌, ℕ, List, Bool, true, false, not, ◌||◌, nat_lt, if◌then◌else◌, [], ◌∷◌, ◌++◌, map}
use Rattle.ogg_page.specs.Page.{Page, page_size}
use Rattle.ogg_page.specs.LogicalStream.{is_first, is_last}
use Rattle.link_chain.specs.declared.stream_state.StreamState.{StreamState}
use Rattle.link_chain.specs.ChainState.{ChainState, is_open}
use Rattle.link_chain.specs.Progress.{change_at, left_whole}
use Rattle.link_chain.specs.Taking.{leaves_open}

-- a stream after one more page
abbrev pub followed : Page → StreamState → StreamState
followed page stream =
    record {
      serial = stream.serial;
      next_sequence = page.sequence + 1;
      last_position = if nat_lt page.position (2 ^ 63) then page.position else stream.last_position;
      ended = stream.ended || is_last page;
      finished = not (leaves_open page stream);
    }

-- a stream that has no page yet
abbrev pub without_pages : ℕ → StreamState
without_pages serial = record { serial = serial; next_sequence = 0; last_position = 0; ended = false; finished = true }

-- a stream after its first page
abbrev pub entered : Page → StreamState
entered page = followed page (without_pages page.serial)

-- after the first page of a link
abbrev pub opened : ChainState → Page → ChainState
opened chain page =
    record {
      streams = entered page ∷ [];
      has_data = false;
      serials = chain.serials ++ page.serial ∷ [];
      links = chain.links + 1;
      length_of = chain.length_of + page_size page;
    }

-- after the first page of one more stream of the last link
abbrev pub joined : ChainState → Page → ChainState
joined chain page =
    record chain {
      streams = chain.streams ++ entered page ∷ [];
      serials = chain.serials ++ page.serial ∷ [];
      length_of = chain.length_of + page_size page;
    }

-- after another page of a stream of the last link
abbrev pub continued : ChainState → Page → ChainState
continued chain page =
    record chain {
      streams = map (change_at page.serial (followed page)) chain.streams;
      has_data = true;
      length_of = chain.length_of + page_size page;
    }

-- after another link, which leaves these streams
abbrev pub with_link : ChainState → List StreamState → Bool → ℕ → ChainState
with_link chain streams has_data bytes =
    record {
      streams = streams;
      has_data = has_data;
      serials = chain.serials ++ map (λ (stream : StreamState). stream.serial) streams;
      links = chain.links + 1;
      length_of = chain.length_of + bytes;
    }

-- after pages of the last link that are no stream's first, and that leave these streams
abbrev pub moved_on : ChainState → List StreamState → ℕ → ChainState
moved_on chain streams bytes = record chain { streams = streams; has_data = true; length_of = chain.length_of + bytes }

-- after pages of one stream of the last link that aren't its first
abbrev pub moved_by : ChainState → ℕ → (StreamState → StreamState) → ℕ → ChainState
moved_by chain serial change bytes = moved_on chain (map (change_at serial change) chain.streams) bytes

-- after the unfinished packet of a stream of the last link was dropped: without it its pages have this number of
-- bytes less
abbrev pub dropped : ChainState → ℕ → ℕ → ChainState
dropped chain serial bytes =
    record chain { streams = map (change_at serial left_whole) chain.streams; length_of = chain.length_of - bytes }

-- after a page that may follow
abbrev pub after_page : ChainState → Page → ChainState
after_page chain page = if is_first page then (if is_open chain then joined chain page else opened chain page) else continued chain page
