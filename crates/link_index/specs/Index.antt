-- The index of a chain of links: the place of each link, and what each of its streams has of it. Ours, over the links
-- of RFC 3533, section 4.
use Rattle.std.specs.Prelude.{ℕ, ◌+◌, List, [], ◌∷◌, length, map}
use Rattle.ogg_page.specs.Page.{Page, bytes_of_pages}
use Rattle.link_chain.specs.Links.{pages_with, serials_of, has_ended}
use Rattle.link_index.specs.declared.info.LinkInfo.{LinkInfo}
use Rattle.link_index.specs.declared.info.StreamInfo.{StreamInfo}

-- what an index says of one link
pub record LinkEntry : Type 0 where
  pub info : LinkInfo
  -- in the order of their first pages
  pub streams : List StreamInfo

-- the stream with this serial, by the pages that it has in its link
abbrev pub stream_info : List Page → ℕ → StreamInfo
stream_info link serial =
    record {
      serial = serial;
      bytes = length (bytes_of_pages (pages_with serial link));
      pages = length (pages_with serial link);
      ended = has_ended link serial;
    }

-- the link of these pages, whose first byte stands at this offset
abbrev pub link_entry : ℕ → List Page → LinkEntry
link_entry start link =
    record {
      info = record { start = start; length = length (bytes_of_pages link); streams = length (serials_of link) };
      streams = map (stream_info link) (serials_of link);
    }

-- each link begins where the one before it ends
abbrev pub index_from : ℕ → List (List Page) → List LinkEntry
index_from start [] = []
index_from start (link ∷ links) = link_entry start link ∷ index_from (start + length (bytes_of_pages link)) links

-- the index of these links
abbrev pub index_of : List (List Page) → List LinkEntry
index_of links = index_from 0 links
