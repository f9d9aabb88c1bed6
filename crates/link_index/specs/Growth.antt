-- What one more page makes of an index. Ours.
use Rattle.std.specs.Prelude.{ℕ, ◌+◌, nat_eq, ◌||◌, if◌then◌else◌, [], ◌∷◌, ◌++◌, length, map}
use Rattle.ogg_page.specs.Page.{Page, page_bytes}
use Rattle.ogg_page.specs.LogicalStream.{is_last}
pub use Rattle.link_chain.specs.Recording.{change_last}
use Rattle.link_index.specs.declared.info.StreamInfo.{StreamInfo}
use Rattle.link_index.specs.Index.{LinkEntry}

-- a stream that has only this page
abbrev pub first_info : Page → StreamInfo
first_info page = record { serial = page.serial; bytes = length (page_bytes page); pages = 1; ended = is_last page }

-- a stream of the link to which the page was added
abbrev pub counted : Page → StreamInfo → StreamInfo
counted page info =
    if nat_eq info.serial page.serial
    then record { serial = info.serial; bytes = info.bytes + length (page_bytes page); pages = info.pages + 1; ended = info.ended || is_last page }
    else info

-- a link that has only this page
abbrev pub opened_entry : ℕ → Page → LinkEntry
opened_entry start page = record { info = record { start = start; length = length (page_bytes page); streams = 1 }; streams = first_info page ∷ [] }

-- a link with another stream, which begins with the page
abbrev pub joined_entry : Page → LinkEntry → LinkEntry
joined_entry page entry =
    record {
      info = record { start = entry.info.start; length = entry.info.length + length (page_bytes page); streams = entry.info.streams + 1 };
      streams = entry.streams ++ first_info page ∷ [];
    }

-- a link with the page of one of its streams
abbrev pub continued_entry : Page → LinkEntry → LinkEntry
continued_entry page entry =
    record {
      info = record { start = entry.info.start; length = entry.info.length + length (page_bytes page); streams = entry.info.streams };
      streams = map (counted page) entry.streams;
    }
