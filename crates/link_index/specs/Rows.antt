-- How an index keeps its links: a row for each, and the streams of all in one list. Ours.
use Rattle.std.specs.Prelude.{◌≡◌, ◌≤◌, ◌+◌, ℕ, List, [], ◌∷◌, length, map, take, drop}
use Rattle.std.specs.List.{AllByRecursion}
use Rattle.ogg_page.specs.Page.{Page}
use Rattle.link_chain.specs.ChainState.{ChainState, chain_state_of}
use Rattle.link_index.specs.declared.info.StreamInfo.{StreamInfo}
use Rattle.link_index.specs.declared.rows.Row.{Row}
use Rattle.link_index.specs.Index.{LinkEntry}
use Rattle.link_chain.specs.Limits.{most_links}

-- what a row says of its link
abbrev pub entry_of : List StreamInfo → Row → LinkEntry
entry_of streams row =
    record { info = record { start = row.start; length = row.length; streams = row.count }; streams = take row.count (drop row.first streams) }

abbrev pub entries_of : List StreamInfo → List Row → List LinkEntry
entries_of streams rows = map (entry_of streams) rows

-- The streams of the first row begin at this place, those of each other row follow those of the row before, and the
-- last ones end at that place.
abbrev pub ArePacked : ℕ → List Row → ℕ → Type 0
ArePacked at [] end = at ≡ end
ArePacked at (row ∷ rows) end = (row.first ≡ at) × ArePacked (at + row.count) rows end

-- how many streams the last link has
abbrev pub last_count : List Row → ℕ
last_count [] = 0
last_count (row ∷ []) = row.count
last_count (row ∷ next ∷ rows) = last_count (next ∷ rows)

-- No link has more bytes than these, and no stream more bytes or pages. So no count overflows.
pub record AreWithin (total : ℕ) (rows : List Row) (streams : List StreamInfo) : Type 0 where
  pub lengths : AllByRecursion (λ row. row.length ≤ total) rows
  pub sizes : AllByRecursion (λ stream. (stream.bytes ≤ total) × (stream.pages ≤ total)) streams

-- What always holds of an index: its chain is that of some links.
pub record IsKept (chain : ChainState) (rows : List Row) (streams : List StreamInfo) : Type 0 where
  pub links : List (List Page)
  pub chain_is : chain ≡ chain_state_of links
  pub packed : ArePacked 0 rows (length streams)
  pub count : length rows ≡ chain.links
  pub few : length rows ≤ most_links
  pub last : last_count rows ≡ length chain.streams
  pub within : AreWithin chain.length_of rows streams
