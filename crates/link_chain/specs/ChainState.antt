-- What the rules for a next command or page depend on, of all pages so far.
use Rattle.std.specs.Prelude.{ℕ, ◌^◌, Bool, not, nat_lt, if◌then◌else◌, List, [], ◌∷◌, length, map, sum_by}
use Rattle.std.specs.List.{flat_map, list_any, fold}
use Rattle.ogg_page.specs.Page.{Page, page_size}
use Rattle.ogg_page.specs.Lacing.{ends_open}
use Rattle.ogg_page.specs.LogicalStream.{is_first, joined_lacing, number_behind}
use Rattle.link_chain.specs.declared.stream_state.StreamState.{StreamState}
use Rattle.link_chain.specs.Links.{pages_with, serials_of, has_ended}

pub record ChainState : Type 0 where
  pub streams : List StreamState
  -- a page that is no stream's first one stands in the last link
  pub has_data : Bool
  -- the serials of all streams of all links
  pub serials : List ℕ
  pub links : ℕ
  pub length_of : ℕ

abbrev pub last_position : List Page → ℕ
last_position pages = fold (λ found page. if nat_lt page.position (2 ^ 63) then page.position else found) 0 pages

abbrev pub state_of : List Page → ℕ → StreamState
state_of pages serial =
    let own = pages_with serial pages in
    record {
      serial = serial;
      next_sequence = number_behind own;
      last_position = last_position own;
      ended = has_ended pages serial;
      finished = not (ends_open (joined_lacing own));
    }

abbrev pub last_link : List (List Page) → List Page
last_link [] = []
last_link (link ∷ []) = link
last_link (link ∷ next ∷ links) = last_link (next ∷ links)

-- the chain state of these links
abbrev pub chain_state_of : List (List Page) → ChainState
chain_state_of links =
    let last = last_link links in
    record {
      streams = map (state_of last) (serials_of last);
      has_data = list_any (λ page. not (is_first page)) last;
      serials = flat_map serials_of links;
      links = length links;
      length_of = sum_by (λ link. sum_by page_size link) links;
    }

-- a link is open while one of its streams has not ended
abbrev pub is_open : ChainState → Bool
is_open chain = list_any (λ stream. not stream.ended) chain.streams
