-- A cut: what was committed to a file from one place to another, as an Ogg bitstream of its own (RFC 3533, section 4).
-- It begins as a listener joins, and ends as a recorder ends what is open. Which pages these are is ours.
use Rattle.std.specs.Prelude.{◌≡◌, ℕ, if◌then◌else◌, true, List, [], ◌∷◌, ◌++◌}
use Rattle.std.specs.List.{AllByRecursion}
use Rattle.ogg_page.specs.Page.{Page, IsPage, bytes_of_pages}
use Rattle.link_chain.specs.declared.stream_state.StreamState.{StreamState}
use Rattle.link_chain.specs.Links.{AreLinks, all_ended, with_pages}
use Rattle.link_chain.specs.Recording.{Recording, Holds}
use Rattle.link_chain.specs.ChainState.{chain_state_of}
use Rattle.serve_live.specs.Live.{Moment, IsLive}

-- ---- where a cut ends
-- a page without packets that ends a stream, with the position that it has reached
abbrev pub end_of : StreamState → Page
end_of stream =
    record { flags = 4; position = stream.last_position; serial = stream.serial; sequence = stream.next_sequence; lacing = []; body = [] }

-- one for each stream that goes on
abbrev pub ends_of : List StreamState → List Page
ends_of [] = []
ends_of (stream ∷ streams) = if stream.ended then ends_of streams else end_of stream ∷ ends_of streams

-- the pages that end what is open of these links
abbrev pub ends_of_links : List (List Page) → List Page
ends_of_links links = ends_of (chain_state_of links).streams

-- the links, once that is ended
abbrev pub ended_links : List (List Page) → List (List Page)
ended_links links = with_pages links (ends_of_links links)

-- the bytes of these links, once that is ended
abbrev pub ended_bytes : List ℕ → List (List Page) → List ℕ
ended_bytes committed links = committed ++ bytes_of_pages (ends_of_links links)

-- each stream that is open has a number left for the page that ends it
abbrev pub HasNumbers : List (List Page) → Type 0
HasNumbers links = AllByRecursion IsPage (ends_of_links links)

-- ---- a cut
-- It is what is heard since the moment, if what is open at the end of these committed bytes is ended there.
pub record IsCut (moment : Moment) (committed cut : List ℕ) : Type 0 where
  pub links : List (List Page)
  pub are_links : AreLinks committed links
  pub numbers : HasNumbers links
  pub live : IsLive moment (ended_bytes committed links) cut

-- There is one cut from the moment on over these bytes, which are these links. It is a chain of links in which all
-- streams have ended, and holds this recording.
pub record CutHolds (moment : Moment) (committed : List ℕ) (links : List (List Page)) (recording : Recording) : Type 0 where
  pub exists : HasNumbers links → (cut : List ℕ) × IsCut moment committed cut
  pub once : (cut other : List ℕ) → IsCut moment committed cut → IsCut moment committed other → cut ≡ other
  pub holds : (cut : List ℕ) → IsCut moment committed cut → Holds cut recording
  pub ended : (cut : List ℕ) → IsCut moment committed cut
      → (links : List (List Page)) × AreLinks cut links × AllByRecursion (λ link. all_ended link ≡ true) links
