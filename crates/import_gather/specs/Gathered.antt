-- How the commands given so far and the pages taken so far belong together. Ours.
use Rattle.std.specs.Prelude.{◌≡◌, ℕ, ◌≤◌, ◌<◌, Bool, true, false, nat_eq, if◌then◌else◌, List, [], ◌∷◌, ◌++◌, length, map}
use Rattle.std.specs.List.{AllByRecursion, AllZip, list_any}
use Rattle.ogg_page.specs.Page.{Page}
use Rattle.ogg_page.specs.LogicalStream.{HoldsPackets}
use Rattle.link_chain.specs.ChainState.{ChainState, chain_state_of, last_link, is_open}
use Rattle.link_chain.specs.Followed.{dropped}
use Rattle.link_chain.specs.Taking.{links_with}
use Rattle.link_chain.specs.Links.{AreLinks, pages_with, serials_of, has_ended}
use Rattle.chain_rules.specs.Recording.{Stream, Recording, HoldsLinks, after}
use Rattle.ogg_command.specs.declared.command.Command.{Command}
use Rattle.import_gather.specs.Headers.{wanted}
use Rattle.import_gather.specs.Giving.{IsPlain, TakesOn}
use Rattle.import_gather.specs.Kept.{KeptStream, KeptLink, has_some, is_ready, rest_of, size_of_rest, without_rest}

-- The pages so far, what is kept of the last link, and whether a growth of a vector was refused.
pub record Gathered : Type 0 where
  pub chain : ChainState
  pub link : KeptLink
  pub refused : Bool

-- The pages of a link hold the whole packets of this stream so far. If a packet goes on, its bytes are kept.
pub record KeepsUp (pages : List Page) (kept : KeptStream) (stream : Stream) : Type 0 where
  pub serial : stream.serial ≡ kept.serial
  pub segments : ℕ
  pub packets : HoldsPackets (pages_with kept.serial pages) stream.packets segments kept.rest
  pub ended : stream.ended ≡ has_ended pages kept.serial
  pub marked : kept.ended ≡ stream.ended

-- what is kept of a stream while its link waits
abbrev pub held_back : KeptStream → Stream
held_back kept = record { serial = kept.serial; packets = kept.headers; ended = kept.ended }

-- there is a first header, and each is wanted
pub record AreWanted (headers : List (List ℕ)) : Type 0 where
  pub some : 0 < length headers
  pub few : length headers ≤ wanted headers

-- A link waits: what it holds is kept, the headers are all wanted, and it can't begin yet.
pub record Waits (pages : List Page) (chain : ChainState) (link : KeptLink) (held : List Stream) : Type 0 where
  pub kept : held ≡ map held_back link.streams
  pub ends : (serial : ℕ) → list_any (nat_eq serial) link.ends ≡ has_ended pages serial
  pub each : AllByRecursion (λ stream. AreWanted stream.headers) link.streams
  pub unready : chain.has_data ≡ true → is_ready link.streams ≡ false

-- the links but the last
abbrev pub before_last : List (List Page) → List (List Page)
before_last [] = []
before_last (link ∷ []) = []
before_last (link ∷ next ∷ links) = link ∷ before_last (next ∷ links)

-- The commands given so far hold `done`, which the links before the last one hold, and then `held`: the whole packets
-- so far of the last link, whose pages these are. A link that waits isn't among them: it is kept.
pub record HoldsSoFar (front : List (List Page)) (pages : List Page) (gathered : Gathered) (given : List Command) : Type 0 where
  pub done : Recording
  pub before : HoldsLinks front done
  pub held : List Stream
  pub last : AllZip (KeepsUp pages) gathered.link.streams held
  pub order : map (λ (stream : KeptStream). stream.serial) gathered.link.streams ≡ serials_of pages
  pub some : gathered.link.begun ≡ true → has_some gathered.link.streams ≡ true
  pub out : after [] given ≡ (if gathered.link.begun then done ++ held ∷ [] else done)
  pub waiting : gathered.link.begun ≡ false → Waits pages gathered.chain gathered.link held

-- the same, if these links were taken so far
pub record HasGathered (links : List (List Page)) (gathered : Gathered) (given : List Command) : Type 0 where
  pub bytes : List ℕ
  pub are : AreLinks bytes links
  pub chain : gathered.chain ≡ chain_state_of links
  pub so_far : HoldsSoFar (before_last links) (last_link links) gathered given

-- `end` hasn't forced a link to begin, so pages may be taken.
abbrev pub CanGoOn : Gathered → Type 0
CanGoOn gathered = gathered.link.begun ≡ true → gathered.chain.has_data ≡ true

-- The page completes these commands, and with them the promise holds of the links with the page. No link is begun with
-- a Skeleton.
pub record GathersPage (page : Page) (old new : Gathered) (more : List Command) : Type 0 where
  pub takes : TakesOn page (is_open old.chain) old.link new.link more
  pub plain : (links : List (List Page)) (given : List Command) → HasGathered links old given → AllByRecursion IsPlain more
  pub goes_on : (links : List (List Page)) (given : List Command) → HasGathered links old given → CanGoOn old
      → HasGathered (links_with links page) new (given ++ more) × CanGoOn new

-- the unfinished packet of the stream with this serial is dropped
abbrev pub without_packet : ℕ → Gathered → Gathered
without_packet serial gathered =
    record gathered {
      chain = dropped gathered.chain serial (size_of_rest (rest_of serial gathered.link.streams));
      link = record gathered.link { streams = map (without_rest serial) gathered.link.streams };
    }
