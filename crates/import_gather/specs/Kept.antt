-- What is kept of the last link.
use Rattle.std.specs.Prelude.{◌≡◌, ℕ, ◌+◌, ◌/◌, Bool, false, not, ◌||◌, ◌&&◌, nat_eq, nat_lt, if◌then◌else◌, List, [], ◌∷◌, ◌++◌, length, take, drop, sum_by}
use Rattle.std.specs.List.{list_any}
use Rattle.ogg_page.specs.Page.{Page}
use Rattle.ogg_page.specs.LogicalStream.{is_first, is_last}
use Rattle.ogg_page.specs.Sizes.{full_value}
use Rattle.import_gather.specs.Limits.{most_kept, longest_packet}
use Rattle.import_gather.specs.Headers.{wanted, lacking}
use Rattle.import_gather.specs.Cutting.{EndIn, first_size}

-- a stream: its packets so far while its link waits, the bytes of the unfinished one, and whether it has ended
pub record KeptStream : Type 0 where
  pub serial : ℕ
  pub headers : List (List ℕ)
  pub rest : List ℕ
  pub ended : Bool

-- the streams in the order of their first pages, whether the `Begin` was given, and which ends wait for it
pub record KeptLink : Type 0 where
  pub streams : List KeptStream
  pub begun : Bool
  pub ends : List ℕ

-- what is kept if there is no link
abbrev pub no_link : KeptLink
no_link = record { streams = []; begun = false; ends = [] }

abbrev pub has_some : {A : Type 0} → List A → Bool
has_some list = not (nat_eq (length list) 0)

-- there is a link whose `Begin` waits
abbrev pub waits : KeptLink → Bool
waits link = not link.begun && has_some link.streams

-- ---- a page of a stream
-- how many further packets are kept as headers
abbrev pub room_of : Bool → KeptStream → ℕ
room_of begun stream = if begun then 0 else lacking stream.headers

-- the stream after a page: these packets that end in the page aren't kept
pub record TakesPage (begun : Bool) (page : Page) (old new : KeptStream) (later : List (List ℕ)) : Type 0 where
  pub packets : List (List ℕ)
  pub cut : EndIn old.rest page packets new.rest
  pub serial : new.serial ≡ old.serial
  pub ended : new.ended ≡ (old.ended || is_last page)
  pub headers : new.headers ≡ old.headers ++ take (room_of begun old) packets
  pub others : later ≡ drop (room_of begun old) packets

-- the same of the page's stream among these; the others stay as they are
pub record TakenBy (begun : Bool) (page : Page) (old new : List KeptStream) (later : List (List ℕ)) : Type 0 where
  pub front : List KeptStream
  pub back : List KeptStream
  pub stream : KeptStream
  pub changed : KeptStream
  pub was : old ≡ front ++ stream ∷ back
  pub is : new ≡ front ++ changed ∷ back
  pub own : stream.serial ≡ page.serial
  pub takes : TakesPage begun page stream changed later

abbrev pub has_kept : ℕ → List KeptStream → Bool
has_kept serial streams = list_any (λ (stream : KeptStream). nat_eq stream.serial serial) streams

-- a stream after its first page
abbrev pub entered : Page → KeptStream
entered page = record { serial = page.serial; headers = page.body ∷ []; rest = []; ended = is_last page }

abbrev pub ends_by : Page → List ℕ
ends_by page = if is_last page then page.serial ∷ [] else []

-- the bytes that are unfinished of the stream with this serial
abbrev pub rest_of : ℕ → List KeptStream → List ℕ
rest_of serial [] = []
rest_of serial (stream ∷ streams) = if nat_eq stream.serial serial then stream.rest else rest_of serial streams

-- ---- whether the link is ready to begin
-- a stream that hasn't ended wants further headers
abbrev pub is_waiting : KeptStream → Bool
is_waiting stream = not stream.ended && nat_lt (length stream.headers) (wanted stream.headers)

abbrev pub kept_bytes : List KeptStream → ℕ
kept_bytes streams = sum_by (λ (stream : KeptStream). sum_by length stream.headers) streams

abbrev pub is_ready : List KeptStream → Bool
is_ready streams = not (list_any is_waiting streams) || nat_lt most_kept (kept_bytes streams)

-- A first page has one packet, which lies whole in it. Another page may continue a packet of its stream, up to the
-- longest that there may be.
abbrev pub is_too_long : KeptLink → Page → Bool
is_too_long link page = not (is_first page) && nat_lt longest_packet (length (rest_of page.serial link.streams) + first_size page.lacing)

-- ---- an unfinished packet is dropped
-- the stream with this serial keeps no bytes of a packet that goes on
abbrev pub without_rest : ℕ → KeptStream → KeptStream
without_rest serial stream = if nat_eq stream.serial serial then record stream { rest = [] } else stream

-- how many bytes pages have of an unfinished packet: those of its whole segments, and a lacing value for each
abbrev pub size_of_rest : List ℕ → ℕ
size_of_rest rest = length rest + length rest / full_value
