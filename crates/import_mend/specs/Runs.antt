-- Which packets lie whole in pages of a stream that came one after the other, and that they come out. How packets lie in
-- pages stands in RFC 3533, sections 5 and 6.
use Rattle.std.specs.Prelude.{◌≡◌, ◌≢◌, ℕ, ◌*◌, Bool, true, false, not, ◌&&◌, nat_eq, nat_lt, if◌then◌else◌, Option, Some, None, List, [], ◌∷◌, ◌++◌, length, map, replicate, sum, take, ⊤}
use Rattle.std.specs.List.{AllByRecursion, filter, flat_map}
use Rattle.ogg_page.specs.Page.{Page}
use Rattle.ogg_page.specs.Lacing.{ends_open, lace}
use Rattle.ogg_page.specs.LogicalStream.{is_continued, is_first, is_last, joined_bodies, joined_lacing}
use Rattle.ogg_page.specs.Sizes.{full_value}
use Rattle.ogg_page.specs.Window.{LentAt}
use Rattle.packetiser.specs.Run.{packets_ended}
use Rattle.ogg_command.specs.declared.command.Command.{Command}
use Rattle.ogg_command.specs.declared.command.Command.TheVariants.{Begin as BeginOf, Put as PutOf, End as EndOf}
use Rattle.ogg_command.specs.declared.command.Entry.{Entry}
use Rattle.ogg_command.specs.declared.command.NewStream.{NewStream}
use Rattle.import_gather.specs.Kept.{KeptLink, KeptStream}
use Rattle.import_mend.specs.Mended.{ends_some, front_values}
use Rattle.import_mend.specs.declared.mend.Mend.{Mend}
use Rattle.import_mend.specs.declared.mend.Mend.TheVariants.{Junk, Gap, Restart, Stranger, Repeated, Unfinished, TooLong, Misshapen, Full}

-- ---- pages that came one after the other
-- what is told of a page that is left out
abbrev pub is_left_out : Option Mend → Bool
is_left_out None = false
is_left_out (Some (Stranger offset serial)) = true
is_left_out (Some (Repeated offset serial)) = true
is_left_out (Some (Misshapen offset serial)) = true
is_left_out (Some (Full offset serial)) = true
is_left_out (Some (Junk offset bytes)) = false
is_left_out (Some (Gap offset serial from to)) = false
is_left_out (Some (Restart offset)) = false
is_left_out (Some (Unfinished offset serial)) = false
is_left_out (Some (TooLong offset serial)) = false

-- a page of the stream with this serial that isn't left out
abbrev pub counts : ℕ → Page → Option Mend → Bool
counts serial page mend = nat_eq page.serial serial && not (is_left_out mend)

-- the stream's pages that aren't left out
abbrev pub run_of : ℕ → List LentAt → List (Option Mend) → List Page
run_of serial [] mends = []
run_of serial (lent ∷ later) [] = []
run_of serial (lent ∷ later) (mend ∷ mends) =
    if counts serial lent.1 mend then lent.1 ∷ run_of serial later mends else run_of serial later mends

-- No stream begins with these pages, and nothing is told of those that count.
abbrev pub GoOnUntold : ℕ → List LentAt → List (Option Mend) → Type 0
GoOnUntold serial [] mends = ⊤
GoOnUntold serial (lent ∷ later) [] = ⊥
GoOnUntold serial (lent ∷ later) (mend ∷ mends) =
    (is_first lent.1 ≡ false) × (counts serial lent.1 mend ≡ true → mend ≡ None) × GoOnUntold serial later mends

-- A run of the stream's pages begins with this one: with a packet of its own, or with the rest of one whose beginning is
-- lost, which is told. It isn't the stream's first, whose one packet is its first header, nor a last page that leaves a
-- packet unfinished.
pub record BeginsRun (serial : ℕ) (page : Page) (mend : Option Mend) : Type 0 where
  pub is : counts serial page mend ≡ true
  pub later : is_first page ≡ false
  pub told : is_continued page ≡ true → mend ≢ None
  pub closed : (is_last page && ends_open page.lacing) ≡ false

-- The first page begins a run, and the others go on with it.
abbrev pub AreRun : ℕ → List LentAt → List (Option Mend) → Type 0
AreRun serial [] mends = ⊥
AreRun serial (lent ∷ later) [] = ⊥
AreRun serial (lent ∷ later) (mend ∷ mends) = BeginsRun serial lent.1 mend × GoOnUntold serial later mends

-- ---- a stream's last page
-- nothing is told of a page, or only that a packet is unfinished
abbrev pub tells_end : Option Mend → Bool
tells_end None = true
tells_end (Some (Unfinished offset serial)) = true
tells_end (Some (Junk offset bytes)) = false
tells_end (Some (Gap offset serial from to)) = false
tells_end (Some (Restart offset)) = false
tells_end (Some (Stranger offset serial)) = false
tells_end (Some (Repeated offset serial)) = false
tells_end (Some (TooLong offset serial)) = false
tells_end (Some (Misshapen offset serial)) = false
tells_end (Some (Full offset serial)) = false

-- it is told that a packet which goes on into the page isn't whole
abbrev pub tells_loss : Option Mend → Bool
tells_loss None = false
tells_loss (Some (Gap offset serial from to)) = true
tells_loss (Some (TooLong offset serial)) = true
tells_loss (Some (Unfinished offset serial)) = false
tells_loss (Some (Junk offset bytes)) = false
tells_loss (Some (Restart offset)) = false
tells_loss (Some (Stranger offset serial)) = false
tells_loss (Some (Repeated offset serial)) = false
tells_loss (Some (Misshapen offset serial)) = false
tells_loss (Some (Full offset serial)) = false

-- A page of the stream that isn't left out is its last.
pub record IsLastOf (serial : ℕ) (page : Page) (mend : Option Mend) : Type 0 where
  pub is : counts serial page mend ≡ true
  pub later : is_first page ≡ false
  pub last : is_last page ≡ true

-- The stream's last page goes on from the pages before it, after which these bytes of a packet are kept: its continued
-- flag says whether there are some, and if there are, that packet ends in the page. The page may leave another packet
-- unfinished, which is told.
pub record GoesOnLast (serial : ℕ) (kept : List ℕ) (page : Page) (mend : Option Mend) : Type 0 where
  pub is : IsLastOf serial page mend
  pub told : tells_end mend ≡ true
  pub flag : is_continued page ≡ nat_lt 0 (length kept)
  pub ends : is_continued page ≡ true → ends_some page.lacing ≡ true

-- The stream's last page begins with a packet of its own, or with the rest of one that is lost.
pub record BeginsLast (serial : ℕ) (kept : List ℕ) (page : Page) (mend : Option Mend) : Type 0 where
  pub is : IsLastOf serial page mend
  pub lost : is_continued page ≡ true → tells_loss mend ≡ false → kept ≡ []

-- ---- the packets that are whole in them
-- the lacing values of a packet that began before these pages
abbrev pub values_before : List Page → List ℕ
values_before [] = []
values_before (page ∷ pages) = if is_continued page then take (front_values page.lacing) page.lacing else []

-- of each packet that ends in these pages the position of the page in which it ends
abbrev pub positions_of : List Page → List ℕ
positions_of pages = flat_map (λ (page : Page). replicate (packets_ended page.lacing) page.position) pages

-- The pages hold the rest of a packet that began before them, then exactly these packets of the stream, each with the
-- position of the page in which it ends, and then the beginning of one that isn't finished in them.
pub record HoldWhole (serial : ℕ) (pages : List Page) (entries : List Entry) : Type 0 where
  pub rest : List ℕ
  pub rest_positions : List ℕ
  pub segments : ℕ
  pub unfinished : List ℕ
  pub lacing : joined_lacing pages ≡ values_before pages ++ (flat_map (λ (e : Entry). lace e.packet) entries ++ replicate segments full_value)
  pub bodies : joined_bodies pages ≡ rest ++ (flat_map (λ (e : Entry). e.packet) entries ++ unfinished)
  pub rest_size : length rest ≡ sum (values_before pages)
  pub unfinished_size : length unfinished ≡ full_value * segments
  pub positions : positions_of pages ≡ rest_positions ++ map (λ (e : Entry). e.position) entries
  pub rest_count : length rest_positions ≡ packets_ended (values_before pages)
  pub own : AllByRecursion (λ (e : Entry). e.serial ≡ serial) entries

-- ---- the packets that come out
abbrev pub is_of : ℕ → Entry → Bool
is_of serial entry = nat_eq entry.serial serial

-- the stream's packets that are put
abbrev pub entries_in : ℕ → List Command → List Entry
entries_in serial [] = []
entries_in serial (BeginOf begin ∷ commands) = entries_in serial commands
entries_in serial (PutOf put ∷ commands) = filter (is_of serial) put.entries ++ entries_in serial commands
entries_in serial (EndOf other ∷ commands) = entries_in serial commands

abbrev pub packets_of : List Entry → List (List ℕ)
packets_of entries = map (λ (e : Entry). e.packet) entries

-- its headers, as its link is begun
abbrev pub headers_in : ℕ → List NewStream → List (List ℕ)
headers_in serial [] = []
headers_in serial (stream ∷ streams) = if nat_eq stream.serial serial then stream.headers else headers_in serial streams

-- all its packets
abbrev pub packets_in : ℕ → List Command → List (List ℕ)
packets_in serial [] = []
packets_in serial (BeginOf begin ∷ commands) = headers_in serial begin.streams ++ packets_in serial commands
packets_in serial (PutOf put ∷ commands) = packets_of (filter (is_of serial) put.entries) ++ packets_in serial commands
packets_in serial (EndOf other ∷ commands) = packets_in serial commands

-- those that wait for the link's `Begin`
abbrev pub waiting_in : ℕ → List KeptStream → List (List ℕ)
waiting_in serial [] = []
waiting_in serial (stream ∷ streams) = if nat_eq stream.serial serial then stream.headers else waiting_in serial streams

-- These packets of the stream come out, in order: those that waited before, and then these; or the last ones wait on.
abbrev pub ComeOut : ℕ → List (List ℕ) → KeptLink → KeptLink → List Command → Type 0
ComeOut serial packets old new given =
    waiting_in serial old.streams ++ packets ≡ packets_in serial given ++ waiting_in serial new.streams

-- Those that aren't headers are put, each with its position: once the link has begun all of them.
pub record ArePut (serial : ℕ) (entries : List Entry) (begun : Bool) (given : List Command) : Type 0 where
  pub headers : List Entry
  pub are : entries ≡ headers ++ entries_in serial given
  pub none : begun ≡ true → headers ≡ []
