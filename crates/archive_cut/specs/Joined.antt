-- Links of two files as one: what begins a file goes on where the file before stopped. Ours.
use Rattle.std.specs.Prelude.{◌≡◌, ℕ, ◌+◌, ◌-◌, Bool, true, false, not, ◌||◌, ◌&&◌, nat_eq, if◌then◌else◌, ◌≤◌, List, [], ◌∷◌, ◌++◌, length, map, drop, ⊤}
use Rattle.std.specs.List.{AllByRecursion, filter, fold}
use Rattle.ogg_page.specs.Page.{Page, IsPage}
use Rattle.ogg_page.specs.LogicalStream.{number_behind}
use Rattle.link_chain.specs.ChainState.{last_link}
use Rattle.link_chain.specs.Limits.{most_links}
use Rattle.link_chain.specs.Links.{AreLinks, has_ended, has_stream, pages_with, serials_of}
use Rattle.link_chain.specs.Recording.{Stream, Recording, HoldsLink, HoldsLinks, change_last}
use Rattle.serve_live.specs.Joining.{AreLater, AreWhole}

-- In what follows `first` has the pages of a link as far as it came, without those that end what goes on. `begin` has
-- the pages of the Begin with which the next file goes on, and `later` the further pages of that link.

-- ---- names
-- under which serial of the first link a stream of the second goes on: pairs of the second's serial and the first's
abbrev pub name_in : List (ℕ × ℕ) → ℕ → ℕ
name_in [] serial = serial
name_in (pair ∷ names) serial = if nat_eq pair.0 serial then pair.1 else name_in names serial

-- it is a stream of these pages that hasn't ended
abbrev pub IsOpen : List Page → ℕ → Type 0
IsOpen pages serial = (has_stream pages serial ≡ true) × (has_ended pages serial ≡ false)

-- Each stream of the second link that hadn't ended when it began goes on with a stream of the first that is open; no two
-- go on with one, and each that is open goes on. Streams of the second that had ended, as a Skeleton's, go on with none.
-- No packet is unfinished.
pub record GoesOn (first begin : List Page) (names : List (ℕ × ℕ)) : Type 0 where
  pub with_open : (serial : ℕ) → IsOpen begin serial → IsOpen first (name_in names serial)
  pub apart : (one other : ℕ) → IsOpen begin one → IsOpen begin other → name_in names one ≡ name_in names other → one ≡ other
  pub each : (serial : ℕ) → IsOpen first serial → (new : ℕ) × IsOpen begin new × (name_in names new ≡ serial)
  pub first_whole : AreWhole first
  pub begin_whole : AreWhole begin

-- ---- pages
-- A page of the second link has its stream's serial in the first, and goes on in its numbers: the pages of the Begin
-- don't count.
abbrev pub continued : List Page → List Page → List (ℕ × ℕ) → Page → Page
continued first begin names page =
    record page {
      serial = name_in names page.serial;
      sequence = (page.sequence - number_behind (pages_with page.serial begin)) + number_behind (pages_with (name_in names page.serial) first);
    }

-- both links as one: the Begin of the second is left out
abbrev pub joined_link : List Page → List Page → List (ℕ × ℕ) → List Page → List Page
joined_link first begin names later = first ++ map (continued first begin names) later

-- ---- what it holds
-- a stream of the second link, which began as this, goes on with the stream that has this serial
abbrev pub is_on : List (ℕ × ℕ) → Stream → ℕ → Bool
is_on names begun serial = not begun.ended && nat_eq (name_in names begun.serial) serial

-- the packets that the second link has after its Begin, in the stream that goes on with this one
abbrev pub since_in : List (ℕ × ℕ) → List Stream → List Stream → ℕ → List (List ℕ)
since_in names (begun ∷ more_begun) (now ∷ more) serial =
    if is_on names begun serial then drop (length begun.packets) now.packets else since_in names more_begun more serial
since_in names begun now serial = []

abbrev pub ends_in : List (ℕ × ℕ) → List Stream → List Stream → ℕ → Bool
ends_in names (begun ∷ more_begun) (now ∷ more) serial = if is_on names begun serial then now.ended else ends_in names more_begun more serial
ends_in names begun now serial = false

abbrev pub joined_stream : List (ℕ × ℕ) → List Stream → List Stream → Stream → Stream
joined_stream names begun now stream =
    record {
      serial = stream.serial;
      packets = stream.packets ++ since_in names begun now stream.serial;
      ended = stream.ended || ends_in names begun now stream.serial;
    }

abbrev pub joined_streams : List (ℕ × ℕ) → List Stream → List Stream → List Stream → List Stream
joined_streams names begun now streams = map (joined_stream names begun now) streams

-- ---- names by the order of the streams
-- the serials of the streams that are open, in order
abbrev pub open_in : List Page → List ℕ
open_in pages = filter (λ serial. not (has_ended pages serial)) (serials_of pages)

abbrev pub pairs_of : List ℕ → List ℕ → List (ℕ × ℕ)
pairs_of (new ∷ more_new) (old ∷ more_old) = (new, old) ∷ pairs_of more_new more_old
pairs_of new old = []

-- the streams of the Begin that haven't ended go on with those that are open, in order
abbrev pub names_in_order : List Page → List Page → List (ℕ × ℕ)
names_in_order first begin = pairs_of (open_in begin) (open_in first)

-- As many streams of the Begin haven't ended as are open. No packet is unfinished.
pub record CanGoOn (first begin : List Page) : Type 0 where
  pub as_many : length (open_in begin) ≡ length (open_in first)
  pub first_whole : AreWhole first
  pub begin_whole : AreWhole begin

-- ---- any number of files
-- a file that goes on with the last link: the pages of its Begin, the further pages of that link, the links after it,
-- and under which serials its streams go on
pub record NextFile : Type 0 where
  pub begin : List Page
  pub later : List Page
  pub further : List (List Page)
  pub names : List (ℕ × ℕ)

-- the links, gone on with
abbrev pub with_file : List (List Page) → NextFile → List (List Page)
with_file links file = change_last (λ first. joined_link first file.begin file.names file.later) links ++ file.further

abbrev pub with_files : List (List Page) → List NextFile → List (List Page)
with_files links files = fold with_file links files

-- it goes on with the last of these links; each page has a number, and there aren't too many links
pub record IsNextFile (links : List (List Page)) (file : NextFile) : Type 0 where
  pub bytes : List ℕ
  pub are_links : AreLinks bytes ((file.begin ++ file.later) ∷ file.further)
  pub unmarked : AreLater file.later
  pub goes_on : GoesOn (last_link links) file.begin file.names
  pub numbers : AllByRecursion IsPage (map (continued (last_link links) file.begin file.names) file.later)
  pub few : length (with_file links file) ≤ most_links

abbrev pub AreNextFiles : List (List Page) → List NextFile → Type 0
AreNextFiles links [] = ⊤
AreNextFiles links (file ∷ files) = IsNextFile links file × AreNextFiles (with_file links file) files

-- ---- what they hold
-- what a file holds: its first link, as it began and as it is, and the links after it
pub record FileRecording : Type 0 where
  pub begun : List Stream
  pub now : List Stream
  pub more : Recording

pub record HoldsFile (file : NextFile) (held : FileRecording) : Type 0 where
  pub begun : HoldsLink file.begin held.begun
  pub links : HoldsLinks ((file.begin ++ file.later) ∷ file.further) (held.now ∷ held.more)

abbrev pub with_recording : Recording → NextFile → FileRecording → Recording
with_recording recording file held = change_last (joined_streams file.names held.begun held.now) recording ++ held.more

abbrev pub with_recordings : Recording → List NextFile → List FileRecording → Recording
with_recordings recording (file ∷ files) (held ∷ more) = with_recordings (with_recording recording file held) files more
with_recordings recording files held = recording
