-- How far a pull has come among the pages since the moment of joining. Ours.
use Rattle.std.specs.Prelude.{◌≡◌, ℕ, ◌+◌, ◌-◌, ◌≤◌, Bool, ◌||◌, ◌++◌, min, if◌then◌else◌, List, [], length, take, drop}
use Rattle.std.specs.List.{AllByRecursion, list_any}
use Rattle.ogg_page.specs.Page.{Page, IsPage, bytes_of_pages}
use Rattle.ogg_page.specs.LogicalStream.{is_first}
use Rattle.serve_live.specs.Listening.{ArePagesLeft, ListenerState, part_at}
use Rattle.serve_live.specs.declared.names.StreamName.{StreamName}
use Rattle.serve_live.specs.declared.pages.PageLeft.{PageLeft}

-- the streams that aren't heard as they are: none once another link has begun
abbrev pub names_from : List StreamName → Bool → List StreamName
names_from names anew = if anew then [] else names

abbrev pub names_kept : List StreamName → PageLeft → List StreamName
names_kept names left = names_from names left.anew

-- the first bytes of the rest are in the buffer, and this is left
pub record ArePulled (committed rest : List ℕ) (names : List StreamName) (left : PageLeft) (given : ℕ) (buffer : List ℕ) : Type 0 where
  pub some : given ≤ length rest
  pub taken : take given buffer ≡ take given rest
  pub left_is : ArePagesLeft committed (names_kept names left) left.place left.skip (drop given rest)

-- Behind the bytes that were given stand those of the file from this place on, up to the end.
abbrev pub AreRead : List ℕ → ℕ → ℕ → ℕ → List ℕ → Type 0
AreRead bytes place given end buffer = take (end - given) (drop given buffer) ≡ part_at place (end - given) bytes

-- The first bytes of a text and of the pages behind it are in the buffer, as many as go in, and this is left.
pub record GivesBehind (committed : List ℕ) (names : List StreamName) (text pages : List ℕ) (size : ℕ) (buffer : List ℕ) (told heard : ℕ) (after : PageLeft) : Type 0 where
  pub told_is : told ≡ min (length text) size
  pub count : told + heard ≡ min (length (text ++ pages)) size
  pub given : take (told + heard) buffer ≡ take size (text ++ pages)
  pub rest : drop size (text ++ pages) ≡ drop told text ++ drop (size - told) pages
  pub left : ArePagesLeft committed (names_kept names after) after.place after.skip (drop (size - told) pages)

-- Between these two places stand the pages that were heard whole; if another link has begun with one of them, pages are
-- heard as they are from then on.
pub record HasPassed (committed : List ℕ) (left after : PageLeft) : Type 0 where
  pub passed : List Page
  pub are_pages : AllByRecursion IsPage passed
  pub between : drop left.place committed ≡ bytes_of_pages passed ++ drop after.place committed
  pub place : after.place ≡ left.place + length (bytes_of_pages passed)
  pub anew : after.anew ≡ (left.anew || list_any is_first passed)

-- the same of a listener
pub record HasMoved (committed : List ℕ) (old new : ListenerState) : Type 0 where
  pub passed : List Page
  pub are_pages : AllByRecursion IsPage passed
  pub between : drop old.place committed ≡ bytes_of_pages passed ++ drop new.place committed
  pub place : new.place ≡ old.place + length (bytes_of_pages passed)
  pub names : new.names ≡ names_from old.names (list_any is_first passed)

-- Of the bytes that were read the whole pages from the start on were given as they are heard, up to here.
pub record AreGiven (committed more rest : List ℕ) (names : List StreamName) (start left : PageLeft) (given end : ℕ) (buffer : List ℕ) : Type 0 where
  pub pulled : ArePulled committed rest names left given buffer
  pub read : AreRead (committed ++ more) left.place given end buffer
  pub passed : HasPassed committed start left
