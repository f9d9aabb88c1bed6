-- The results of copying. Ours.
use Rattle.std.specs.Prelude.{◌≡◌, ◌≢◌, ℕ, ◌+◌, ◌^◌, ◌<◌, nat_eq, if◌then◌else◌, Option, Result, Ok, Err, List, [], length}
use Rattle.std.specs.Borrow.{MutBor}
use Rattle.std.specs.Io.KnownBytes.{Appends}
use Rattle.ogg_page.specs.Output.{WritesPrefix}
use Rattle.ogg_page.specs.Page.{Page, page_bytes}
use Rattle.ogg_page.specs.Window.{LentAt}
use Rattle.ogg_page.specs.declared.visiting.Visit.{Visit}
use Rattle.ogg_page.specs.declared.visiting.Visit.TheVariants.{GoesOn, Ends}
use Rattle.ogg_split.specs.declared.fault.SplitFault.{SplitFault}
use Rattle.ogg_split.specs.declared.fault.SplitFault.TheVariants.{NoLink, NoStream}

-- All of the text was written, and the count is its length; or, whatever the fault, a prefix of the text was written.
abbrev pub IsCopy : {E : Type 0} → Option (List ℕ) → Option (List ℕ) → List ℕ → Result ℕ E → Type 0
IsCopy old new text (Ok count) = (count ≡ length text) × Appends old new text
IsCopy old new text (Err fault) = WritesPrefix old new text

-- the page's bytes, if it has the serial
abbrev pub stream_bytes : ℕ → Page → List ℕ
stream_bytes serial page = if nat_eq page.serial serial then page_bytes page else []

-- What becomes of a page whose part is to be written: the part was written as a whole and counted, as far as a count
-- goes; or a prefix of it was written, and the walk ends.
abbrev pub IsPartCopied : Option (List ℕ) → Option (List ℕ) → List ℕ → ℕ → ℕ → Visit → Type 0
IsPartCopied old new part before count GoesOn =
    Appends old new part × (before + length part < 2 ^ 64 → count ≡ before + length part)
IsPartCopied old new part before count Ends = WritesPrefix old new part

-- a visitor that writes parts of pages through a reference: what it sees
pub record CopiesPart {V W : Type 0} (contents : W → Option (List ℕ)) (out : V → MutBor W) (count : V → ℕ) (part : V → Page → List ℕ)
    (old : V) (at : LentAt) (visit : Visit) (new : V) : Type 0 where
  pub same : (out new).ghost_name ≡ (out old).ghost_name
  pub parts : part new ≡ part old
  pub copied : IsPartCopied (contents (out old).now) (contents (out new).now) (part old at.1) (count old) (count new) visit

-- what is asked for is there
pub record IsThere {T : Type 0} (result : Result T SplitFault) : Type 0 where
  pub link : result ≢ Err NoLink
  pub stream : result ≢ Err NoStream
