-- What may be asked for out of a file by its index: a link, or one of its streams (RFC 3533, section 4).
use Rattle.std.specs.Prelude.{◌≡◌, ◌≤◌, ℕ, Bool, false, nat_eq, Some, List, ◌++◌, length, slice_get}
use Rattle.std.specs.List.{list_any, AllByRecursion}
use Rattle.ogg_page.specs.Page.{Page, IsPage, bytes_of_pages}
use Rattle.link_chain.specs.Links.{AreLinks}
use Rattle.link_index.specs.Adding.{IndexState, IsIndexOf}
use Rattle.link_index.specs.Index.{LinkEntry}
use Rattle.link_index.specs.declared.info.LinkInfo.{LinkInfo}
use Rattle.ogg_split.specs.declared.fault.SplitFault.{SplitFault}
use Rattle.ogg_split.specs.declared.fault.SplitFault.TheVariants.{NoLink, NoStream, Source, Write}
use Rattle.link_index.specs.declared.info.StreamInfo.{StreamInfo}

-- The bytes begin with these links, and the index is that of the links.
pub record AreIndexed (links : List (List Page)) (index : IndexState) (bytes : List ℕ) : Type 0 where
  pub front : List ℕ
  pub rest : List ℕ
  pub joined : bytes ≡ front ++ rest
  pub are_links : AreLinks front links
  pub is_index : IsIndexOf links index

-- one of these streams has this serial
abbrev pub has_serial : List StreamInfo → ℕ → Bool
has_serial streams serial = list_any (λ (info : StreamInfo). nat_eq serial info.serial) streams

-- the link with this number has no stream with this serial
abbrev pub LacksStream : List LinkEntry → ℕ → ℕ → Type 0
LacksStream entries link serial = (entry : LinkEntry) × (slice_get entries link ≡ Some entry) × (has_serial entry.streams serial ≡ false)

-- why what is asked for isn't there: there is no such link, or the link has no such stream
abbrev pub IsMissing : List LinkEntry → ℕ → ℕ → SplitFault → Type 0
IsMissing entries link serial NoLink = length entries ≤ link
IsMissing entries link serial NoStream = LacksStream entries link serial
IsMissing entries link serial Source = ⊥
IsMissing entries link serial Write = ⊥

-- In these bytes the link has these pages.
pub record StandsIn (bytes : List ℕ) (link : LinkInfo) (pages : List Page) : Type 0 where
  pub before : List ℕ
  pub behind : List ℕ
  pub joined : bytes ≡ before ++ (bytes_of_pages pages ++ behind)
  pub start : link.start ≡ length before
  pub whole : link.length ≡ length (bytes_of_pages pages)
  pub are_pages : AllByRecursion IsPage pages
