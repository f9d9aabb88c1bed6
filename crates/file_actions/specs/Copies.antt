-- What `split` and `finish` write of a file. Ours.
use Rattle.std.specs.Prelude.{ℕ, Option, None, Some, Result, Ok, Err, List, ⊤}
use Rattle.std.specs.Io.KnownBytes.{Appends}
use Rattle.fault_lines.specs.declared.fault.Fault.{Fault}
use Rattle.link_chain.specs.Links.{pages_with}
use Rattle.link_index.specs.Index.{LinkEntry}
use Rattle.ogg_page.specs.Output.{WritesPrefix}
use Rattle.ogg_page.specs.Page.{Page}
use Rattle.ogg_split.specs.Asked.{LacksStream}

-- the pages of a link that are asked for: all of them, or those of one of its streams
abbrev pub pages_asked : Option ℕ → List Page → List Page
pages_asked None pages = pages
pages_asked (Some serial) pages = pages_with serial pages

-- a stream is asked for that the link with this number doesn't have
abbrev pub LacksAsked : List LinkEntry → ℕ → Option ℕ → Type 0
LacksAsked entries link None = ⊥
LacksAsked entries link (Some serial) = LacksStream entries link serial

-- all of the text was written; or, whatever the fault, a prefix of it was
abbrev pub IsWritten : Option (List ℕ) → Option (List ℕ) → List ℕ → Result ⊤ Fault → Type 0
IsWritten old new text (Ok done) = Appends old new text
IsWritten old new text (Err fault) = WritesPrefix old new text
