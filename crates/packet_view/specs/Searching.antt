-- The search for a stream's next page that has lacing values.
use Rattle.std.specs.Prelude.{◌≡◌, ℕ, ◌<◌, if◌then◌else◌, Option, Some, None, Result, Ok, Err, List, [], ◌∷◌, ◌++◌, length}
use Rattle.ogg_page.specs.Pages.{FoundPage}
use Rattle.ogg_page.specs.Window.{LentAt}
use Rattle.ogg_page.specs.declared.visiting.Visit.{Visit}
use Rattle.ogg_page.specs.declared.visiting.Visit.TheVariants.{GoesOn, Ends}
use Rattle.packet_view.specs.StreamParts.{PartsLeft, no_part, parts_from}
use Rattle.packet_view.specs.Cut.{at_front, parts_then}
use Rattle.packet_view.specs.declared.place.Behind.{Behind}
use Rattle.packet_view.specs.declared.cut.Progress.{Progress}
use Rattle.packet_view.specs.declared.fault.ViewFault.{ViewFault}
use Rattle.packet_view.specs.declared.fault.ViewFault.TheVariants.{Unfinished}
use Rattle.packet_view.specs.declared.reaching.Search.{Search}

-- it was shown no page
abbrev pub start : ℕ → Progress → Search
start serial from =
    record {
      serial = serial;
      behind = from.behind;
      unfinished = from.unfinished;
      found = if from.unfinished then Err Unfinished else Ok None;
    }

-- the parts in what is found from there on
abbrev pub parts_ahead : Search → List FoundPage → PartsLeft
parts_ahead s found = parts_from s.serial s.behind s.unfinished found

-- the same search, when its stream's next page must fit something else
abbrev pub with_behind : Search → Behind → Search
with_behind s behind = record { serial = s.serial; behind = behind; unfinished = s.unfinished; found = s.found }

-- these were found, and no part of the stream is in them
abbrev pub HavePassed : Search → List FoundPage → Search → Type 0
HavePassed old passed new = (new ≡ with_behind old new.behind) × ((found : List FoundPage) →
    parts_ahead old (passed ++ found) ≡ parts_ahead new found)

-- the search ends at this page, of which nothing is read yet, or which is at fault
abbrev pub EndsAt : Search → LentAt → Result (Option Progress) ViewFault → Type 0
EndsAt s at (Ok (Some p)) = (0 < length at.1.lacing) × (p ≡ at_front p.behind s.unfinished) × ((found : List FoundPage) →
    parts_ahead s (Ok at ∷ found) ≡ parts_then s.serial (Some at) p found)
EndsAt s at (Ok None) = ⊥
EndsAt s at (Err fault) = (found : List FoundPage) → parts_ahead s (Ok at ∷ found) ≡ no_part (Some fault)

-- it is shown a page
abbrev pub Passes : Search → LentAt → Visit → Search → Type 0
Passes old at GoesOn new = HavePassed old (Ok at ∷ []) new
Passes old at Ends new = EndsAt old at new.found
