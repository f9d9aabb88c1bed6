-- What becomes of a page in a finished cut, and what its head says of that. Ours.
use Rattle.std.specs.Prelude.{List, [], ◌∷◌, Option, Some, None}
use Rattle.ogg_page.specs.Page.{Page}
use Rattle.ogg_finish.specs.Finishing.{marked_last}
use Rattle.ogg_finish.specs.declared.stream_end.Mark.{Mark as PlainMark}
use Rattle.archive_cut.specs.declared.finishing.Mark.{Mark}
use Rattle.archive_cut.specs.declared.finishing.Way.{Way}
use Rattle.archive_cut.specs.declared.finishing.Way.TheVariants.{Stays, Marked, Goes}

-- a mark, without what is counted behind it
abbrev pub plain : Option Mark → Option PlainMark
plain None = None
plain (Some mark) = Some (record { sequence = mark.sequence; position = mark.position })

-- the pages that a page becomes
abbrev pub pages_by : Way → Page → List Page
pages_by Stays page = page ∷ []
pages_by Marked page = marked_last page ∷ []
pages_by Goes page = []
