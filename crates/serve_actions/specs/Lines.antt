-- The lines of a station, each with its line feed: where it can be reached, and those of its log that tell of its
-- sources. Ours.
use Rattle.std.specs.Prelude.{List, ℕ, ◌++◌, codes, decimal}
use Rattle.feed_replies.specs.Reply.{line_end}
use Rattle.serve_actions.specs.declared.lines.SourceCounts.{SourceCounts}

-- it can be reached at this address
abbrev pub serving_line : List ℕ → List ℕ
serving_line address = codes "serving http://" ++ (address ++ (codes "/" ++ line_end))

-- a source begins, from this address
abbrev pub begin_line : ℕ → List ℕ → List ℕ
begin_line number address =
    codes "source " ++ (decimal number ++ (codes " " ++ (address ++ (codes " begins" ++ line_end))))

-- a source was turned away, from this address: no page came of it
abbrev pub foreign_line : List ℕ → List ℕ
foreign_line address = codes "fault archive 4 NoPage: " ++ (address ++ (codes " sends no Ogg" ++ line_end))

-- a source has ended: how many links and packets it had, and how often something of it was mended
abbrev pub end_line : SourceCounts → List ℕ
end_line source =
    codes "source " ++ (decimal source.number ++ (codes " ends " ++ (decimal source.links ++ (codes " "
    ++ (decimal source.packets ++ (codes " " ++ (decimal source.mends ++ line_end)))))))
