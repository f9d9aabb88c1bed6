-- The listing of a file, line by line. Ours.
use Rattle.std.specs.Prelude.{ℕ, ◌+◌, Bool, true, false, List, [], ◌∷◌, ◌++◌, codes}
use Rattle.std.specs.List.{flat_map}
use Rattle.std.specs.Fmt.{decimal}
use Rattle.link_index.specs.Index.{LinkEntry}
use Rattle.link_index.specs.declared.info.LinkInfo.{LinkInfo}
use Rattle.link_index.specs.declared.info.StreamInfo.{StreamInfo}

-- a line feed
abbrev pub line_end : List ℕ
line_end = 10 ∷ []

-- how far the committed bytes go
abbrev pub committed_line : ℕ → List ℕ
committed_line end = codes "committed " ++ (decimal end ++ line_end)

-- a link's number, counted from 0, the offset at which it begins, its length, how many streams it has
abbrev pub link_line : ℕ → LinkInfo → List ℕ
link_line number info =
    codes "link "
    ++ (decimal number
    ++ (codes " " ++ (decimal info.start ++ (codes " " ++ (decimal info.length ++ (codes " " ++ (decimal info.streams ++ line_end)))))))

abbrev pub state_word : Bool → List ℕ
state_word true = codes "ended"
state_word false = codes "open"

-- a stream's serial, bytes and pages, and whether it has ended
abbrev pub stream_line : StreamInfo → List ℕ
stream_line info =
    codes "stream "
    ++ (decimal info.serial
    ++ (codes " " ++ (decimal info.bytes ++ (codes " " ++ (decimal info.pages ++ (codes " " ++ (state_word info.ended ++ line_end)))))))

-- the lines of one link
abbrev pub entry_lines : ℕ → LinkEntry → List ℕ
entry_lines number entry = link_line number entry.info ++ flat_map stream_line entry.streams

-- each link, numbered from here on, is followed by its streams
abbrev pub lines_from : ℕ → List LinkEntry → List ℕ
lines_from number [] = []
lines_from number (entry ∷ entries) = entry_lines number entry ++ lines_from (number + 1) entries

-- the listing of a file whose committed bytes end here and have this index
abbrev pub listing : ℕ → List LinkEntry → List ℕ
listing end entries = committed_line end ++ lines_from 0 entries
