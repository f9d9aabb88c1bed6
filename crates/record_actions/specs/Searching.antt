-- What is told of bytes without a page while they come. Ours.
use Rattle.std.specs.Prelude.{ℕ, List, ◌++◌, codes}
use Rattle.std.specs.Fmt.{decimal}
use Rattle.feed_replies.specs.Reply.{line_end}

-- the end of the line, after the number of the bytes: they begin at this offset of the input
abbrev pub from_line : ℕ → List ℕ
from_line offset = codes " bytes from " ++ (decimal offset ++ (codes " on" ++ line_end))

-- so many bytes, from this offset on
abbrev pub searched_line : ℕ → ℕ → List ℕ
searched_line from bytes = codes "no page in the " ++ (decimal bytes ++ from_line from)
