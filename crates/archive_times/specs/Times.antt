-- Lines of times: what is known of when the bytes of a file were committed. Ours.
use Rattle.std.specs.Prelude.{◌≡◌, ◌≢◌, ℕ, ◌^◌, ◌<◌, ◌≤◌, Bool, not, ◌==◌, List, [], ◌∷◌, ◌++◌, ⊤, codes, Option, Some, None, if◌then◌else◌}
use Rattle.std.specs.Fmt.{decimal}
use Rattle.std.specs.List.{list_all}
use Rattle.archive_times.specs.declared.line.Join.{Join}
use Rattle.archive_times.specs.declared.line.Line.{Line}

-- where the open link begins and where its Begin ends, or two dashes if no link is open; then a line feed
abbrev pub join_text : Option Join → List ℕ
join_text None = codes "- -" ++ 10 ∷ []
join_text (Some join) = decimal join.begin ++ (codes " " ++ (decimal join.begun ++ 10 ∷ []))

-- the text of a line, its numbers in decimal without leading zeros
abbrev pub line_text : Line → List ℕ
line_text line = decimal line.offset ++ (codes " " ++ (decimal line.time ++ (codes " " ++ join_text line.join)))

abbrev pub times_text : List Line → List ℕ
times_text [] = []
times_text (line ∷ lines) = line_text line ++ times_text lines

abbrev pub has_no_line_feed : List ℕ → Bool
has_no_line_feed text = list_all (λ byte. not (byte == 10)) text

-- what follows the first line feed
abbrev pub behind_feed : List ℕ → List ℕ
behind_feed [] = []
behind_feed (byte ∷ text) = if byte == 10 then text else behind_feed text

-- a link that is open begins no later than its Begin ends, and that is committed
abbrev pub IsJoin : ℕ → Option Join → Type 0
IsJoin offset None = ⊤
IsJoin offset (Some join) = (join.begin ≤ join.begun) × (join.begun ≤ offset)

-- a line that speaks of at most this many bytes
abbrev pub IsLine : ℕ → Line → Type 0
IsLine committed line = (line.offset ≤ committed) × (line.time < 2 ^ 64) × IsJoin line.offset line.join

-- offsets rise, and times don't fall
abbrev pub Follows : Option Line → Line → Type 0
Follows None line = ⊤
Follows (Some last) line = (last.offset < line.offset) × (last.time ≤ line.time)

-- a line that may come next
abbrev pub IsNext : ℕ → Option Line → Line → Type 0
IsNext committed last line = Follows last line × IsLine committed line

-- lines that may come next in turn
abbrev pub AreTimes : ℕ → Option Line → List Line → Type 0
AreTimes committed last [] = ⊤
AreTimes committed last (line ∷ lines) = IsNext committed last line × AreTimes committed (Some line) lines

abbrev pub last_of : Option Line → List Line → Option Line
last_of last [] = last
last_of last (line ∷ lines) = last_of (Some line) lines

-- The lines at the front of a text: the text begins with them, and no line that may come next follows.
pub record AreLinesOf (committed : ℕ) (last : Option Line) (text : List ℕ) (lines : List Line) (rest : List ℕ) : Type 0 where
  pub text_is : text ≡ times_text lines ++ rest
  pub lines_are : AreTimes committed last lines
  pub ended : (line : Line) (after : List ℕ) → IsNext committed (last_of last lines) line → rest ≢ line_text line ++ after
