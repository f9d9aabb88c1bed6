-- What becomes of a line. Ours.
use Rattle.std.specs.Prelude.{ℕ, ◌+◌, nat_le, if◌then◌else◌, ◌==◌, Option, Some, None, Result, Ok, Err, List, [], ◌∷◌, length, take, drop, position, codes, ◌++◌}
use Rattle.std.specs.Fmt.{decimal}
use Rattle.std.specs.Str.{bytes_eq}
use Rattle.ogg_command.specs.declared.command.Entry.{Entry}
use Rattle.line_packets.specs.Lines.{longest}
use Rattle.line_packets.specs.declared.streams.Streams.{Streams}
use Rattle.line_packets.specs.declared.placing.LeftOut.{LeftOut}
use Rattle.line_packets.specs.declared.placing.LeftOut.TheVariants.{TooLong, NoStream}

-- the place of the name, if the first of these names has this one
abbrev pub named_from : ℕ → List ℕ → List (List ℕ) → Option ℕ
named_from place name [] = None
named_from place name (other ∷ names) = if bytes_eq other name then Some place else named_from (place + 1) name names

-- the stream's serial, and the packet
abbrev pub numbered : List ℕ → Option ℕ → Result (ℕ × List ℕ) LeftOut
numbered packet None = Err NoStream
numbered packet (Some place) = Ok (place + 1, packet)

-- what stands before the first tab is the stream's name, and what follows it the packet
abbrev pub tagged : List (List ℕ) → List ℕ → Option ℕ → Result (ℕ × List ℕ) LeftOut
tagged names line None = Err NoStream
tagged names line (Some tab) = numbered (drop (tab + 1) line) (named_from 0 (take tab line) names)

-- the stream that a line goes to, by its serial, and the packet that it becomes
abbrev pub placed : Streams → List ℕ → Result (ℕ × List ℕ) LeftOut
placed streams line = if streams.tagged then tagged streams.names line (position (λ byte. byte == 9) line) else Ok (1, line)

-- the same of any line
abbrev pub sorted : Streams → List ℕ → Result (ℕ × List ℕ) LeftOut
sorted streams line = if nat_le (length line) longest then placed streams line else Err TooLong

abbrev pub entries_by : ℕ → Result (ℕ × List ℕ) LeftOut → List Entry
entries_by position (Ok (serial, packet)) = record { serial = serial; position = position; packet = packet } ∷ []
entries_by position (Err left) = []

-- a line's entry, if it has one
abbrev pub entries_of : Streams → ℕ → List ℕ → List Entry
entries_of streams position line = entries_by position (sorted streams line)

abbrev pub left_by : Result (ℕ × List ℕ) LeftOut → Option LeftOut
left_by (Ok placed) = None
left_by (Err left) = Some left

-- why a line is left out, if it is
abbrev pub left_of : Streams → List ℕ → Option LeftOut
left_of streams line = left_by (sorted streams line)

abbrev pub why_text : LeftOut → List ℕ
why_text TooLong = codes " TooLong"
why_text NoStream = codes " NoStream"

-- the line that tells that the line with this number is left out
abbrev pub left_line : ℕ → LeftOut → List ℕ
left_line number left = codes "left out " ++ (decimal number ++ (why_text left ++ 10 ∷ []))
