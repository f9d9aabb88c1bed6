-- Where a file stood at a time, by its lines of times. Ours.
use Rattle.std.specs.Prelude.{ℕ, ◌+◌, nat_le, nat_lt, max, if◌then◌else◌, List, Option, Some, None}
use Rattle.archive_times.specs.declared.line.Line.{Line}
use Rattle.archive_times.specs.Asked.{line_at}
use Rattle.archive_times.specs.Times.{last_of}
use Rattle.archive_cut.specs.declared.placing.Recorded.{Recorded}
use Rattle.archive_cut.specs.declared.placing.Stand.{Stand}

abbrev pub at_end : Recorded → Stand
at_end file = record { offset = file.committed; join = None }

abbrev pub at_begin : Stand
at_begin = record { offset = 0; join = None }

abbrev pub at_line : Option Line → Stand
at_line None = at_begin
at_line (Some line) = record { offset = line.offset; join = line.join }

-- the time of what follows the last line: when the next file was begun, or now
abbrev pub end_of : Recorded → Option Line → ℕ
end_of file None = max file.later file.begin
end_of file (Some last) = max last.time file.later

-- A second after the time in the next file's name all of the file was committed, and before the time in its own name
-- nothing was, whatever its lines say: names tell seconds.
abbrev pub stood_at : Recorded → List Line → ℕ → Stand
stood_at file lines time =
    if nat_le (file.later + 1000) time then at_end file
    else (if nat_lt time file.begin then at_begin
    else (if nat_le (end_of file (last_of None lines)) time then at_end file else at_line (line_at None lines time)))
