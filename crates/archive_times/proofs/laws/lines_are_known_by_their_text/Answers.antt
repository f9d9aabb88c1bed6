use Rattle.archive_times.proofs.Ends.{ends}
use Rattle.archive_times.proofs.Readings.{pieces, same, written}
use Rattle.archive_times.proofs.Texts.{line_short}
use Rattle.archive_times.proofs.laws.lines_are_known_by_their_text.Goals as goal

pub returns : goal.returns
returns c = record { same = same; written = written; pieces = pieces; ends = ends; short = line_short }
