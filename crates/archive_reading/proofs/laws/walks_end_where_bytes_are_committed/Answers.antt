use Rattle.archive_reading.proofs.Walks.{walks_end}
use Rattle.archive_reading.proofs.laws.walks_end_where_bytes_are_committed.Goals as goal

pub returns : goal.returns
returns c = walks_end
