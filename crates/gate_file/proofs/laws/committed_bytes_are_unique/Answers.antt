use Rattle.gate_file.specs.CommitLaws.{one_commit}
use Rattle.gate_file.proofs.laws.committed_bytes_are_unique.Goals as goal

pub returns : goal.returns
returns c = one_commit
