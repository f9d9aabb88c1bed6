use Rattle.std.proofs.Common.{[], sym, append-nil}
use Rattle.gate_file.specs.CommitLaws.{commits_to}
use Rattle.gate_file.proofs.laws.pages_commit_to_themselves.Goals as goal

pub returns : goal.returns
returns c b pages = commits_to b [] b pages (sym (append-nil b)) tt
