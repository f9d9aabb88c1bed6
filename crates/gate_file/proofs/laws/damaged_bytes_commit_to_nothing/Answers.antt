use Rattle.gate_file.specs.CommitLaws.{none_commits}
use Rattle.gate_file.proofs.laws.damaged_bytes_commit_to_nothing.Goals as goal

pub returns : goal.returns
returns c contents offset fault is = none_commits is.pages is.rest contents is.begins is.no_tail
