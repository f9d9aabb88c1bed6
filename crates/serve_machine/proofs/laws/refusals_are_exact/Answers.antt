use Rattle.serve_machine.specs.Hub.{phase_of}
use Rattle.serve_machine.proofs.Exact.{full_exactly, receive_exactly, pull_exactly, close_exactly}
use Rattle.serve_machine.proofs.laws.refusals_are_exact.Goals as goal

pub returns : goal.returns
returns c = record {
  connect = full_exactly;
  receive = λ old new id bytes answer step. receive_exactly old new id (phase_of old id) old.has_file bytes answer step;
  pull = λ old new id size answer step. pull_exactly old new id (phase_of old id) old.has_file size answer step;
  close = λ old new id answer step. close_exactly old new id (phase_of old id) answer step;
}
