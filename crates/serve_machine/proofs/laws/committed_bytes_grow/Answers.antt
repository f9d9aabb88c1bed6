use Rattle.serve_machine.proofs.Grows.{grows}
use Rattle.serve_machine.proofs.Recorded.{sound_run, has_response}
use Rattle.serve_machine.proofs.laws.committed_bytes_grow.Goals as goal

pub returns : goal.returns
returns c = record {
  grows = grows;
  sound = sound_run c.bytes_are_one_chain.ensures.links c.command_adds_its_packets.ensures.holds;
  answered = λ hub received asked sound asks. has_response hub.committed received asked sound.committed asks;
}
