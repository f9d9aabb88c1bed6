use Rattle.serve_machine.specs.Hub.{phase_of}
use Rattle.serve_machine.proofs.Answered.{connects, receives, pulls, closes, commands, flushes, reopens}
use Rattle.serve_machine.proofs.laws.calls_can_be_answered.Goals as goal

pub returns : goal.returns
returns c = record {
  connect = connects;
  receive = receives;
  pull = λ hub id size. pulls hub id (phase_of hub id) hub.has_file size;
  close = λ hub id. closes hub id (phase_of hub id);
  command = commands c.refusals_are_of_the_table.ensures;
  flush = flushes;
  reopen = reopens;
}
