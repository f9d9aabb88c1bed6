-- A hub whose file is only read. Ours.
use Rattle.std.specs.Prelude.{ℕ, ◌+◌, true, [], Some}
use Rattle.file_recorder.specs.Recorder.{RecorderState}
use Rattle.serve_machine.specs.Hub.{HubState}

-- the same machine, as one whose group in doubt has no bytes: no command is taken any more
abbrev pub only_read : {D : Type 0} → RecorderState D → HubState → HubState
only_read recorder machine = record machine {
  held = [];
  waiting = recorder.held;
  most = recorder.most;
  count = recorder.kept + recorder.held;
  in_doubt = Some [];
  has_file = true;
}
