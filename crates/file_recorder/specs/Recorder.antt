-- What a `Recorder` shows, and where it stands in the history of its file. Ours.
use Rattle.std.specs.Prelude.{◌≡◌, ℕ, ◌+◌, ◌<◌, ◌≤◌, ◌^◌, true, false, not, List, [], ◌++◌, length}
use Rattle.std.specs.List.{fold}
use Rattle.disk_model.specs.declared.disk.Disk.{Ghosts as DiskModel}
use Rattle.disk_model.specs.Image.{DiskState}
use Rattle.gate_file.specs.Commit.{CommitsTo}
use Rattle.gate_file.specs.Gate.{EachImage}
use Rattle.gate_file.specs.GateFile as G
use Rattle.gate_file.specs.GateFile.{GateState, gate_state}
use Rattle.link_chain.specs.ChainState.{ChainState, chain_state_of}
use Rattle.link_chain.specs.Recording.{Recording, Holds}
use Rattle.chain_rules.specs.Recording.{add}
use Rattle.ogg_command.specs.declared.command.Command.{Command}
use Rattle.history.specs.World.{World, Step, now_in}
use Rattle.history.specs.History.{IsStep}
use Rattle.file_recorder.specs.Recovery.{Shows, Accepts}
use Rattle.file_recorder.specs.Taking.{HoldsChain, IsWholeChain}

-- Its file, and the chain of all links, with those of the commands that wait. Then how many bytes followed the
-- committed ones when the file was opened, how many commands were kept since then, how many wait, and how many
-- share a commit.
pub record RecorderState (D : Type 0) : Type 0 where
  pub file : GateState D
  pub chain : ChainState
  pub tail : ℕ
  pub kept : ℕ
  pub held : ℕ
  pub most : ℕ

abbrev pub recorder_state : {D : Type 0} → GateState D → ChainState → ℕ → ℕ → ℕ → ℕ → RecorderState D
recorder_state file chain tail kept held most =
    record { file = file; chain = chain; tail = tail; kept = kept; held = held; most = most }

-- the same recorder over a disk that was read
abbrev pub over_disk : {D : Type 0} → D → RecorderState D → RecorderState D
over_disk disk recorder = record recorder { file = record recorder.file { disk = disk } }

-- the committed bytes, and those of the commands that wait
abbrev pub committed : {D : Type 0} → (D → DiskState) → RecorderState D → List ℕ
committed state recorder = G.committed state recorder.file

abbrev pub staged : {D : Type 0} → (D → DiskState) → RecorderState D → List ℕ
staged state recorder = G.staged_bytes state recorder.file

-- a recorder that is only read: it knows no streams, and takes no command
abbrev pub to_read : {D : Type 0} → D → ℕ → RecorderState D
to_read disk end = recorder_state (gate_state disk end 0 false true) (chain_state_of []) 0 0 0 1

-- What always holds.
pub record IsRecorder {D : Type 0} (model : DiskModel D) (recorder : RecorderState D) : Type 0 where
  pub few : recorder.held < recorder.most
  -- each command has at least one byte
  pub count : recorder.kept + recorder.held ≤ recorder.chain.length_of
  pub fits : recorder.kept + recorder.held < 2 ^ 63
  pub chain : IsWholeChain recorder.chain
  -- after a fault nothing waits
  pub none : recorder.file.failed ≡ true → recorder.held ≡ 0
  pub empty : recorder.file.failed ≡ false → recorder.held ≡ 0 → recorder.file.staged ≡ 0
  pub whole : recorder.file.failed ≡ false → 0 < recorder.held → recorder.file.whole ≡ true
  pub all : recorder.file.failed ≡ false → model.is_honest recorder.file.disk → HoldsChain (committed model.state recorder ++ staged model.state recorder) recorder.chain
  pub images : recorder.file.failed ≡ false → model.is_honest recorder.file.disk → EachImage (model.state recorder.file.disk) (CommitsTo (committed model.state recorder))

-- In a history that began when every image showed `first`, the recorder stands in this world. The committed bytes
-- hold the acknowledged commands, and the staged ones add those that wait. While the recorder hasn't failed nothing
-- is in doubt.
pub record IsIn {D : Type 0} (model : DiskModel D) (first : Recording) (w : World Command) (recorder : RecorderState D) : Type 0 where
  pub failed : recorder.file.failed ≡ not w.is_open
  pub none : w.is_open ≡ true → w.in_doubt ≡ []
  pub count : w.is_open ≡ true → length w.held ≡ recorder.held
  pub kept : model.is_honest recorder.file.disk → Holds (committed model.state recorder) (now_in add first w)
  pub all : w.is_open ≡ true → model.is_honest recorder.file.disk
      → Holds (committed model.state recorder ++ staged model.state recorder) (fold add (now_in add first w) w.held)

-- a step of the history that began when every image showed `first`, of what recorders record
abbrev pub IsRecorderStep : {D : Type 0} → DiskModel D → Recording → World Command → Step Command → D → D → Type 0
IsRecorderStep model first w step old new = IsStep model Shows Accepts add first w step old new
