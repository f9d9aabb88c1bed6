-- A file in which nothing is left to be done. Ours.
use Rattle.std.specs.Prelude.{◌≡◌, false}
use Rattle.file_recorder.specs.Recorder.{RecorderState}
use Rattle.link_chain.specs.ChainState.{is_open}

pub record IsAtRest {D : Type 0} (recorder : RecorderState D) : Type 0 where
  -- each stream has ended
  pub ended : is_open recorder.chain ≡ false
  -- all that was accepted is kept
  pub kept : recorder.held ≡ 0
  pub works : recorder.file.failed ≡ false
