-- What becomes of a connection that fetches something. Ours.
use Rattle.std.specs.Prelude.{◌≡◌, ◌⊎◌, ◌&&◌, ℕ, Bool, true, false, List}
use Rattle.serve_clients.specs.Client.{ClientState, LacksRoom, cut_for_memory, told, with_line, with_stage}
use Rattle.serve_clients.specs.Line.{read_failed_by}
use Rattle.serve_clients.specs.declared.client.Stage.{Stage}
use Rattle.serve_clients.specs.declared.client.Stage.TheVariants.{Closing, Cut, Hearing}
use Rattle.serve_clients.specs.declared.line.Trouble.TheVariants.{Blocked}

-- bytes follow what it has still to get; or there was no room for them, and it is cut
pub record IsSupplied (bytes : List ℕ) (old new : ClientState) : Type 0 where
  pub becomes : (new ≡ told new.room bytes old) ⊎ (LacksRoom bytes old × (new ≡ cut_for_memory old))

-- its peer sends no more: an answer that has an end goes on, one that has none is cut, and one that has been sent
abbrev pub stage_alone : Stage → Stage
stage_alone Hearing = Cut
stage_alone Closing = Cut
stage_alone stage = stage

abbrev pub without_peer : ClientState → ClientState
without_peer client = with_stage (stage_alone client.stage) (with_line (read_failed_by Blocked client.line) client)

-- who isn't cut may have bytes, which are passed over
abbrev pub is_open : Stage → Bool
is_open Cut = false
is_open stage = true

abbrev pub is_read : ClientState → Bool
is_read client = client.line.readable && is_open client.stage
