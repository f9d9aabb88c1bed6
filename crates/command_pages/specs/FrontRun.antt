-- The run at the front of a put's entries. Ours.
use Rattle.std.specs.Prelude.{◌≡◌, ℕ, ◌<◌, List, ◌∷◌, ◌++◌, length, map}
use Rattle.packetiser.specs.Run.{pages_for, run_lacing}
use Rattle.ogg_command.specs.declared.command.Entry.{Entry}
use Rattle.command_pages.specs.Encoding.{timed, runs_of}

-- the first run of these entries, and the entries after it
pub record IsFrontRun (entries run rest : List Entry) : Type 0 where
  pub first : runs_of entries ≡ run ∷ runs_of rest
  pub some : 0 < length run
  pub whole : entries ≡ run ++ rest

-- how many pages a run has
abbrev pub page_count : List Entry → ℕ
page_count run = pages_for (length (run_lacing (map timed run)))
