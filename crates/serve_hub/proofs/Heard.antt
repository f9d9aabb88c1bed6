-- What a listener hears, over a hub.
use Rattle.std.proofs.Common.{◌≡◌, ℕ, ◌<◌, Some, Option, Result, List, length, sym, subst}
use Rattle.std.specs.Prelude.{IfOk, min}
use Rattle.disk_model.specs.declared.disk.Disk.{Ghosts as DiskModel}
use Rattle.disk_model.specs.Image.{DiskState}
use Rattle.file_recorder.specs.Recorder.{RecorderState}
use Rattle.serve_live.specs.Hearing.{IsHearing}
use Rattle.serve_live.specs.Listening.{ListenerState}
use Rattle.serve_live.specs.Live.{Moment}
use Rattle.serve_machine.specs.declared.fault.HubFault.{HubFault}
use Rattle.serve_machine.specs.Hub.{HubState}
use Rattle.serve_hub.specs.declared.opening.Lost.{Lost}
use Rattle.serve_hub.specs.Images.{Reads}
use Rattle.serve_hub.specs.Listening.{HearsMore}
use Rattle.serve_hub.specs.Showing.{ShowsFile, ShowsPlace}
use Rattle.serve_hub.proofs.FileRead.{still_shows}

-- what is said of a recorder's bytes, of those of a machine that are the same
pub hears_of : (moment : Moment) (given : List ℕ) (before after : ListenerState) (size : ℕ) (buffer : List ℕ) (result : Result ℕ HubFault) (bytes other : List ℕ) → other ≡ bytes
    → ((hearing : IsHearing moment bytes before given) → IfOk result (λ count. HearsMore moment bytes given hearing.rest size count buffer after))
    → (hearing : IsHearing moment other before given) → IfOk result (λ count. HearsMore moment other given hearing.rest size count buffer after)
hears_of moment given before after size buffer result bytes other is said =
    subst (λ (l : List ℕ). (hearing : IsHearing moment l before given) → IfOk result (λ count. HearsMore moment l given hearing.rest size count buffer after)) (sym is) said

pub cause_of : (moment : Moment) (given : List ℕ) (before : ListenerState) (size : ℕ) (C : Type 0) (bytes other : List ℕ) → other ≡ bytes
    → ((hearing : IsHearing moment bytes before given) → C × (0 < min (length hearing.rest) size))
    → (hearing : IsHearing moment other before given) → C × (0 < min (length hearing.rest) size)
cause_of moment given before size C bytes other is said =
    subst (λ (l : List ℕ). (hearing : IsHearing moment l before given) → C × (0 < min (length hearing.rest) size)) (sym is) said

module _ {D : Type 0} (model : DiskModel D) where
  -- the place of a hub with a file
  pub place_file : (file : Option (RecorderState D)) (r : RecorderState D) (lost : Option (Lost D)) (m : HubState) → file ≡ Some r → ShowsPlace model file lost m
      → ShowsFile model r m
  place_file file r lost m e s = subst (λ (o : Option (RecorderState D)). ShowsPlace model o lost m) e s

  pub read_shows : (old new : RecorderState D) (m : HubState) → ShowsFile model old m → Reads model old new → ShowsFile model new m
  read_shows old new m s reads = still_shows model old new m m.sessions s (reads.only.honest.0 s.honest) (reads.only.same s.honest) reads.same
