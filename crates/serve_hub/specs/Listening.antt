-- What the listeners of a hub hear. Ours.
use Rattle.std.specs.Prelude.{◌≡◌, ℕ, List, [], ◌++◌, length, take, min}
use Rattle.disk_model.specs.declared.disk.Disk.{Ghosts as DiskModel}
use Rattle.gate_file.specs.Commit.{CommitsTo}
use Rattle.serve_live.specs.Hearing.{IsHearing}
use Rattle.serve_live.specs.Listening.{ListenerState}
use Rattle.serve_live.specs.Live.{IsLive, Moment}
use Rattle.serve_machine.specs.Hub.{HubState}
use Rattle.serve_machine.specs.Sound.{IsRecorded}
use Rattle.serve_hub.specs.Parts.{HubParts, hub_parts}
use Rattle.serve_hub.specs.Showing.{Shows}

-- the moment of a listener that waits for the next link: all that is committed is passed over
abbrev pub waiting_at : List ℕ → Moment
waiting_at committed = record { place = length committed; begin = []; passed = [] }

-- The next bytes that the listener hears are in the buffer, as many as it holds, or all that are committed. It was
-- given these bytes before.
pub record HearsMore (moment : Moment) (committed given rest : List ℕ) (size count : ℕ) (buffer : List ℕ) (after : ListenerState) : Type 0 where
  pub count_is : count ≡ min (length rest) size
  pub hearing : IsHearing moment committed after (given ++ take count buffer)

-- the file was read, and the index may have been brought up: nothing else is another
abbrev pub OnlyReading : {D : Type 0} → HubParts D → HubParts D → Type 0
OnlyReading old new = new ≡ hub_parts new.file old.lost new.index old.sessions old.next old.most old.room

-- a call that is no step: each machine that the hub was seen as, it is seen as
abbrev pub KeepsMachine : {D : Type 0} → DiskModel D → HubParts D → HubParts D → Type 0
KeepsMachine model old new = (machine : HubState) → Shows model old machine → Shows model new machine

-- The image shows what was heard: its committed bytes hold a recording, and what is heard of them since the moment
-- begins with it.
pub record ShowsHeard (moment : Moment) (given image : List ℕ) : Type 0 where
  pub found : List ℕ
  pub commits : CommitsTo found image
  pub recorded : IsRecorded found
  pub later : List ℕ
  pub live : IsLive moment found (given ++ later)
