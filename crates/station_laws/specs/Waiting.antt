-- How long commands wait for their commit, over any calls of a station. Times are milliseconds. Ours.
use Rattle.std.specs.Prelude.{◌≡◌, ◌⊎◌, ◌<◌, ⊤, ℕ, true, false, List, [], ◌∷◌}
use Rattle.disk_model.specs.declared.disk.Disk.{Ghosts as DiskModel}
use Rattle.feed_replies.specs.declared.reply.Reply.{Reply}
use Rattle.serve_hub.specs.Parts.{failed_in}
use Rattle.serve_hub.specs.Showing.{Shows}
use Rattle.serve_machine.specs.Hub.{HubState}
use Rattle.station_hub.specs.Patience.{is_due}
use Rattle.station.specs.Clocks.{KeepsClocks, clocks_of, ended_with_input, since_after}
use Rattle.station.specs.Stepping.{HasFlushed}
use Rattle.station.specs.declared.station.Station.{Station}
use Rattle.station.specs.declared.stepping.Done.TheVariants.{Flushed}
use Rattle.station_laws.specs.Calling.{After, Aside, Call, EndedOpen, Looked, Stepped}

module _ {D : Type 0} (model : DiskModel D) where
  -- what waited was committed, or couldn't be, as the recorder answers a flush
  abbrev pub IsCommitted : Station D → Station D → Type 0
  IsCommitted old new = (reply : Reply) × HasFlushed model (Flushed reply) old.live new.live

  -- A step commits what waits once it is due. What waits has waited since the step that took the first of it.
  pub record StepsInTime (now : ℕ) (old new : Station D) : Type 0 where
    pub since : (machine : HubState) → Shows model old.live.hub machine → failed_in old.live.hub.file ≡ false
        → is_due machine.waiting old.waiting_since now ≡ false → new.waiting_since ≡ since_after machine.waiting old.waiting_since now
    pub due : (machine : HubState) → Shows model old.live.hub machine
        → (failed_in old.live.hub.file ≡ true) ⊎ (is_due machine.waiting old.waiting_since now ≡ true) → new.waiting_since ≡ old.waiting_since
    pub commits : (machine : HubState) → Shows model old.live.hub machine → failed_in old.live.hub.file ≡ false
        → is_due machine.waiting old.waiting_since now ≡ true → IsCommitted old new
    pub rest : (new.options ≡ old.options) × (new.ending ≡ old.ending)

  -- The end of the input may begin the station's end.
  abbrev pub EndsByInput : Station D → Station D → Type 0
  EndsByInput old new =
      (now : ℕ) × (clocks_of new ≡ record (clocks_of old) { ending = ended_with_input old.options.ends_with_input old.ending now })

  -- Any other call leaves all that, but that the ending of what is open may open the file again.
  abbrev pub IsInTime : Call → Station D → Station D → Type 0
  IsInTime (Stepped now) old new = StepsInTime now old new
  IsInTime EndedOpen old new = clocks_of new ≡ record (clocks_of old) { reopened = new.reopened }
  IsInTime Aside old new = KeepsClocks old new ⊎ EndsByInput old new
  IsInTime (Looked now) old new = clocks_of new ≡ record (clocks_of old) { looked = new.looked }
  IsInTime call old new = KeepsClocks old new

  -- each takes the station that the one before it left to the next
  abbrev pub AreInTime : Station D → List (After D) → Type 0
  AreInTime old [] = ⊤
  AreInTime old (one ∷ later) = IsInTime one.call old one.after × AreInTime one.after later

  -- something waits before the call, if it is a step
  abbrev pub WaitsAt : Call → Station D → Type 0
  WaitsAt (Stepped now) old = (machine : HubState) × Shows model old.live.hub machine × (0 < machine.waiting)
  WaitsAt call old = ⊤

  -- so it is before each of these
  abbrev pub WaitsOn : Station D → List (After D) → Type 0
  WaitsOn old [] = ⊤
  WaitsOn old (one ∷ later) = WaitsAt one.call old × WaitsOn one.after later
