-- Steps of a hub's recorder, as a live hub answers them.
use Rattle.std.proofs.Common.{◌≡◌, ℕ, None, Result, Ok, Err, IfOk, OnErr, List, [], ◌∷◌, refl, subst}
use Rattle.disk_model.specs.declared.disk.Disk.{Ghosts as DiskModel}
use Rattle.feed_records.specs.declared.item.Record.{Record}
use Rattle.feed_records.specs.declared.item.Record.TheVariants.{Command as CommandOf, Flush as FlushOf}
use Rattle.feed_replies.specs.declared.reply.Reply.{Reply}
use Rattle.ogg_page.specs.declared.fault.WriteFault.{WriteFault}
use Rattle.serve_hub.specs.Running.{Answers, Progress}
use Rattle.serve_machine.specs.Hub.{Event, Flush, Record as Recorded, hub_step}
use Rattle.serve_machine.specs.Run.{session_of}
use Rattle.station_hub.specs.Live.{RecordsLive}
use Rattle.station_hub.specs.LiveLaws.{is_live_in}
use Rattle.station_hub.specs.LiveRunning.{IsLiveIn, LiveAnswers, LiveProgress, live_in}
use Rattle.station_hub.specs.Places.{PlacesState}
use Rattle.station_hub.specs.Tracking.{TracksOn}
use Rattle.station_hub.specs.declared.live_hub.LiveHub.{LiveHub}

-- ---- one call of the runner
module _ {D : Type 0} (model : DiskModel D) where
  recorded : (before after : Progress D) (given : Record) (reply : Reply) (own : List ℕ) → Answers model before given reply own after
      → (event : Event) × hub_step before.machine event after.machine × (session_of event ≡ None)
  recorded before after (CommandOf command) reply own is = (Recorded command is.1.answer, is.1.step, refl)
  recorded before after FlushOf reply own is = (Flush is.1.answer, is.1.step, refl)

  pub by_answer : (old new : LiveHub D) (given : Record) (reply : Reply)
      → ((before : LiveProgress D) → IsLiveIn model before old → (after : LiveProgress D) × LiveAnswers model before given reply [] after × IsLiveIn model after new)
      → RecordsLive model old new
  by_answer old new given reply answered before shown =
      let from : Progress D = record { now = old.hub; machine = before } in
      let (after, answers, is_in) = answered (live_in from old) (is_live_in model from old (refl, shown)) in
      let (event, step, none) = recorded from after.hub given reply [] answers.hub in (
        record { event = event; after = after.hub.machine } ∷ [],
        (step, tt),
        (none, tt),
        is_in.hub.1,
        subst (λ (places : PlacesState). TracksOn before old.places after.hub.machine places) is_in.places answers.tracks,
      )
