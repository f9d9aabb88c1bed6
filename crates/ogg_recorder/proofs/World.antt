-- What steps of a run acknowledge, and what its disk shows at the end.
use Rattle.std.proofs.Common.{◌≡◌, inl, ℕ, false, List, [], ◌∷◌, ◌++◌, sym, ap, ◌∙◌, subst, append_assoc}
use Rattle.std.proofs.lemmas.List.{append-nil}
use Rattle.disk_model.specs.declared.disk.Disk.{Ghosts as DiskModel}
use Rattle.disk_model.specs.Leaving.{LeavesOnly}
use Rattle.feed_records.specs.declared.item.Record.{Record}
use Rattle.feed_replies.specs.declared.reply.Reply.{Reply}
use Rattle.gate_file.specs.Commit.{CommitsTo}
use Rattle.gate_file.specs.Gate.{EachImage}
use Rattle.link_chain.specs.Recording.{Recording, Holds}
use Rattle.feed_runner.specs.Answering.{AnswersAll}
use Rattle.feed_runner.specs.Counting.{kept_after}
use Rattle.chain_rules.specs.Commands.{bytes_of_commands}
use Rattle.chain_rules.specs.Recording.{add}
use Rattle.ogg_command.specs.declared.command.Command.{Command}
use Rattle.history.specs.Showing.{ShowsOnly}
use Rattle.history.specs.World.{World, Step, Held, Kept, Flushed, Refused, Faulted, happens, run, disk_after, acknowledged, now_in}
use Rattle.history.specs.History.{StandsIn, AreSteps}
use Rattle.history.specs.Recovery.{recovers_only}
use Rattle.history.specs.Runs.{ShowsSome, AreCommands, accepted}
use Rattle.file_recorder.specs.Recovery.{Links, Commits, Shows, Accepts}
use Rattle.file_recorder.specs.Recorder.{RecorderState, committed, IsRecorderStep}
use Rattle.file_recorder.specs.Running.{Progress, Answers}
use Rattle.ogg_recorder.specs.Recorded.{answered, HasRecorded}
use Rattle.file_recorder.specs.Steps.{HasWaiting, HasSteps, Stands}
use Rattle.ogg_recorder.proofs.Ended.{All}

acknowledges : {D : Type 0} (w : World Command) (steps : List (Step Command × D)) → AreCommands steps → (run w steps).acknowledged ≡ w.acknowledged ++ acknowledged w steps
acknowledges w [] are = sym (append-nil w.acknowledged)
acknowledges w ((Held c, disk) ∷ steps) are = acknowledges (happens w (Held c)) steps are
acknowledges w ((Kept c, disk) ∷ steps) are =
    acknowledges (happens w (Kept c)) steps are ∙ append_assoc w.acknowledged (w.held ++ c ∷ []) (acknowledged (happens w (Kept c)) steps)
acknowledges w ((Flushed, disk) ∷ steps) are = acknowledges (happens w Flushed) steps are ∙ append_assoc w.acknowledged w.held (acknowledged (happens w Flushed) steps)
acknowledges w ((Refused c, disk) ∷ steps) are = acknowledges w steps are
acknowledges w ((Faulted call, disk) ∷ steps) are = acknowledges (happens w (Faulted call)) steps are.1
acknowledges w ((step, disk) ∷ steps) are = absurd are

module _ {D : Type 0} (model : DiskModel D) where
  abbrev pub Are : Recording → World Command → D → List (Step Command × D) → Type 0
  Are first w disk steps = AreSteps model Shows Accepts add first w disk steps

  -- the laws of histories
  abbrev pub ShowsFirstOnes : Type 0
  ShowsFirstOnes = (first : Recording) (w : World Command) (disk : D) (steps : List (Step Command × D)) → model.is_honest disk → ShowsOnly Shows (model.state disk) (now_in add first w)
      → Are first w disk steps → AreCommands steps
      → LeavesOnly model disk (disk_after disk steps) (ShowsSome Shows add first (w.acknowledged ++ w.held ++ accepted steps))

  abbrev pub StandsAfter : Type 0
  StandsAfter = (first : Recording) (w : World Command) (step : Step Command) (old new : D) → StandsIn Shows add first w (model.state old)
      → IsRecorderStep model first w step old new → StandsIn Shows add first (happens w step) (model.state new)

  -- the laws of records: `records_are_steps`
  abbrev pub AreStepsInTurn : Type 0
  AreStepsInTurn = (before after : Progress D) (records : List Record) (replies : List Reply) (bytes : List ℕ) → AnswersAll (Answers model) before records replies bytes after → HasSteps model before after records replies

  abbrev pub GrowInTurn : Type 0
  GrowInTurn = (before after : Progress D) (records : List Record) (replies : List Reply) (bytes : List ℕ) → AnswersAll (Answers model) before records replies bytes after
      → model.is_honest before.now.file.disk → (links : Links) (waiting : List Command) → HasWaiting model.state links waiting before.now
      → committed model.state after.now ≡ committed model.state before.now ++ bytes_of_commands links (kept_after waiting records replies)

  stands_after : StandsAfter → (first : Recording) (w : World Command) (disk : D) (steps : List (Step Command × D)) → StandsIn Shows add first w (model.state disk) → Are first w disk steps
      → StandsIn Shows add first (run w steps) (model.state (disk_after disk steps))
  stands_after law first w disk [] stands are = stands
  stands_after law first w disk ((step, new) ∷ steps) stands are = stands_after law first (happens w step) new steps (law first w step disk new stands are.0) are.1

  -- while the recorder hasn't failed each image commits to its committed bytes
  abbrev pub Commit : RecorderState D → Type 0
  Commit recorder = recorder.file.failed ≡ false → model.is_honest recorder.file.disk → EachImage (model.state recorder.file.disk) (CommitsTo (committed model.state recorder))

  -- so it shows what is acknowledged
  shows_only : (before : Progress D) → Commit before.now → Stands model before → before.now.file.failed ≡ false
      → ShowsOnly Shows (model.state before.now.file.disk) (now_in add before.first before.world)
  shows_only before images (honest, is_in) good =
      recovers_only Commits Holds (model.state before.now.file.disk) (committed model.state before.now) (now_in add before.first before.world) (is_in.kept honest) (images good honest)

  -- what records have recorded that were answered in turn
  pub has_recorded : ShowsFirstOnes → StandsAfter → AreStepsInTurn → GrowInTurn → (before after : Progress D) (records : List Record) (replies : List Reply) → Commit before.now
      → All (Answers model) before records replies after → HasRecorded model before after (answered records replies)
  has_recorded law later steps grows before after records replies images (bytes, all) =
      let are = steps before after records replies bytes all in
      let w : World Command = before.world in
      let disk : D = before.now.file.disk in
      let Some : List Command → List ℕ → Type 0 = λ all image. ShowsSome Shows add before.first all image in
      record {
        grows = grows before after records replies bytes all;
        same = are.same;
        keeps = ap (λ (v : World Command). v.acknowledged) (sym are.leads) ∙ acknowledges w are.steps are.are_commands ∙ ap (λ (l : List Command). w.acknowledged ++ l) are.keeps;
        stands = are.stands;
        any_moment = λ stands good.
            subst (λ (l : List Command). LeavesOnly model disk after.now.file.disk (Some (w.acknowledged ++ w.held ++ l))) are.accepts
            (subst (λ (d : D). LeavesOnly model disk d (Some (w.acknowledged ++ w.held ++ accepted are.steps))) are.ends
            (law before.first w disk are.steps stands.0 (shows_only before images stands good) (are.are stands) are.are_commands));
        at_end = λ stands good.
            subst (λ (first : Recording). StandsIn Shows add first after.world (model.state after.now.file.disk)) (sym are.same)
            (subst (λ (v : World Command). StandsIn Shows add before.first v (model.state after.now.file.disk)) are.leads
            (subst (λ (d : D). StandsIn Shows add before.first (run w are.steps) (model.state d)) are.ends
            (stands_after later before.first w disk are.steps (λ image is. inl (shows_only before images stands good image is)) (are.are stands))));
      }
