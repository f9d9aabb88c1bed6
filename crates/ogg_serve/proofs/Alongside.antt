-- No session sees a step of the feed.
use Rattle.std.proofs.Common.{◌≡◌, ℕ, Bool, true, false, Option, Some, None, Result, Ok, Err, List, [], ◌∷◌, refl, sym, ◌∙◌, subst, inl, inr}
use Rattle.std.specs.Prelude.{⊤}
use Rattle.std.specs.List.{AllByRecursion}
use Rattle.disk_model.specs.declared.disk.Disk.{Ghosts as DiskModel}
use Rattle.disk_model.specs.Image.{DiskState}
use Rattle.feed_replies.specs.declared.fault.RunFault.{RunFault}
use Rattle.feed_replies.specs.declared.fault.RunFault.TheVariants.{Feed, Write, TooMany}
use Rattle.feed_records.specs.declared.item.Record.{Record as RecordOf}
use Rattle.feed_records.specs.declared.item.Record.TheVariants.{Command as CommandOf, Flush as FlushOf}
use Rattle.feed_replies.specs.declared.reply.Reply.{Reply}
use Rattle.feed_records.specs.declared.version.Version.{Version}
use Rattle.feed_run.specs.Run.{Streams, RunState, Steps, StopsBy, StopsAt}
use Rattle.gate_file.specs.declared.fault.OpenFault.{OpenFault}
use Rattle.serve_hub.specs.Running.{Progress, Answers, waiting_in}
use Rattle.serve_machine.specs.Hub.{HubState, Event, Record, Flush, Reopen, hub_step}
use Rattle.serve_machine.specs.Calls.{found_by}
use Rattle.serve_machine.specs.Run.{Step, AreSteps, session_of}
use Rattle.serve_machine.specs.Sound.{Extends}
use Rattle.ogg_serve.specs.declared.feeding.Step.{Step as FeedStep}
use Rattle.ogg_serve.specs.declared.feeding.Step.TheVariants.{Done, End, Lost}
use Rattle.ogg_serve.specs.Feeding.{FollowsIf, HasStepped, HasAnswered, Reopened, says_failed}
use Rattle.ogg_serve.specs.Keeping.{KeepsAll}
use Rattle.ogg_serve.proofs.Moves.{OthersStay, NumbersStay, all_none, all_both}

-- what the law of committed bytes says
abbrev BytesGrow : Type 0
BytesGrow = (start : HubState) (steps : List Step) → AreSteps start steps → AllByRecursion (λ (step : Step). Extends start.committed step.after.committed) steps

module _ (others : OthersStay) (numbers : NumbersStay) (grow : BytesGrow) where
  -- a call of no session
  keep : (old new : HubState) (event : Event) → hub_step old event new → session_of event ≡ None → KeepsAll old new
  keep old new event step none = record {
    phases = λ id. others old new event id step (λ e. let both : None ≡ Some id = sym none ∙ e in cc);
    numbers = λ all. numbers old new event step all;
    extends = (grow old (record { event = event; after = new } ∷ []) (step, tt)).0;
  }

  module _ {D : Type 0} (model : DiskModel D) where
    answered : (before after : Progress D) (given : RecordOf) (reply : Reply) (own : List ℕ)
        → Answers model before given reply own after → KeepsAll before.machine after.machine
    answered before after (CommandOf command) reply own a = keep before.machine after.machine (Record command a.1.answer) a.1.step refl
    answered before after FlushOf reply own a = keep before.machine after.machine (Flush a.1.answer) a.1.step refl

    ran : (old new : Streams) (was now : RunState) (before mid : Progress D) (reply : Reply)
        → Steps (Answers model) waiting_in old new was now before mid reply → KeepsAll before.machine mid.machine
    ran old new was now before mid reply (inl one) = answered before mid one.given reply one.own one.answers_it
    ran old new was now before mid reply (inr one) = answered before mid FlushOf reply [] one.answers_it

    same_machine : (before after : Progress D) → after ≡ before → KeepsAll before.machine after.machine
    same_machine before after e = subst (λ (p : Progress D). KeepsAll before.machine p.machine) (sym e) (all_none before.machine)

    reopened : (result : Result ⊤ OpenFault) (before after : Progress D)
        → Reopened model result before after → KeepsAll before.machine after.machine
    reopened result before after r = keep before.machine after.machine (Reopen (found_by result after.machine)) r.step refl

    followed : (failed : Bool) (reply : Reply) (step : FeedStep) (before after : Progress D)
        → FollowsIf model failed reply step before after → KeepsAll before.machine after.machine
    followed true reply (Done told) before after f = reopened (Ok tt) before after f.1
    followed true reply (Lost fault) before after f = reopened (Err fault) before after f
    followed true reply End before after f = absurd f
    followed false reply step before after f = same_machine before after f.1

    has_answered : (old new : Streams) (was now : RunState) (before after : Progress D) (step : FeedStep)
        → HasAnswered model old new was now before after step → KeepsAll before.machine after.machine
    has_answered old new was now before after step h =
        all_both before.machine h.mid.machine after.machine (ran old new was now before h.mid h.reply h.ran) (followed (says_failed h.reply) h.reply step h.mid after h.follows)

    stopped : (waits : Bool) (pages new_pages lines new_lines : Option (List ℕ)) (given : RecordOf) (own : List ℕ) (reply : Reply) (before reached after : Progress D)
        → StopsAt waits pages new_pages lines new_lines own reply before reached after
        → Answers model before given reply own reached → KeepsAll before.machine after.machine
    stopped waits pages new_pages lines new_lines given own reply before reached after (inl none) a = same_machine before after none.2
    stopped waits pages new_pages lines new_lines given own reply before reached after (inr all) a =
        subst (λ (p : Progress D). KeepsAll before.machine p.machine) (sym all.2) (answered before reached given reply own a)

    stops : (fault : RunFault) (old new : Streams) (known : Option Version) (count : ℕ) (before after : Progress D)
        → StopsBy (Answers model) waiting_in fault old new known count before after → KeepsAll before.machine after.machine
    stops (Feed fault) old new known count before after s = same_machine before after s.same
    stops TooMany old new known count before after s = same_machine before after s.same
    stops Write old new known count before after s =
        stopped new.waits old.pages new.pages old.lines new.lines s.given s.own s.reply before s.reached after s.written s.answers_it

    pub stepped : (old new : Streams) (was now : RunState) (before after : Progress D) (result : Result FeedStep RunFault)
        → HasStepped model old new was now before after result → KeepsAll before.machine after.machine
    stepped old new was now before after (Ok (Done reply)) h = has_answered old new was now before after (Done reply) h
    stepped old new was now before after (Ok (Lost fault)) h = has_answered old new was now before after (Lost fault) h
    stepped old new was now before after (Ok End) h = same_machine before after h.same
    stepped old new was now before after (Err fault) h = stops fault old new was.version was.records before after h
