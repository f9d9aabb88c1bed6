-- What is taken of a stream, where the runner's answers are seen as those of another, which depend on less. These are laws,
-- to be cited.
use Rattle.std.proofs.Common.{ℕ, Option, Some, List, [], ◌∷◌, ap}
use Rattle.feed_records.specs.declared.item.Record.{Record}
use Rattle.feed_records.specs.declared.item.Record.TheVariants.{Flush}
use Rattle.feed_replies.specs.declared.reply.Reply.{Reply}
use Rattle.feed_runner.specs.Answering.{AnswersAll}
use Rattle.import_mend.specs.declared.mend.Mend.{Mend}
use Rattle.import_record.specs.Pushing.{InputState, IsStepped}
use Rattle.import_record.specs.Reading.{Steps}
use Rattle.import_record.specs.Running.{HasRun, records_of}
use Rattle.import_record.specs.Steps.{Ends, IntakeState, Takes}
use Rattle.import_record.specs.declared.answering.Answered.{Answered}
use Rattle.import_record.specs.declared.intake.Taken.{Taken}
use Rattle.import_record.specs.declared.reading.ImportRun.{ImportRun}
use Rattle.import_record.specs.declared.reading.Step.{Step}
use Rattle.import_record.specs.declared.reading.Step.TheVariants.{Flushed, PassedOver, Page, Ended}
use Rattle.ogg_command.specs.declared.command.Command.{Command}
use Rattle.ogg_page.specs.Page.{Page as PageOf}
use Rattle.ogg_page.specs.Window.{LentAt}
use Rattle.station_sources.specs.Taking.{TakesEnd, TakesStep}

module _ {S T : Type 0} (answers : S → Record → Reply → List ℕ → S → Type 0) (others : T → Record → Reply → List ℕ → T → Type 0) (seen : S → T)
    (one : (before after : S) (given : Record) (reply : Reply) (own : List ℕ) → answers before given reply own after → others (seen before) given reply own (seen after)) where
  all_seen : (records : List Record) (replies : List Reply) (bytes : List ℕ) (before after : S) → AnswersAll answers before records replies bytes after
      → AnswersAll others (seen before) records replies bytes (seen after)
  all_seen [] [] bytes before after (none, same) = (none, ap seen same)
  all_seen [] (reply ∷ replies) bytes before after none = absurd none
  all_seen (given ∷ records) [] bytes before after none = absurd none
  all_seen (given ∷ records) (reply ∷ replies) bytes before after (next, own, later, answered, rest, is) =
      (seen next, own, later, one before next given reply own answered, all_seen records replies later next after rest, is)

  pub run_seen : (commands : List Command) (result : Answered) (before after : S) (old new : Option (List ℕ)) → HasRun answers commands result before after old new
      → HasRun others commands result (seen before) (seen after) old new
  run_seen commands result before after old new is = record {
    replies = is.replies;
    runs = record {
      bytes = is.runs.bytes;
      answered = all_seen (records_of commands) is.replies is.runs.bytes before after is.runs.answered;
      written = is.runs.written;
    };
    result_is = is.result_is;
  }

  takes_seen : (offset : ℕ) (page : PageOf) (old new : IntakeState) (taken : Taken) (before after : S) (pages new_pages : Option (List ℕ))
      → Takes answers offset page old new taken before after pages new_pages → Takes others offset page old new taken (seen before) (seen after) pages new_pages
  takes_seen offset page old new taken before after pages new_pages is = record {
    more = is.more;
    given = is.given;
    mended = is.mended;
    options = is.options;
    changed = is.changed;
    begun = is.begun;
    ran = run_seen is.given taken.answered before after pages new_pages is.ran;
  }

  steps_seen : (step : Step) (old new : InputState) (from pages left new_pages : Option (List ℕ)) (before after : S)
      → Steps answers step old.pages old.intake from pages before new.pages new.intake left new_pages after
      → Steps others step old.pages old.intake from pages (seen before) new.pages new.intake left new_pages (seen after)
  steps_seen (Flushed reply) old new from pages left new_pages before after (answered, stays, same, unread, written) =
      (one before after Flush reply [] answered, stays, same, unread, written)
  steps_seen PassedOver old new from pages left new_pages before after (passes, same, stays, written) = (passes, same, ap seen stays, written)
  steps_seen (Page offset junk taken) old new from pages left new_pages before after (advances, (at, lent, begins, takes)) =
      (advances, (at, lent, begins, takes_seen offset at.1 old.intake new.intake taken before after pages new_pages takes))
  steps_seen (Ended junk) old new from pages left new_pages before after (advances, (lent, same, stays, written)) =
      (advances, (lent, same, ap seen stays, written))

  pub stepped_seen : (bytes : List ℕ) (step : Step) (lent : Option LentAt) (old new : InputState) (before after : S)
      → IsStepped answers bytes step lent old new before after → IsStepped others bytes step lent old new (seen before) (seen after)
  stepped_seen bytes step lent old new before after is = record {
    output = is.output;
    new_output = is.new_output;
    steps = steps_seen step old new (Some bytes) is.output (Some bytes) is.new_output before after is.steps;
    lent_is = is.lent_is;
  }

  pub ends_seen : (offset : ℕ) (old new : IntakeState) (taken : Taken) (before after : S) (pages new_pages : Option (List ℕ))
      → Ends answers offset old new taken before after pages new_pages → Ends others offset old new taken (seen before) (seen after) pages new_pages
  ends_seen offset old new taken before after pages new_pages is = record {
    more = is.more;
    given = is.given;
    ended = is.ended;
    told = is.told;
    options = is.options;
    changed = is.changed;
    begun = is.begun;
    ran = run_seen is.given taken.answered before after pages new_pages is.ran;
  }

  -- ---- of a source
  pub takes_step_seen : (Over : Type 0) (step : Step) (old new : ImportRun) (before after : S) → TakesStep answers Over step old new before after
      → TakesStep others Over step old new (seen before) (seen after)
  takes_step_seen Over step old new before after takes = record {
    needs = takes.needs;
    flushes = takes.flushes;
    stepped = stepped_seen [] step _ _ _ before after takes.stepped;
  }

  pub takes_end_seen : (Over : Type 0) (offset : ℕ) (junk : Option Mend) (taken : Taken) (old new : ImportRun) (before after : S)
      → TakesEnd answers Over offset junk taken old new before after → TakesEnd others Over offset junk taken old new (seen before) (seen after)
  takes_end_seen Over offset junk taken old new before after takes =
      let is = takes.ended in record {
        needs = takes.needs;
        ended = record {
          between = is.between;
          reached = seen is.reached;
          finds = stepped_seen [] (Ended junk) _ _ _ before is.reached is.finds;
          offset_is = is.offset_is;
          ends = ends_seen offset _ _ taken is.reached after _ _ is.ends;
        };
      }
