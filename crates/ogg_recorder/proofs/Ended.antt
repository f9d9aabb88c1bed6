-- The records of a run, whichever way it ended, are answered in turn.
use Rattle.std.proofs.Common.{◌≡◌, inl, inr, ℕ, List, [], ◌∷◌, ◌++◌, sym, ap, ◌∙◌, subst, arith, Option, Result, Ok, Err, Bool}
use Rattle.std.specs.Prelude.{IfOk, IfErr}
use Rattle.std.proofs.lemmas.List.{append-nil}
use Rattle.disk_model.specs.declared.disk.Disk.{Ghosts as DiskModel}
use Rattle.disk_model.specs.Frame.{Frame}
use Rattle.feed_replies.specs.declared.fault.RunFault.{RunFault}
use Rattle.feed_replies.specs.declared.fault.RunFault.TheVariants.{Feed, Write, TooMany}
use Rattle.feed_records.specs.declared.item.Record.{Record}
use Rattle.feed_records.specs.declared.item.Record.TheVariants.{Flush}
use Rattle.feed_replies.specs.declared.reply.Reply.{Reply}
use Rattle.feed_replies.specs.declared.tally.Tally.{Tally}
use Rattle.feed_runner.specs.Answering.{AnswersAll}
use Rattle.feed_runner.specs.Laws.InTurn.{one_more}
use Rattle.feed_run.specs.Run.{Streams, Outcome, RunsTo, RunsWhole, StopsAt, EndsBy, IsClosed}
use Rattle.file_recorder.specs.Recorder.{RecorderState}
use Rattle.file_recorder.specs.Running.{Progress, Answers, waiting_in}
use Rattle.ogg_recorder.specs.Recorded.{Answered, answered_with, answered_by}

module _ {S : Type 0} (answers : S → Record → Reply → List ℕ → S → Type 0) where
  abbrev pub All : S → List Record → List Reply → S → Type 0
  All before records replies after = (bytes : List ℕ) × AnswersAll answers before records replies bytes after

  moved : (before after : S) (records more_records : List Record) (replies more_replies : List Reply) → records ≡ more_records → replies ≡ more_replies
      → All before records replies after → All before more_records more_replies after
  moved before after records more_records replies more_replies r p all =
      subst (λ (l : List Record). All before l more_replies after) r (subst (λ (l : List Reply). All before records l after) p all)

  module _ (held : S → ℕ) where
    closed_all : (at now : Streams) (before mid after : S) (records closing : List Record) (replies last : List Reply) → All before records replies mid
        → IsClosed answers held at now mid after closing last → All before (records ++ closing) (replies ++ last) after
    closed_all at now before mid after records closing replies last all (inl (none, no_record, no_reply, same, lines)) =
        moved before after records (records ++ closing) replies (replies ++ last)
        (sym (append-nil records) ∙ ap (λ (l : List Record). records ++ l) (sym no_record)) (sym (append-nil replies) ∙ ap (λ (l : List Reply). replies ++ l) (sym no_reply))
        (subst (λ (s : S). All before records replies s) (sym same) all)
    closed_all at now before mid after records closing replies last all (inr (some, reply, a_record, a_reply, answer, lines)) =
        moved before after (records ++ Flush ∷ []) (records ++ closing) (replies ++ reply ∷ []) (replies ++ last)
        (ap (λ (l : List Record). records ++ l) (sym a_record)) (ap (λ (l : List Reply). replies ++ l) (sym a_reply))
        (all.0 ++ [], one_more answers before records replies all.0 mid Flush reply [] after all.1 answer)

    pub run_to : (outcome : Outcome) (start now : Streams) (before after : S) (run : RunsTo answers held outcome start now before after)
        → All before (run.records ++ run.closing) (run.replies ++ run.last) after
    run_to outcome start now before after run =
        closed_all run.at now before run.mid after run.records run.closing run.replies run.last (run.run.bytes, run.run.answers_all) run.closed

    stopped : (before mid after : S) (records : List Record) (replies : List Reply) (given : Record) (waits : Bool) (pages new_pages lines new_lines : Option (List ℕ)) (own : List ℕ) (reply : Reply) (reached : S)
        (written : StopsAt waits pages new_pages lines new_lines own reply mid reached after) → All before records replies mid → answers mid given reply own reached
        → let found : Answered = answered_with records replies given waits pages new_pages lines new_lines own reply mid reached after written in All before found.records found.replies after
    stopped before mid after records replies given waits pages new_pages lines new_lines own reply reached (inl none) all answer =
        subst (λ (s : S). All before records replies s) (sym none.2) all
    stopped before mid after records replies given waits pages new_pages lines new_lines own reply reached (inr whole) all answer =
        subst (λ (s : S). All before (records ++ given ∷ []) (replies ++ reply ∷ []) s) (sym whole.2) (all.0 ++ own, one_more answers before records replies all.0 mid given reply own reached all.1 answer)

    pub ended : (fault : RunFault) (start now : Streams) (before after : S) (run : EndsBy answers held fault start now before after)
        → let found : Answered = answered_by answers held fault start now before after run in All before found.records found.replies after
    ended (Feed fault) start now before after run = run_to (Err (Feed fault)) start now before after run
    ended TooMany start now before after run = run_to (Err TooMany) start now before after run
    ended Write start now before after run =
        stopped before run.mid after run.records run.replies run.stop.given now.waits run.at.pages now.pages run.at.lines now.lines run.stop.own run.stop.reply run.stop.reached run.stop.written
        (run.run.bytes, run.run.answers_all) run.stop.answers_it

-- what holds from each recorder to the next, whether its disk is honest or not
module _ {D : Type 0} (model : DiskModel D) where
  honest_all : (before after : Progress D) (records : List Record) (replies : List Reply) (bytes : List ℕ)
      → AnswersAll (Answers model) before records replies bytes after → Frame model before.now.file.disk after.now.file.disk ⊥
  honest_all before after [] [] bytes (none, same) =
      subst (λ (p : Progress D). Frame model before.now.file.disk p.now.file.disk ⊥) (sym same) (record { honest = (λ h. h, λ h. h); later = omega arith; cause = λ no. absurd no })
  honest_all before after [] (reply ∷ replies) bytes all = absurd all
  honest_all before after (given ∷ records) [] bytes all = absurd all
  honest_all before after (given ∷ records) (reply ∷ replies) bytes (next, own, later, answer, rest, whole) =
      let others = honest_all next after records replies later rest in
      record { honest = (λ h. others.honest.0 (answer.honest.0 h), λ h. answer.honest.1 (others.honest.1 h)); later = omega (arith, answer.later, others.later); cause = λ no. absurd no }

  between : (before after : Progress D) (recorder : RecorderState D) (records : List Record) (replies : List Reply) → after.now ≡ recorder
      → All (Answers model) before records replies after → Frame model before.now.file.disk recorder.file.disk ⊥
  between before after recorder records replies is all =
      subst (λ (r : RecorderState D). Frame model before.now.file.disk r.file.disk ⊥) is (honest_all before after records replies all.0 all.1)

  -- from the first to the last recorder of a run
  pub over_run : (start now : Streams) (before : Progress D) (recorder : RecorderState D) (result : Result Tally RunFault)
      → IfOk result (λ tally. (after : Progress D) × (after.now ≡ recorder) × RunsWhole (Answers model) waiting_in start now before after after.now.file.end tally)
      → IfErr result (λ fault. (after : Progress D) × (after.now ≡ recorder) × EndsBy (Answers model) waiting_in fault start now before after)
      → Frame model before.now.file.disk recorder.file.disk ⊥
  over_run start now before recorder (Ok tally) (after, is, run) err = between before after recorder _ _ is (run_to (Answers model) waiting_in (Ok tt) start now before after run.run)
  over_run start now before recorder (Err fault) ok (after, is, run) = between before after recorder _ _ is (ended (Answers model) waiting_in fault start now before after run)
