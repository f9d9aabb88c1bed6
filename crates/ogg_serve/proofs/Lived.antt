-- How far a feed has come by its steps, with calls of sessions between them.
use Rattle.std.proofs.Common.{◌≡◌, ◌+◌, ℕ, zero, suc, Option, Some, None, Result, Ok, Err, List, [], ◌∷◌, ◌++◌, inl, inr, refl, sym, ◌∙◌, ap, subst, arith, length-append}
use Rattle.disk_model.specs.declared.disk.Disk.{Ghosts as DiskModel}
use Rattle.disk_model.specs.Image.{DiskState}
use Rattle.feed_replies.specs.declared.fault.RunFault.{RunFault}
use Rattle.feed_replies.specs.declared.fault.RunFault.TheVariants.{Feed, Write, TooMany}
use Rattle.feed_records.specs.declared.item.Record.TheVariants.{Flush}
use Rattle.feed_replies.specs.declared.reply.Reply.{Reply}
use Rattle.feed_records.specs.declared.version.Version.{Version}
use Rattle.feed_run.specs.Laws.ReadOn.{none_run, runs_on}
use Rattle.feed_run.specs.Run.{Asks, ClosesOne, EndsOne, HasRun, Leaves, Outcome, RunState, RunsOne, RunsTo, StopsAt, StopsOne, Streams, streams}
use Rattle.serve_hub.specs.Running.{Progress, Answers, waiting_in}
use Rattle.serve_machine.specs.Hub.{HubState}
use Rattle.serve_machine.specs.Own.{KeepsFile}
use Rattle.ogg_serve.specs.Feeding.{FeedState, Follows, HasAnswered, HasStepped, feed_state, lasting, says_failed, step_at}
use Rattle.ogg_serve.specs.Life.{HasCome, HasRunSome, IsNewFeed, LiveAnswers, StopsLines, alone, waiting_of}
use Rattle.ogg_serve.specs.Steps.{StepsIf, TakesSteps}
use Rattle.ogg_serve.specs.declared.feeding.Step.{Step}
use Rattle.ogg_serve.specs.declared.feeding.Step.TheVariants.{Done, End, Lost}
use Rattle.ogg_serve.proofs.Alone.{file_alone, gets, lives, no_file}
use Rattle.ogg_serve.proofs.Taken.{file_both, followed}

module _ {D : Type 0} (model : DiskModel D) where
  same_machine : (before after : Progress D) → after ≡ before → alone after.machine ≡ alone before.machine
  same_machine before after same = ap (λ (p : Progress D). alone p.machine) same

  module _ (start old new : Streams) (was now : RunState) (first : HubState) (before : Progress D) (so : HasRunSome start old was first (alone before.machine)) where
    -- a record was answered
    run_one : (mid after : Progress D) (reply : Reply) (step : Step) → RunsOne (Answers model) old new was now before mid reply
        → Follows model reply step mid after → HasRunSome start new now first (alone after.machine)
    run_one mid after reply step one follows = record {
      records = so.records ++ one.given ∷ [];
      replies = so.replies ++ reply ∷ [];
      has_run =
          subst (λ (v : Option Version). HasRun LiveAnswers start new v (so.records ++ one.given ∷ []) (so.replies ++ reply ∷ []) first (alone after.machine))
          (sym (ap (λ (s : RunState). s.version) one.now_is))
          (runs_on LiveAnswers start old new was.version one.known so.records so.replies first (alone before.machine) (alone after.machine) one.given reply one.own so.has_run one.read
          (lives model before mid after one.given reply one.own step one.answers_it follows) one.pages one.lines);
      many = ap (λ (s : RunState). s.records) one.now_is ∙ ap (λ (n : ℕ). n + 1) so.many ∙ sym (length-append so.records (one.given ∷ []));
      few = omega (arith, one.few, so.many, length-append so.records (one.given ∷ []));
    }

    -- what waited was flushed
    close_one : (mid after : Progress D) (reply : Reply) (step : Step) → (one : ClosesOne (Answers model) waiting_in old new was now before mid reply)
        → Follows model reply step mid after → RunsTo LiveAnswers waiting_of one.outcome start new first (alone after.machine)
    close_one mid after reply step one follows = record {
      known = was.version;
      records = so.records;
      replies = so.replies;
      closing = Flush ∷ [];
      last = reply ∷ [];
      at = old;
      mid = alone before.machine;
      run = so.has_run;
      few = so.few;
      leaves = subst (λ (n : ℕ). Leaves one.outcome was.version n new.enough old.feed new.feed) so.many one.leaves;
      closed = inr (one.waits, reply, refl, refl, lives model before mid after Flush reply [] step one.answers_it follows, one.lines);
      pages = one.pages;
    }

    -- nothing waited
    end_one : (outcome : Outcome) (after : Progress D) → EndsOne waiting_in outcome old new was.version was.records before after
        → RunsTo LiveAnswers waiting_of outcome start new first (alone after.machine)
    end_one outcome after one = record {
      known = was.version;
      records = so.records;
      replies = so.replies;
      closing = [];
      last = [];
      at = old;
      mid = alone before.machine;
      run = so.has_run;
      few = so.few;
      leaves = subst (λ (n : ℕ). Leaves outcome was.version n new.enough old.feed new.feed) so.many one.leaves;
      closed = inl (one.none, refl, refl, same_machine before after one.same, one.lines);
      pages = one.pages;
    }

    -- a writer failed
    stop_one : (after : Progress D) → StopsOne (Answers model) waiting_in old new was.version was.records before after
        → StopsLines start new first (alone after.machine)
    stop_one after s = record {
      known = was.version;
      records = so.records;
      replies = so.replies;
      at = old;
      mid = alone before.machine;
      run = so.has_run;
      few = so.few;
      stop = record {
        given = s.given;
        reply = s.reply;
        own = s.own;
        reached = alone s.reached.machine;
        asked = subst (λ (n : ℕ). Asks waiting_of was.version n new.enough old.feed new.feed (alone before.machine) s.given) so.many s.asked;
        answers_it = gets model before s.reached s.given s.reply s.own s.answers_it;
        written = stops_alone new.waits old.pages new.pages old.lines new.lines s.own s.reply s.reached after s.written;
      };
    }
      where
        stops_alone : (waits : _) (pages new_pages lines new_lines : Option (List ℕ)) (own : List ℕ) (reply : Reply) (reached after : Progress D)
            → StopsAt waits pages new_pages lines new_lines own reply before reached after
            → StopsAt waits pages new_pages lines new_lines own reply (alone before.machine) (alone reached.machine) (alone after.machine)
        stops_alone waits pages new_pages lines new_lines own reply reached after (inl (some, none, same)) = inl (some, none, same_machine before after same)
        stops_alone waits pages new_pages lines new_lines own reply reached after (inr (all, some, same)) = inr (all, some, same_machine reached after same)

  module _ {R W : Type 0} (remaining : R → Option (List ℕ)) (contents : W → Option (List ℕ)) where
    abbrev Bytes : FeedState R W → Streams
    Bytes feed = streams (remaining feed.reader) None (contents feed.replies)

    abbrev Come : Streams → FeedState R W → HubState → HubState → Type 0
    Come start feed first last = HasCome feed.ended feed.run.outcome start (Bytes feed) feed.run first last

    come_as : (start : Streams) (new : FeedState R W) (first last : HubState) (ended : Option (Result Step RunFault)) (outcome : Option Outcome)
        → new.ended ≡ ended → new.run.outcome ≡ outcome → HasCome ended outcome start (Bytes new) new.run first last → Come start new first last
    come_as start new first last ended outcome e f come =
        subst (λ (o : Option Outcome). HasCome new.ended o start (Bytes new) new.run first last) (sym f)
        (subst (λ (x : Option (Result Step RunFault)). HasCome x outcome start (Bytes new) new.run first last) (sym e) come)

    come_at : (start : Streams) (old : FeedState R W) (first last : HubState) (ended : Option (Result Step RunFault)) (outcome : Option Outcome)
        → old.ended ≡ ended → old.run.outcome ≡ outcome → Come start old first last → HasCome ended outcome start (Bytes old) old.run first last
    come_at start old first last ended outcome e f come =
        subst (λ (o : Option Outcome). HasCome ended o start (Bytes old) old.run first last) f
        (subst (λ (x : Option (Result Step RunFault)). HasCome x old.run.outcome start (Bytes old) old.run first last) e come)

    module _ (start : Streams) (old new : FeedState R W) (first : HubState) (before after : Progress D) (so : HasRunSome start (Bytes old) old.run first (alone before.machine)) where
      answered : (reply : Reply) → new.ended ≡ None → HasAnswered model (Bytes old) (Bytes new) old.run new.run before after (Done reply)
          → Come start new first (alone after.machine)
      answered reply ended h =
          elim h.ran [
            | inl one ↦
                come_as start new first (alone after.machine) None None ended (ap (λ (s : RunState). s.outcome) one.now_is)
                (run_one start (Bytes old) (Bytes new) old.run new.run first before so h.mid after h.reply (Done reply) one h.follows)
            | inr one ↦
                come_as start new first (alone after.machine) None (Some one.outcome) ended one.ended
                (close_one start (Bytes old) (Bytes new) old.run new.run first before so h.mid after h.reply (Done reply) one h.follows)
          ]

      lost : (fault : _) → new.ended ≡ Some (Ok (Lost fault)) → HasAnswered model (Bytes old) (Bytes new) old.run new.run before after (Lost fault)
          → Come start new first (alone after.machine)
      lost fault ended h =
          let file = no_file model (says_failed h.reply) h.reply fault h.mid after h.follows in
          come_as start new first (alone after.machine) (Some (Ok (Lost fault))) new.run.outcome ended refl
          (elim h.ran [
            | inl one ↦ (file, inl (run_one start (Bytes old) (Bytes new) old.run new.run first before so h.mid after h.reply (Lost fault) one h.follows))
            | inr one ↦ (file, inr (one.outcome, close_one start (Bytes old) (Bytes new) old.run new.run first before so h.mid after h.reply (Lost fault) one h.follows))
          ])

      stepped : (answer : Result Step RunFault) → new.ended ≡ lasting answer
          → HasStepped model (Bytes old) (Bytes new) old.run new.run before after answer → Come start new first (alone after.machine)
      stepped (Ok (Done reply)) ended h = answered reply ended h
      stepped (Ok (Lost fault)) ended h = lost fault ended h
      stepped (Ok End) ended h =
          come_as start new first (alone after.machine) (Some (Ok End)) new.run.outcome ended refl
          (end_one start (Bytes old) (Bytes new) old.run new.run first before so (Ok tt) after h)
      stepped (Err (Feed fault)) ended h =
          come_as start new first (alone after.machine) (Some (Err (Feed fault))) new.run.outcome ended refl
          (end_one start (Bytes old) (Bytes new) old.run new.run first before so (Err (Feed fault)) after h)
      stepped (Err TooMany) ended h =
          come_as start new first (alone after.machine) (Some (Err TooMany)) new.run.outcome ended refl
          (end_one start (Bytes old) (Bytes new) old.run new.run first before so (Err TooMany) after h)
      stepped (Err Write) ended h =
          come_as start new first (alone after.machine) (Some (Err Write)) new.run.outcome ended refl
          (stop_one start (Bytes old) (Bytes new) old.run new.run first before so after h)

    -- a run that has ended with a flush ends the feed so
    at_end : (outcome : Outcome) (other : Option Outcome) (start now : Streams) (run : RunState) (first last : HubState)
        → RunsTo LiveAnswers waiting_of outcome start now first last → HasCome (Some (step_at outcome)) other start now run first last
    at_end (Ok _) other start now run first last to = to
    at_end (Err (Feed fault)) other start now run first last to = to
    at_end (Err TooMany) other start now run first last to = to
    at_end (Err Write) other start now run first last to = absurd to.leaves

    one_step : (start : Streams) (old new : FeedState R W) (first before after : HubState) (ended : Option (Result Step RunFault)) (outcome : Option Outcome)
        → old.ended ≡ ended → old.run.outcome ≡ outcome → StepsIf model remaining contents ended outcome old new before after
        → Come start old first (alone before) → Come start new first (alone after)
    one_step start old new first before after (Some answer) outcome e f (same, still) come =
        subst (λ (feed : FeedState R W). Come start feed first (alone after)) (sym same) (subst (λ (hub : HubState). Come start old first (alone hub)) (sym still) come)
    one_step start old new first before after None (Some o) e f (same, still) come =
        let closed : Come start (feed_state old.reader old.replies old.run (Some (step_at o))) first (alone before) =
        at_end o old.run.outcome start (Bytes old) old.run first (alone before) (come_at start old first (alone before) None (Some o) e f come) in
        subst (λ (feed : FeedState R W). Come start feed first (alone after)) (sym same)
        (subst (λ (hub : HubState). Come start (feed_state old.reader old.replies old.run (Some (step_at o))) first (alone hub)) (sym still) closed)
    one_step start old new first before after None None e f step come =
        stepped start old new first (record { now = step.was; machine = before }) (record { now = step.now; machine = after })
        (come_at start old first (alone before) None None e f come) step.answer step.ended step.stepped

    begins : (feed : FeedState R W) (first : HubState) → IsNewFeed feed → Come (Bytes feed) feed first first
    begins feed first is =
        come_as (Bytes feed) feed first first None None is.ended is.outcome
        (record {
          records = [];
          replies = [];
          has_run = subst (λ (v : Option Version). HasRun LiveAnswers (Bytes feed) (Bytes feed) v [] [] first first) (sym is.version) (none_run LiveAnswers (Bytes feed) first);
          many = is.records;
          few = omega arith;
        })

    pub all_steps : (n : ℕ) (old new : FeedState R W) (before after : HubState) → IsNewFeed old
        → TakesSteps model remaining contents n old new before after → Come (Bytes old) new (alone before) (alone after)
    all_steps zero old new before after is (same, file) =
        subst (λ (feed : FeedState R W). Come (Bytes old) feed (alone before) (alone after)) (sym same)
        (subst (λ (hub : HubState). Come (Bytes old) old (alone before) hub) (sym (file_alone before after file)) (begins old (alone before) is))
    all_steps (suc n) old new before after is (feed, one, two, steps, step, file) =
        let come = all_steps n old feed before one is steps in
        let next = one_step (Bytes old) feed new (alone before) one two feed.ended feed.run.outcome refl refl step come in
        subst (λ (hub : HubState). Come (Bytes old) new (alone before) hub) (sym (file_alone two after file)) next

    -- steps after steps
    pub joined : (n m : ℕ) (old mid new : FeedState R W) (a b c d : HubState) → TakesSteps model remaining contents n old mid a b
        → KeepsFile b c → TakesSteps model remaining contents m mid new c d
        → TakesSteps model remaining contents (n + m) old new a d
    joined n zero old mid new a b c d first between (same, file) =
        let e : n ≡ n + 0 = omega arith in
        subst (λ (k : ℕ). TakesSteps model remaining contents k old new a d) e
        (subst (λ (feed : FeedState R W). TakesSteps model remaining contents n old feed a d) (sym same)
        (followed model remaining contents n old mid a b d first (file_both b c d between file)))
    joined n (suc m) old mid new a b c d first between (feed, one, two, steps, step, file) =
        let e : suc (n + m) ≡ n + suc m = omega arith in
        let all = joined n m old mid feed a b c one first between steps in
        subst (λ (k : ℕ). TakesSteps model remaining contents k old new a d) e (feed, one, two, all, step, file)
