-- How far a run over a whole feed has come, and how it ends.
use Rattle.std.proofs.Common.{◌≡◌, ◌⊎◌, ◌≤◌, ◌+◌, ℕ, List, [], ◌∷◌, ◌++◌, length, inl, inr, refl, sym, ap, ◌∙◌, subst, arith, append-nil, length-append, Some, None, Ok, Err}
use Rattle.feed_records.specs.declared.item.Record.{Record}
use Rattle.feed_records.specs.declared.item.Record.TheVariants.{Flush}
use Rattle.feed_replies.specs.declared.reply.Reply.{Reply}
use Rattle.feed_replies.specs.declared.tally.Tally.{Tally}
use Rattle.feed_replies.specs.declared.fault.RunFault.{RunFault}
use Rattle.feed_replies.specs.declared.fault.RunFault.TheVariants.{Feed, Write, TooMany}
use Rattle.feed_runner.specs.declared.counting.Counts.{Counts}
use Rattle.feed_runner.specs.Counting.{Counted, IsTally}
use Rattle.feed_run.specs.Run.{Outcome, RunState, Streams, answer_at, ClosesOne, EndsBy, EndsOne, HasRun, Leaves, RunsOne, RunsTo, RunsWhole, Steps, StopsBy, StopsOne, most_records}
use Rattle.feed_run.proofs.Kept.{counted_on}
use Rattle.feed_runner.specs.Laws.InTurn.{as_many}
use Rattle.feed_run.specs.Laws.ReadOn.{none_run}
use Rattle.feed_run.proofs.Turns.{has_run_on}

module _ {S : Type 0} (answers : S → Record → Reply → List ℕ → S → Type 0) where
  -- it goes on: these records were run
  pub record GoesOn (start now : Streams) (run : RunState) (before after : S) : Type 0 where
    pub records : List Record
    pub replies : List Reply
    pub has_run : HasRun answers start now run.version records replies before after
    pub many : run.records ≡ length records
    pub few : length records ≤ most_records
    pub counted : Counted run.counts records replies
    pub not_ended : run.outcome ≡ None

module _ {S : Type 0} (answers : S → Record → Reply → List ℕ → S → Type 0) (held : S → ℕ) where
  -- it has ended, with a flush
  pub record HasEnded (start now : Streams) (run : RunState) (before after : S) : Type 0 where
    pub outcome : Outcome
    pub to : RunsTo answers held outcome start now before after
    pub counted : Counted run.counts (to.records ++ to.closing) (to.replies ++ to.last)
    pub ended : run.outcome ≡ Some outcome

  abbrev pub HasCome : Streams → Streams → RunState → S → S → Type 0
  HasCome start now run before after = GoesOn answers start now run before after ⊎ HasEnded start now run before after

  pub begins : (start : Streams) (run : RunState) (before : S)
      → run ≡ record { version = None; records = 0; counts = record { commands = 0; kept = 0; waiting = 0 }; outcome = None }
      → HasCome start start run before before
  begins start run before is =
      inl record {
        records = [];
        replies = [];
        has_run = subst (λ known. HasRun answers start start known [] [] before before) (sym (ap (λ (s : RunState). s.version) is)) (none_run answers start before);
        many = ap (λ (s : RunState). s.records) is;
        few = omega arith;
        counted = subst (λ (s : RunState). Counted s.counts [] []) (sym is) (record { commands = refl; kept = refl; waiting = refl });
        not_ended = ap (λ (s : RunState). s.outcome) is;
      }

  goes_on : (start old new : Streams) (was now : RunState) (before mid after : S) (reply : Reply) → GoesOn answers start old was before mid → RunsOne answers old new was now mid after reply
      → HasCome start new now before after
  goes_on start old new was now before mid after reply come one =
      let same = as_many answers before come.records come.replies come.has_run.bytes mid come.has_run.answers_all in
      inl record {
        records = come.records ++ one.given ∷ [];
        replies = come.replies ++ reply ∷ [];
        has_run = has_run_on answers start old new was now come.records come.replies before mid after reply come.has_run one;
        many = ap (λ (s : RunState). s.records) one.now_is ∙ ap (λ n. n + 1) come.many ∙ sym (length-append come.records (one.given ∷ []));
        few = omega (arith, one.few, come.many, length-append come.records (one.given ∷ []));
        counted = counted_on was.counts now.counts come.records come.replies one.given reply same come.counted (ap (λ (s : RunState). s.counts) one.now_is);
        not_ended = ap (λ (s : RunState). s.outcome) one.now_is;
      }

  closes : (start old new : Streams) (was now : RunState) (before mid after : S) (reply : Reply) → GoesOn answers start old was before mid → ClosesOne answers held old new was now mid after reply
      → HasCome start new now before after
  closes start old new was now before mid after reply come one =
      let same = as_many answers before come.records come.replies come.has_run.bytes mid come.has_run.answers_all in
      inr record {
        outcome = one.outcome;
        to = record {
          known = was.version;
          records = come.records;
          replies = come.replies;
          closing = Flush ∷ [];
          last = reply ∷ [];
          at = old;
          mid = mid;
          run = come.has_run;
          few = come.few;
          leaves = subst (λ n. Leaves one.outcome was.version n new.enough old.feed new.feed) come.many one.leaves;
          closed = inr (one.waits, reply, refl, refl, one.answers_it, one.lines);
          pages = one.pages;
        };
        counted = counted_on was.counts now.counts come.records come.replies Flush reply same come.counted one.counted;
        ended = one.ended;
      }

  pub steps_on : (start old new : Streams) (was now : RunState) (before mid after : S) (reply : Reply) → GoesOn answers start old was before mid → Steps answers held old new was now mid after reply
      → HasCome start new now before after
  steps_on start old new was now before mid after reply come (inl one) = goes_on start old new was now before mid after reply come one
  steps_on start old new was now before mid after reply come (inr one) = closes start old new was now before mid after reply come one

  -- the run ends, and nothing waits
  ends_with : (outcome : Outcome) (start old new : Streams) (was : RunState) (before mid after : S) → GoesOn answers start old was before mid
      → EndsOne held outcome old new was.version was.records mid after → RunsTo answers held outcome start new before after
  ends_with outcome start old new was before mid after come one =
      record {
        known = was.version;
        records = come.records;
        replies = come.replies;
        closing = [];
        last = [];
        at = old;
        mid = mid;
        run = come.has_run;
        few = come.few;
        leaves = subst (λ n. Leaves outcome was.version n new.enough old.feed new.feed) come.many one.leaves;
        closed = inl (one.none, refl, refl, one.same, one.lines);
        pages = one.pages;
      }

  is_tally : (counts : Counts) (tally : Tally) (records : List Record) (replies : List Reply) (end : ℕ) → Counted counts records replies
      → tally.commands ≡ counts.commands → tally.kept ≡ counts.kept → tally.kept + tally.refused ≡ tally.commands → tally.end ≡ end → IsTally tally records replies end
  is_tally counts tally records replies end counted commands kept adds_up is =
      record { commands = commands ∙ counted.commands; kept = kept ∙ counted.kept; refused = adds_up; end = is }

  -- the feed's end, if nothing waits
  pub whole_now : (start old new : Streams) (was : RunState) (before mid after : S) (tally : Tally) (end : ℕ) → GoesOn answers start old was before mid
      → EndsOne held (Ok tt) old new was.version was.records mid after
      → tally.commands ≡ was.counts.commands → tally.kept ≡ was.counts.kept → tally.kept + tally.refused ≡ tally.commands → tally.end ≡ end
      → RunsWhole answers held start new before after end tally
  unfolding ends_with
  whole_now start old new was before mid after tally end come one commands kept adds_up is =
      record {
        run = ends_with (Ok tt) start old new was before mid after come one;
        tally_is =
            subst (λ (l : List Record). IsTally tally l (come.replies ++ []) end) (sym (append-nil come.records))
            (subst (λ (l : List Reply). IsTally tally come.records l end) (sym (append-nil come.replies))
            (is_tally was.counts tally come.records come.replies end come.counted commands kept adds_up is));
      }

  -- the feed's end, after a flush
  pub whole_then : (start now : Streams) (run : RunState) (before after : S) (tally : Tally) (end : ℕ) (ended : HasEnded start now run before after) → ended.outcome ≡ Ok tt
      → tally.commands ≡ run.counts.commands → tally.kept ≡ run.counts.kept → tally.kept + tally.refused ≡ tally.commands → tally.end ≡ end
      → RunsWhole answers held start now before after end tally
  whole_then start now run before after tally end ended good commands kept adds_up is =
      let P : Outcome → Type 0 = λ outcome. (to : RunsTo answers held outcome start now before after) × IsTally tally (to.records ++ to.closing) (to.replies ++ to.last) end in
      let there : P ended.outcome = (ended.to, is_tally run.counts tally (ended.to.records ++ ended.to.closing) (ended.to.replies ++ ended.to.last) end ended.counted commands kept adds_up is) in
      let here : P (Ok tt) = subst P good there in
      record { run = here.0; tally_is = here.1 }

  -- a fault ends it now
  pub fault_now : (fault : RunFault) (start old new : Streams) (was : RunState) (before mid after : S) → GoesOn answers start old was before mid
      → StopsBy answers held fault old new was.version was.records mid after → EndsBy answers held fault start new before after
  fault_now (Feed fault) start old new was before mid after come stop = ends_with (Err (Feed fault)) start old new was before mid after come stop
  fault_now TooMany start old new was before mid after come stop = ends_with (Err TooMany) start old new was before mid after come stop
  fault_now Write start old new was before mid after come stop =
      record {
        known = was.version;
        records = come.records;
        replies = come.replies;
        at = old;
        mid = mid;
        run = come.has_run;
        few = come.few;
        stop = subst (λ n. StopsOne answers held old new was.version n mid after) come.many stop;
      }

  to_fault : (fault : RunFault) (start now : Streams) (before after : S) → RunsTo answers held (Err fault) start now before after → EndsBy answers held fault start now before after
  to_fault (Feed fault) start now before after to = to
  to_fault TooMany start now before after to = to
  to_fault Write start now before after to = absurd to.leaves

  -- a fault ended it, and then what waited was flushed
  pub fault_then : (fault : RunFault) (start now : Streams) (run : RunState) (before after : S) (ended : HasEnded start now run before after) → ended.outcome ≡ Err fault
      → EndsBy answers held fault start now before after
  fault_then fault start now run before after ended is =
      to_fault fault start now before after (subst (λ (outcome : Outcome). RunsTo answers held outcome start now before after) is ended.to)

-- the answer of a run that has ended says how it has ended
pub gives_no_reply : (outcome : Outcome) (reply : Reply) → Ok (Some reply) ≡ answer_at outcome → ⊥
gives_no_reply (Ok _) reply same = cc same
gives_no_reply (Err fault) reply same = cc same

pub gives_end : (outcome : Outcome) → Ok None ≡ answer_at outcome → outcome ≡ Ok tt
gives_end (Ok _) same = refl
gives_end (Err fault) same = absurd (cc same)

pub gives_fault : (outcome : Outcome) (fault : RunFault) → Err fault ≡ answer_at outcome → outcome ≡ Err fault
gives_fault (Ok _) fault same = absurd (cc same)
gives_fault (Err other) fault same = cc same
