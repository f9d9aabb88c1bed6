use Rattle.std.proofs.Common.{◌<◌, ◌+◌, [], ap, sym, refl, ◌∙◌, arith, inl, inr, subst}
use Rattle.feed_codec.specs.Feed.{FeedState}
use Rattle.feed_codec.specs.Feed.{GivesRecord}
use Rattle.feed_records.specs.declared.item.Record.TheVariants.{Flush}
use Rattle.feed_runner.specs.Counting.{counts_with}
use Rattle.feed_run.specs.Run.{Leaves, RunState, most_records}
use Rattle.feed_run.proofs.States.{has_record, state}
use Rattle.feed_run.proofs.Staying.{leaves_still, stays_appends, stays_none, stays_told, stays_trans, stops_after}
use Rattle.feed_run.proofs.Bounds.{fits_so}
use Rattle.feed_run.proofs.Coming.{stops_so}
use Rattle.feed_run.proofs.run.FeedRun.step_for.Given.{Over}
use Rattle.feed_run.proofs.run.FeedRun.step_for.Goals.{After-flush_waiting, in-Err, in-Ok-None, in-Ok-Some-2}
use Rattle.feed_run.proofs.run.FeedRun.step_for.Goals as goal

pub invariant_of-self : goal.invariant_of-self
invariant_of-self g c =
    let fits = fits_so c.self.inside.counts c.in-Ok.counts c.in-Ok-Some.given c.in-Ok.reply c.in-Ok.ensures.counts c.self.invariant.2 in
    let came = rw c.in-Ok-Some.field-0-is at c.in-Ok-Some.ensures.next in (
      omega (arith, c.if-self-lt-MOST_RECORDS.true),
      omega (arith, fits.1, c.self.invariant.1),
      fits.0,
      λ is_open. ap (λ (s : FeedState). s.outcome) c.in-Ok.ensures.feed ∙ came.0,
    )

pub returns-in-Ok-clause-replied : goal.returns-in-Ok-clause-replied
returns-in-Ok-clause-replied g c = λ before is_in is_open.
    let (own, after, answered, is_in_after, pages, lines) = c.in-Ok.ensures.ok before is_in in
    let came = rw c.in-Ok-Some.field-0-is at c.in-Ok-Some.ensures.next in (
      after,
      is_in_after,
      inl record {
        given = c.in-Ok-Some.given;
        known = c.next_for.new.feed.feed.version;
        own = own;
        few = subst (λ n. n < most_records) (ap (λ (s : RunState). s.records) c.self.view_is) c.if-self-lt-MOST_RECORDS.true;
        read = subst (λ v. GivesRecord v c.next_for.new.feed.feed.version (g.R.Read.remaining c.args.reader.now) (g.R.Read.remaining c.next_for.new.reader) c.in-Ok-Some.given) (ap (λ (s : RunState). s.version) c.self.view_is) came.1;
        answers_it = answered;
        pages = stays_appends g.S.Replies.waits _ _ _ own c.in-Ok-Some.ensures.pages pages;
        lines = stays_appends g.S.Replies.waits _ _ _ _ c.in-Ok-Some.ensures.lines lines;
        now_is =
            ap (λ (f : FeedState). state f.version (c.self.inside.records + 1) c.in-Ok.counts c.self.inside.outcome) c.in-Ok.ensures.feed
            ∙ has_record c.args.self.now c.self.inside.feed.feed.version c.next_for.new.feed.feed.version c.self.inside.records c.self.inside.counts c.in-Ok.counts c.self.inside.outcome c.in-Ok-Some.given c.in-Ok.reply (sym c.self.view_is) is_open c.in-Ok.ensures.counts;
      },
    )

pub returns-in-Err-answer-clause-stopped : goal.returns-in-Err-answer-clause-stopped
returns-in-Err-answer-clause-stopped g c = λ before is_in is_open.
    let (reply, own, reached, after, answered, is_in_after, written) = c.in-Err-answer.ensures.err before is_in in
    let came = rw c.in-Ok-Some.field-0-is at c.in-Ok-Some.ensures.next in (
      after,
      is_in_after,
      record {
        given = c.in-Ok-Some.given;
        reply = reply;
        own = own;
        reached = reached;
        asked =
            inl (
              subst (λ n. n < most_records) (ap (λ (s : RunState). s.records) c.self.view_is) c.if-self-lt-MOST_RECORDS.true,
              c.next_for.new.feed.feed.version,
              subst (λ v. GivesRecord v c.next_for.new.feed.feed.version (g.R.Read.remaining c.args.reader.now) (g.R.Read.remaining c.next_for.new.reader) c.in-Ok-Some.given) (ap (λ (s : RunState). s.version) c.self.view_is) came.1,
            );
        answers_it = answered;
        written = stops_after g.S.Replies.waits _ _ _ _ _ _ own reply before reached after c.in-Ok-Some.ensures.pages c.in-Ok-Some.ensures.lines written;
      },
    )

-- why no further record is run
leaves : (g : Over) (c : After-flush_waiting g)
    → Leaves c.match-next_for.outcome c.args.self.now.version c.args.self.now.records (g.S.Replies.enough c.flush_waiting.new.replies)
    (g.R.Read.remaining c.args.reader.now) (g.R.Read.remaining c.next_for.new.reader)
leaves g c =
    subst (λ (s : RunState). Leaves c.match-next_for.outcome s.version s.records (g.S.Replies.enough c.flush_waiting.new.replies) (g.R.Read.remaining c.args.reader.now) (g.R.Read.remaining c.next_for.new.reader)) c.self.view_is
    (leaves_still c.match-next_for.outcome _ _ _ _ _ _ c.flush_waiting.ensures.enough
    (elim c.match-next_for.branch [
      | in-Ok-Some-2 w ↦
          let came = rw w.in-Ok-Some.field-0-is at w.in-Ok-Some.ensures.next in
          rw w.outcome-is (omega (arith, w.if-self-lt-MOST_RECORDS.false, c.self.invariant.0), c.next_for.new.feed.feed.version, _, came.1)
      | in-Ok-None w ↦ rw w.outcome-is (rw w.in-Ok-None.field-0-is at w.in-Ok-None.ensures.next)
      | in-Err w ↦ rw w.outcome-is w.in-Err.ensures.next
    ]))

pub returns-in-Ok-Some-flush_waiting-clause-replied : goal.returns-in-Ok-Some-flush_waiting-clause-replied
returns-in-Ok-Some-flush_waiting-clause-replied g c = λ before is_in is_open.
    let (some, after, answered, is_in_after, lines) = rw c.in-Ok-Some-flush_waiting.field-0-is at c.in-Ok-Some-flush_waiting.ensures.replied before is_in in (
      after,
      is_in_after,
      inr record {
        outcome = c.match-next_for.outcome;
        leaves = leaves g (goal.at.returns-in-Ok-Some-flush_waiting-clause-replied g c).After-flush_waiting;
        waits = some;
        answers_it = answered;
        pages = stays_trans g.S.Replies.waits _ _ _ c.next_for.ensures.pages c.in-Ok-Some-flush_waiting.ensures.pages;
        lines = stays_appends g.S.Replies.waits _ _ _ _ c.next_for.ensures.lines lines;
        counted = c.with-self-inside.ensures ∙ ap (λ (s : RunState). counts_with s.counts Flush c.in-Ok-Some-flush_waiting.reply) c.self.view_is;
        ended = refl;
      },
    )

pub returns-in-Err-flush_waiting-clause-stopped : goal.returns-in-Err-flush_waiting-clause-stopped
returns-in-Err-flush_waiting-clause-stopped g c = λ before is_in is_open.
    let (some, reply, after, answered, is_in_after, told) = c.in-Err-flush_waiting.ensures.err before is_in in (
      after,
      is_in_after,
      record {
        given = Flush;
        reply = reply;
        own = [];
        reached = after;
        asked = inr (refl, some, c.match-next_for.outcome, leaves g (goal.at.returns-in-Err-flush_waiting-clause-stopped g c).After-flush_waiting);
        answers_it = answered;
        written =
            inr (
              stays_none g.S.Replies.waits _ _ (stays_trans g.S.Replies.waits _ _ _ c.next_for.ensures.pages c.in-Err-flush_waiting.ensures.pages),
              stays_told g.S.Replies.waits _ _ _ _ c.next_for.ensures.lines told,
              refl,
            );
      },
    )

pub returns-in-Ok-None-flush_waiting-clause-stopped : goal.returns-in-Ok-None-flush_waiting-clause-stopped
returns-in-Ok-None-flush_waiting-clause-stopped g c = λ before is_in is_open.
    let (none, same, lines) = rw c.in-Ok-None-flush_waiting.field-0-is at c.in-Ok-None-flush_waiting.ensures.none before is_in in
    rw c.answer_at-in-Ok-None-flush_waiting.ensures
    (stops_so g.T.Runner.answers g.T.Runner.held_in (λ s. g.T.Runner.is_in s c.flush_waiting.new.runner) c.match-next_for.outcome _ _ _ _ before before (rw same is_in)
    record {
      leaves = leaves g (goal.at.returns-in-Ok-None-flush_waiting-clause-stopped g c).After-flush_waiting;
      none = none;
      same = refl;
      pages = stays_trans g.S.Replies.waits _ _ _ c.next_for.ensures.pages c.in-Ok-None-flush_waiting.ensures.pages;
      lines = stays_trans g.S.Replies.waits _ _ _ c.next_for.ensures.lines lines;
    })
