use Rattle.std.proofs.Common.{◌++◌, refl, subst}
use Rattle.import_feed.specs.Mending.{AreTold, begun_in, mended_by}
use Rattle.import_feed.proofs.MendedSteps.{counts_none, counts_page, next_fails, step_of, step_plain, turn_mended, turn_stops}
use Rattle.import_feed.proofs.mending.Mending.turn.Goals as goal

pub returns-in-Err : goal.returns-in-Err
returns-in-Err g c = λ options before unaware still.
    next_fails g.M.Mends.tells options c.in-Err.fault before _ unaware _ c.args.self.now c.next.new.self still
    c.in-Err.ensures.err.0 c.in-Err.ensures.err.1 c.in-Err.ensures.err.2

pub returns-in-Err-give : goal.returns-in-Err-give
returns-in-Err-give g c = λ options before unaware still.
    turn_stops g.M.Mends.tells options c.in-Err-give.fault before _ _ unaware _ _ c.args.self.now c.next.new.self _ _ c.in-Ok.next.1.items
    still c.in-Ok.ensures.ok.changes c.tell_step.ensures
    (step_plain g.M.Mends.tells options before _ unaware _ c.args.self.now c.next.new.self c.in-Ok.next.0 c.in-Ok.next.1.items
    c.commands_begin_links_without_a_skeleton.ensures.pages still c.in-Ok.ensures.ok)
    c.in-Err-give.ensures.err

pub returns-then-step : goal.returns-then-step
returns-then-step g c = λ options before unaware still.
    (turn_mended g.M.Mends.tells options before _ _ unaware _ _ c.args.self.now c.next.new.self c.give.new.self _ c.in-Ok.next.0
    c.in-Ok.next.1.items still c.in-Ok.ensures.ok (step_plain g.M.Mends.tells options before _ unaware _ c.args.self.now c.next.new.self c.in-Ok.next.0 c.in-Ok.next.1.items
    c.commands_begin_links_without_a_skeleton.ensures.pages still c.in-Ok.ensures.ok)
    (subst (λ l. AreTold g.M.Mends.tells c.args.mends.now
    (mended_by c.in-Ok.next.0.junk ++ (mended_by c.in-Ok.next.0.mend ++ begun_in l)) c.tell_step.new.mends) c.as_slice.ensures.value c.tell_step.ensures) c.in-Ok-give.ensures.ok refl refl refl
    (counts_page c.args.self.now c.next.new.self c.give.new.self still.steps
    (step_of c.args.self.now c.next.new.self c.in-Ok.next.0 c.in-Ok.next.1.items) c.saturating_add-self.result still.has.pages
    c.in-Ok.ensures.ok.made c.in-Ok-give.ensures.ok.page_count c.if-step.true c.saturating_add-self.ensures)).0

pub returns : goal.returns
returns g c = λ options before unaware still.
    let s = step_of c.args.self.now c.next.new.self c.in-Ok.next.0 c.in-Ok.next.1.items in
    let next =
    turn_mended g.M.Mends.tells options before _ _ unaware _ _ c.args.self.now c.next.new.self c.give.new.self c.give.new.self c.in-Ok.next.0
    c.in-Ok.next.1.items still c.in-Ok.ensures.ok (step_plain g.M.Mends.tells options before _ unaware _ c.args.self.now c.next.new.self c.in-Ok.next.0 c.in-Ok.next.1.items
    c.commands_begin_links_without_a_skeleton.ensures.pages still c.in-Ok.ensures.ok)
    (subst (λ l. AreTold g.M.Mends.tells c.args.mends.now
    (mended_by c.in-Ok.next.0.junk ++ (mended_by c.in-Ok.next.0.mend ++ begun_in l)) c.tell_step.new.mends) c.as_slice.ensures.value c.tell_step.ensures) c.in-Ok-give.ensures.ok refl refl refl
    (counts_none c.args.self.now c.next.new.self c.give.new.self still.steps s still.has.pages
    c.in-Ok.ensures.ok.made c.in-Ok-give.ensures.ok.page_count c.if-step.false) in
    record {
      still = next.0;
      ended = record { front = still.steps; last = s; steps_are = next.1; no_page = c.if-step.false };
    }
