use Rattle.std.proofs.Common.{arith, sym, subst, ◌∙◌, refl}
use Rattle.serve_live.specs.Pulling.{AreGiven}
use Rattle.serve_live.proofs.pages.give_all.Goals as goal

pub pages-init : goal.pages-init
pages-init c = record {
  some = omega arith;
  room = c.requires.room.0;
  whole = refl;
  skip = c.requires.skip;
  place = omega arith;
  none = λ e. refl;
  gives = λ committed more rest inside b. b;
}

pub overflow_sub-end : goal.overflow_sub-end
overflow_sub-end c = c.pages.invariant.room

pub give_whole-requires-clause-skip : goal.give_whole-requires-clause-skip
give_whole-requires-clause-skip c = c.pages.invariant.skip

pub give_whole-requires-clause-place : goal.give_whole-requires-clause-place
give_whole-requires-clause-place c = omega (arith, c.pages.invariant.place, c.pages.invariant.some, c.pages.invariant.room, c.requires.place)

pub pages-smaller : goal.pages-smaller
pages-smaller c = omega (arith, c.in-Some.ensures.further.0, c.in-Some.ensures.further.1)

pub pages-preserved : goal.pages-preserved
pages-preserved c =
    let inv = c.pages.invariant in
    let (more, room, skip, place) = c.in-Some.ensures.further in
    record {
      some = omega (arith, inv.some, more);
      room = room;
      whole = c.give_whole.auto.buffer ∙ inv.whole;
      skip = skip;
      place = place ∙ omega (arith, inv.place, inv.some, more);
      none = λ e. absurd (omega (arith, e, inv.some, more));
      gives = λ committed more rest inside b.
          c.in-Some.ensures.gives committed more rest c.args.start (omega (arith, inside, inv.place, inv.some, inv.room)) (inv.gives committed more rest inside b);
    }

pub returns-in-None-clause-gives : goal.returns-in-None-clause-gives
returns-in-None-clause-gives c committed more rest inside b =
    subst (λ buffer. AreGiven committed more rest c.args.names.now c.args.start c.pages.left c.pages.given c.args.end buffer)
    (sym (c.give_whole.ensures.none c.in-None.is)) (c.pages.invariant.gives committed more rest inside b)

pub returns-in-None-clause-further : goal.returns-in-None-clause-further
returns-in-None-clause-further c = (c.pages.invariant.some, c.pages.invariant.room)

pub returns-in-None-clause-none : goal.returns-in-None-clause-none
returns-in-None-clause-none c = c.pages.invariant.none

pub returns-clause-gives : goal.returns-clause-gives
returns-clause-gives c = c.pages.invariant.gives

pub returns-clause-further : goal.returns-clause-further
returns-clause-further c = (c.pages.invariant.some, c.pages.invariant.room)

pub returns-clause-none : goal.returns-clause-none
returns-clause-none c = c.pages.invariant.none
