use Rattle.std.proofs.Common.{◌<◌, length, inl, inr, ◌∙◌, arith}
use Rattle.serve_live.proofs.NextPage.{none_left, some_more}
use Rattle.serve_live.proofs.Passing.{passed_on}
use Rattle.page_heads.specs.Laws.{later_failed}
use Rattle.serve_live.proofs.pages.pull_pages.Goals as goal

pub pages-preserved : goal.pages-preserved
pages-preserved g c =
    let inv = c.pages.invariant in
    let on = c.pull_next.ensures in
    record {
      room = omega (arith, c.in-Ok.ensures.further.1, c.pull_next.auto.buffer);
      whole = c.pull_next.auto.buffer ∙ inv.whole;
      source = record {
        bytes_same = λ sure. on.source.bytes_same (inv.source.honest_same.0 sure) ∙ inv.source.bytes_same sure;
        honest_same = ((λ h. on.source.honest_same.0 (inv.source.honest_same.0 h)), (λ h. inv.source.honest_same.1 (on.source.honest_same.1 h)));
        size_same = on.source.size_same ∙ inv.source.size_same;
        only = g.met.S.PageSource.reads_on _ _ _ inv.source.only on.source.only;
      };
      later = omega (arith, inv.later, on.later);
      pulled = λ committed more rest sure is end p.
          c.in-Ok.ensures.pulled committed more rest (inv.source.honest_same.0 sure) (inv.source.bytes_same sure ∙ is) end (omega (arith, end, c.if-left-end.true)) (inv.pulled committed more rest sure is end p);
      passes = λ committed more rest sure is end p.
          passed_on committed c.args.start c.pages.left c.in-Ok.after (inv.passes committed more rest sure is end p)
          (c.in-Ok.ensures.passes committed more rest (inv.source.honest_same.0 sure) (inv.source.bytes_same sure ∙ is) end (omega (arith, end, c.if-left-end.true))
          (inv.pulled committed more rest sure is end p));
    }

pub returns-else-left-end-clause-pulled : goal.returns-else-left-end-clause-pulled
returns-else-left-end-clause-pulled g c committed more rest sure is end p =
    let b = c.pages.invariant.pulled committed more rest sure is end p in
    (b, inr (none_left committed rest c.args.names.now c.pages.left c.pages.given c.pages.buffer b (omega (arith, end, c.if-left-end.false))))

pub returns-after-pages-clause-pulled : goal.returns-after-pages-clause-pulled
returns-after-pages-clause-pulled g c committed more rest sure is end p =
    (c.pages.invariant.pulled committed more rest sure is end p, inl (omega (arith, c.pages-test.false, c.pages.invariant.room, c.pages.invariant.whole)))

pub returns-in-Err-clause-cause : goal.returns-in-Err-clause-cause
returns-in-Err-clause-cause g c committed more rest sure is end p err =
    let inv = c.pages.invariant in
    let pulled = inv.pulled committed more rest sure is end p in
    let inside : c.pages.left.place < length committed = omega (arith, end, c.if-left-end.true) in
    let some = some_more committed rest c.args.names.now c.pages.left c.pages.given c.pages.buffer pulled inside in (
      later_failed _ _ _ inv.later
          (c.in-Err.ensures.cause committed more rest (inv.source.honest_same.0 sure) (inv.source.bytes_same sure ∙ is) end inside pulled err),
      grind (arith, some, c.pages-test.true, inv.whole),
    )
