use Rattle.std.proofs.Common.{inl, inr, ◌∙◌, arith}
use Rattle.page_heads.specs.Laws.{later_failed}
use Rattle.serve_sending.proofs.walking.pull_stream.Goals as goal

pub pages-preserved : goal.pages-preserved
pages-preserved g c =
    let inv = c.pages.invariant in
    let on = c.pull_page.ensures in
    record {
      room = omega (arith, c.in-Ok.ensures.further.room, c.pull_page.auto.buffer);
      whole = c.pull_page.auto.buffer ∙ inv.whole;
      source = record {
        bytes_same = λ sure. on.source.bytes_same (inv.source.honest_same.0 sure) ∙ inv.source.bytes_same sure;
        honest_same = ((λ h. on.source.honest_same.0 (inv.source.honest_same.0 h)), (λ h. inv.source.honest_same.1 (on.source.honest_same.1 h)));
        size_same = on.source.size_same ∙ inv.source.size_same;
        only = g.met.S.PageSource.reads_on _ _ _ inv.source.only on.source.only;
      };
      later = omega (arith, inv.later, on.later);
      pulled = λ committed more rest sure is r.
          c.in-Ok.ensures.pulled committed more rest (inv.source.honest_same.0 sure) (inv.source.bytes_same sure ∙ is) (inv.pulled committed more rest sure is r);
    }

pub returns-in-Err-clause-cause : goal.returns-in-Err-clause-cause
returns-in-Err-clause-cause g c committed more rest sure is r err =
    let inv = c.pages.invariant in
    later_failed _ _ _ inv.later
    (c.in-Err.ensures.cause committed more rest (inv.source.honest_same.0 sure) (inv.source.bytes_same sure ∙ is) (inv.pulled committed more rest sure is r) err)

pub returns-else-left-gt0-clause-read : goal.returns-else-left-gt0-clause-read
returns-else-left-gt0-clause-read g c committed more rest sure is r =
    (c.pages.invariant.pulled committed more rest sure is r, inr (omega (arith, c.if-left-gt0.false)))

pub returns-after-pages-clause-read : goal.returns-after-pages-clause-read
returns-after-pages-clause-read g c committed more rest sure is r =
    (c.pages.invariant.pulled committed more rest sure is r, inl (omega (arith, c.pages-test.false, c.pages.invariant.room, c.pages.invariant.whole)))
