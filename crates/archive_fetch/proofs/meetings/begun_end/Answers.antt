use Rattle.std.proofs.Common.{drop, sym, ◌∙◌, ap, subst}
use Rattle.ogg_page.specs.Head.{Stands}
use Rattle.page_heads.specs.declared.front.PageFacts.{PageFacts}
use Rattle.archive_cut.specs.Heads.{StandUpTo}
use Rattle.archive_cut.specs.HeadsLaws.{next_page}
use Rattle.archive_fetch.proofs.EndPages.{passed_on, passed_stand}
use Rattle.archive_fetch.proofs.meetings.begun_end.Goals as goal

pub pages-preserved : goal.pages-preserved
pages-preserved g c =
    let inv = c.pages.invariant in
    let on = c.read_front.ensures in
    let bytes = g.S.PageSource.bytes c.args.source.now in
    record {
      source = record {
        bytes_same = λ sure. on.source.bytes_same (inv.source.honest_same.0 sure) ∙ inv.source.bytes_same sure;
        honest_same = ((λ h. on.source.honest_same.0 (inv.source.honest_same.0 h)), (λ h. inv.source.honest_same.1 (on.source.honest_same.1 h)));
        size_same = on.source.size_same ∙ inv.source.size_same;
        only = g.met.S.PageSource.reads_on _ _ _ inv.source.only on.source.only;
      };
      left = λ pages sure s.
          let w = inv.left pages sure s in
          let n = next_page bytes c.pages.place c.end-end.result w.back w.left c.pages-test.true in
          let r = c.in-Ok.ensures.read n.page (inv.source.honest_same.0 sure) (subst (λ b. Stands (drop c.pages.place b) n.page) (sym (inv.source.bytes_same sure)) n.stands) in
          passed_on bytes c.end-end.result c.pages.place pages c.in-Ok.front.facts.size w n (ap (λ (f : PageFacts). f.size) r.facts);
    }

pub returns-then-not-ends_alone-clause-found : goal.returns-then-not-ends_alone-clause-found
returns-then-not-ends_alone-clause-found g c pages sure s =
    let bytes = g.S.PageSource.bytes c.args.source.now in
    let s' = subst (λ n. StandUpTo bytes 0 n pages) (sym c.end-end.ensures) s in
    passed_stand bytes c.end-end.result c.pages.place pages s' (c.pages.invariant.left pages sure s')
