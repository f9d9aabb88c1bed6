use Rattle.std.proofs.Common.{drop, refl, sym, ◌∙◌, ap, subst, arith}
use Rattle.ogg_page.specs.Head.{Stands}
use Rattle.page_heads.specs.Laws.{later_failed}
use Rattle.archive_cut.specs.Heads.{streams_after, streams_by}
use Rattle.archive_cut.specs.HeadsLaws.{next_page}
use Rattle.archive_cut.proofs.Walked.{all_walked, walked_on}
use Rattle.archive_cut.proofs.heads.take_pages.Goals as goal

pub pages-preserved : goal.pages-preserved
pages-preserved g c =
    let inv = c.pages.invariant in
    let on = c.read_said.ensures in
    let bytes = g.S.PageSource.bytes c.args.source.now in
    record {
      source = record {
        bytes_same = λ sure. on.source.bytes_same (inv.source.honest_same.0 sure) ∙ inv.source.bytes_same sure;
        honest_same = ((λ h. on.source.honest_same.0 (inv.source.honest_same.0 h)), (λ h. inv.source.honest_same.1 (on.source.honest_same.1 h)));
        size_same = on.source.size_same ∙ inv.source.size_same;
        only = g.met.S.PageSource.reads_on _ _ _ inv.source.only on.source.only;
      };
      later = omega (arith, inv.later, on.later);
      left = λ pages sure s.
          let w = inv.left pages sure s in
          let n = next_page bytes c.pages.place c.args.end w.pages w.left c.pages-test.true in
          let r = c.in-Ok.ensures.read n.page (inv.source.honest_same.0 sure) (subst (λ b. Stands (drop c.pages.place b) n.page) (sym (inv.source.bytes_same sure)) n.stands) in
          walked_on bytes (streams_after c.args.streams.now.items pages) c.args.end c.pages.place c.pages.streams.items c.take_page.new.streams.items c.in-Ok.size
          w n r.1 (c.in-Ok-take_page.ensures.streams ∙ ap (λ said. streams_by said c.pages.streams.items) r.0);
    }

pub returns-in-Err-clause-cause : goal.returns-in-Err-clause-cause
returns-in-Err-clause-cause g c pages sure s err =
    let inv = c.pages.invariant in
    let w = inv.left pages sure s in
    let n = next_page (g.S.PageSource.bytes c.args.source.now) c.pages.place c.args.end w.pages w.left c.pages-test.true in
    later_failed _ _ _ inv.later
    (c.in-Err.ensures.cause n.page (inv.source.honest_same.0 sure) (subst (λ b. Stands (drop c.pages.place b) n.page) (sym (inv.source.bytes_same sure)) n.stands) refl)

pub returns-clause-taken : goal.returns-clause-taken
returns-clause-taken g c pages sure s =
    all_walked (g.S.PageSource.bytes c.args.source.now) (streams_after c.args.streams.now.items pages) c.args.end c.pages.place c.pages.streams.items
    (c.pages.invariant.left pages sure s) (omega (arith, c.pages-test.false))
