use Rattle.std.proofs.Common.{drop, sym, ◌∙◌, ap, subst, arith}
use Rattle.ogg_page.specs.Head.{Stands}
use Rattle.archive_cut.specs.Heads.{streams_by}
use Rattle.archive_cut.proofs.Continued.{passed_on}
use Rattle.archive_cut.specs.HeadsLaws.{next_page}
use Rattle.archive_cut.proofs.continuing.streams_at.Goals as goal

pub pages-preserved : goal.pages-preserved
pages-preserved g c =
    let inv = c.pages.invariant in
    let on = c.read_said.ensures in
    let bytes = g.S.PageSource.bytes c.args.source.now in
    record {
      source = record {
        bytes_same = λ sure. on.source.bytes_same (inv.source.honest_same.0 sure) ∙ inv.source.bytes_same sure;
        honest_same = ((λ h. on.source.honest_same.0 (inv.source.honest_same.0 h)), (λ h. inv.source.honest_same.1 (on.source.honest_same.1 h)));
        size_same = on.source.size_same ∙ inv.source.size_same;
        only = g.met.S.PageSource.reads_on _ _ _ inv.source.only on.source.only;
      };
      left = λ end pages sure s within.
          let w = inv.left end pages sure s within in
          let n = next_page bytes c.pages.at end w.back w.left (omega (arith, within, c.pages-test.true)) in
          let r = c.in-Ok.ensures.read n.page (inv.source.honest_same.0 sure) (subst (λ b. Stands (drop c.pages.at b) n.page) (sym (inv.source.bytes_same sure)) n.stands) in
          passed_on bytes c.args.begin end c.pages.at pages c.pages.streams.items c.take_page.new.streams.items c.in-Ok.size
          w n r.1 (c.in-Ok-take_page.ensures.streams ∙ ap (λ said. streams_by said c.pages.streams.items) r.0);
    }

pub returns-then-at-place-clause-found : goal.returns-then-at-place-clause-found
returns-then-at-place-clause-found g c end pages sure s within =
    let w = c.pages.invariant.left end pages sure s within in
    record { front = w.front; back = w.back; split = w.split; ends = w.ends ∙ c.if-at-place.true; leaves = w.leaves }
