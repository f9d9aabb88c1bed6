use Rattle.std.proofs.Common.{map, drop, sym, ◌∙◌, subst, arith}
use Rattle.ogg_page.specs.Head.{Stands}
use Rattle.serve_live.specs.Noting.{noted}
use Rattle.serve_live.proofs.Noted.{next_noted, noted_on, all_noted}
use Rattle.page_heads.specs.Laws.{later_failed}
use Rattle.serve_live.proofs.joined.note_pages.Goals as goal

pub pages-preserved : goal.pages-preserved
pages-preserved g c =
    let inv = c.pages.invariant in
    let on = c.read_front.ensures in
    let bytes = g.S.PageSource.bytes c.args.source.now in
    record {
      source = record {
        bytes_same = λ sure. on.source.bytes_same (inv.source.honest_same.0 sure) ∙ inv.source.bytes_same sure;
        honest_same = ((λ h. on.source.honest_same.0 (inv.source.honest_same.0 h)), (λ h. inv.source.honest_same.1 (on.source.honest_same.1 h)));
        size_same = on.source.size_same ∙ inv.source.size_same;
        only = g.met.S.PageSource.reads_on _ _ _ inv.source.only on.source.only;
      };
      later = omega (arith, inv.later, on.later);
      left = λ sure pages rest are stand ends.
          let all = map (noted c.args.part pages) c.args.streams.now in
          let n = next_noted bytes c.args.part all rest c.args.end c.pages.place c.pages.streams (inv.left sure pages rest are stand ends) c.pages-test.true in
          noted_on bytes c.args.part all rest c.args.end c.pages.place c.pages.streams c.note_page.new.streams c.in-Ok.front.facts n
          (c.in-Ok.ensures.read n.page (inv.source.honest_same.0 sure) (subst (λ b. Stands (drop c.pages.place b) n.page) (sym (inv.source.bytes_same sure)) n.stands)).facts
          c.note_page.ensures;
    }

pub returns-in-Err-clause-cause : goal.returns-in-Err-clause-cause
returns-in-Err-clause-cause g c pages rest sure are stand ends err =
    let inv = c.pages.invariant in
    let bytes = g.S.PageSource.bytes c.args.source.now in
    let all = map (noted c.args.part pages) c.args.streams.now in
    let n = next_noted bytes c.args.part all rest c.args.end c.pages.place c.pages.streams (inv.left sure pages rest are stand ends) c.pages-test.true in
    later_failed _ _ _ inv.later
    (c.in-Err.ensures.cause n.page (inv.source.honest_same.0 sure) (subst (λ b. Stands (drop c.pages.place b) n.page) (sym (inv.source.bytes_same sure)) n.stands) err)

pub returns-clause-noted : goal.returns-clause-noted
returns-clause-noted g c pages rest sure are stand ends =
    all_noted (g.S.PageSource.bytes c.args.source.now) c.args.part (map (noted c.args.part pages) c.args.streams.now) rest c.args.end c.pages.place c.pages.streams
    (c.pages.invariant.left sure pages rest are stand ends) (omega (arith, c.pages-test.false))
