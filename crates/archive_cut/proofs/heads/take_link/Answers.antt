use Rattle.std.proofs.Common.{◌+◌, ◌<◌, ◌≤◌, drop, length, refl, sym, ◌∙◌, ap, subst, arith}
use Rattle.ogg_page.specs.Head.{Stands}
use Rattle.ogg_page.specs.Page.{bytes_of_pages}
use Rattle.page_heads.specs.Laws.{later_failed}
use Rattle.archive_cut.specs.Heads.{streams_after, streams_by, up_to_first}
use Rattle.archive_cut.specs.HeadsLaws.{next_page}
use Rattle.archive_cut.proofs.Walked.{all_walked, found_end, found_first, sought_on, walked_on}
use Rattle.archive_cut.proofs.heads.take_link.Goals as goal

pub returns-then-said-clause-found : goal.returns-then-said-clause-found
returns-then-said-clause-found g c pages sure s =
    let inv = c.pages.invariant in
    let bytes = g.S.PageSource.bytes c.args.source.now in
    let w = inv.left pages sure s in
    let n = next_page bytes c.pages.place c.args.end w.pages w.left c.pages-test.true in
    let r = c.in-Ok.ensures.read n.page (inv.source.honest_same.0 sure) (subst (λ b. Stands (drop c.pages.place b) n.page) (sym (inv.source.bytes_same sure)) n.stands) in
    found_first bytes (c.args.start + length (bytes_of_pages (up_to_first pages))) c.args.end c.pages.place w n (sym (ap (λ said. said.begins) r.0) ∙ c.if-said.true)

pub returns-then-said-clause-taken : goal.returns-then-said-clause-taken
returns-then-said-clause-taken g c own sure s =
    let here : c.pages.place ≤ c.pages.place = omega arith in
    all_walked (g.S.PageSource.bytes c.args.source.now) (streams_after c.args.streams.now.items own) c.pages.place c.pages.place c.pages.streams.items
    (c.pages.invariant.own own c.pages.place sure s here) here

pub pages-preserved : goal.pages-preserved
pages-preserved g c =
    let inv = c.pages.invariant in
    let on = c.read_said.ensures in
    let bytes = g.S.PageSource.bytes c.args.source.now in
    record {
      source = record {
        bytes_same = λ sure. on.source.bytes_same (inv.source.honest_same.0 sure) ∙ inv.source.bytes_same sure;
        honest_same = ((λ h. on.source.honest_same.0 (inv.source.honest_same.0 h)), (λ h. inv.source.honest_same.1 (on.source.honest_same.1 h)));
        size_same = on.source.size_same ∙ inv.source.size_same;
        only = g.met.S.PageSource.reads_on _ _ _ inv.source.only on.source.only;
      };
      later = omega (arith, inv.later, on.later);
      left = λ pages sure s.
          let w = inv.left pages sure s in
          let n = next_page bytes c.pages.place c.args.end w.pages w.left c.pages-test.true in
          let r = c.in-Ok.ensures.read n.page (inv.source.honest_same.0 sure) (subst (λ b. Stands (drop c.pages.place b) n.page) (sym (inv.source.bytes_same sure)) n.stands) in
          sought_on bytes (c.args.start + length (bytes_of_pages (up_to_first pages))) c.args.end c.pages.place c.in-Ok.size w n r.1
          (sym (ap (λ said. said.begins) r.0) ∙ c.if-said.false);
      own = λ own stop sure s within.
          let some : 0 < c.in-Ok.size = c.in-Ok.ensures.inside.0 in
          let before : c.pages.place < stop = omega (arith, some, within) in
          let w = inv.own own stop sure s (omega (arith, before)) in
          let n = next_page bytes c.pages.place stop w.pages w.left before in
          let r = c.in-Ok.ensures.read n.page (inv.source.honest_same.0 sure) (subst (λ b. Stands (drop c.pages.place b) n.page) (sym (inv.source.bytes_same sure)) n.stands) in
          walked_on bytes (streams_after c.args.streams.now.items own) stop c.pages.place c.pages.streams.items c.take_page.new.streams.items c.in-Ok.size
          w n r.1 (c.in-Ok-take_page.ensures.streams ∙ ap (λ said. streams_by said c.pages.streams.items) r.0);
    }

pub returns-in-Err-clause-cause : goal.returns-in-Err-clause-cause
returns-in-Err-clause-cause g c pages sure s err =
    let inv = c.pages.invariant in
    let w = inv.left pages sure s in
    let n = next_page (g.S.PageSource.bytes c.args.source.now) c.pages.place c.args.end w.pages w.left c.pages-test.true in
    later_failed _ _ _ inv.later
    (c.in-Err.ensures.cause n.page (inv.source.honest_same.0 sure) (subst (λ b. Stands (drop c.pages.place b) n.page) (sym (inv.source.bytes_same sure)) n.stands) refl)

pub returns-clause-found : goal.returns-clause-found
returns-clause-found g c pages sure s =
    found_end (g.S.PageSource.bytes c.args.source.now) (c.args.start + length (bytes_of_pages (up_to_first pages))) c.args.end c.pages.place
    (c.pages.invariant.left pages sure s) (omega (arith, c.pages-test.false))

pub returns-clause-taken : goal.returns-clause-taken
returns-clause-taken g c own sure s =
    let here : c.pages.place ≤ c.pages.place = omega arith in
    all_walked (g.S.PageSource.bytes c.args.source.now) (streams_after c.args.streams.now.items own) c.pages.place c.pages.place c.pages.streams.items
    (c.pages.invariant.own own c.pages.place sure s here) here
