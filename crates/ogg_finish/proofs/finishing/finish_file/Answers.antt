use Rattle.std.proofs.Common.{◌<◌, ◌≤◌, refl, sym, ap, subst, arith, length, List, Err}
use Rattle.link_index.specs.Index.{LinkEntry}
use Rattle.ogg_split.specs.Asked.{AreIndexed}
use Rattle.ogg_finish.specs.declared.fault.FinishFault.TheVariants.{Source}
use Rattle.ogg_finish.proofs.InTurn.{one_more_link, cut_in_link, all_written}
use Rattle.ogg_finish.proofs.Kept.{keeps_on, one_fault}
use Rattle.ogg_finish.proofs.Passed.{later_cause}
use Rattle.ogg_finish.proofs.Streams.{pages_in, as_many_links}
use Rattle.ogg_finish.proofs.finishing.finish_file.Goals as goal

pub returns-in-Err-clause-prefix : goal.returns-in-Err-clause-prefix
returns-in-Err-clause-prefix g c links sure are =
    let s = g.S.PageSource in
    let inv = c.loop-link.invariant in
    let still : AreIndexed links c.args.index.now (s.bytes c.loop-link.window.source) = subst (AreIndexed links c.args.index.now) (sym (inv.source.bytes_same sure)) are in
    let here : c.loop-link.link < length c.args.index.now.entries = omega (arith, c.loop-link-test.true, c.links-link-end.ensures) in
    let (pages, e) = pages_in links c.loop-link.link 0 (subst (λ (l : List LinkEntry). c.loop-link.link < length l) are.is_index.entries_are here) in
    cut_in_link links c.loop-link.link pages _ _ _ (inv.written links sure are) e (c.in-Err.ensures.written links pages (inv.source.honest_same.0 sure) still e)

pub returns-in-Err-clause-cause : goal.returns-in-Err-clause-cause
returns-in-Err-clause-cause g c links sure are why =
    let s = g.S.PageSource in
    let inv = c.loop-link.invariant in
    let still : AreIndexed links c.args.index.now (s.bytes c.loop-link.window.source) = subst (AreIndexed links c.args.index.now) (sym (inv.source.bytes_same sure)) are in
    later_cause _ _ _ _ inv.later (c.in-Err.ensures.cause links (inv.source.honest_same.0 sure) still (ap Err (one_fault _ c.in-Err.fault Source refl why)))

pub loop-link-preserved : goal.loop-link-preserved
loop-link-preserved g c =
    let s = g.S.PageSource in
    let inv = c.loop-link.invariant in
    let here : c.loop-link.link < length c.args.index.now.entries = omega (arith, c.loop-link-test.true, c.links-link-end.ensures) in
    record {
      source = keeps_on s.bytes s.is_honest s.size s.only_reads g.met.S.PageSource.reads_on _ _ _ inv.source c.in-Ok.ensures.source;
      later = omega (arith, inv.later, c.in-Ok.ensures.later);
      written = λ links sure are.
          let (pages, e) = pages_in links c.loop-link.link 0 (subst (λ (l : List LinkEntry). c.loop-link.link < length l) are.is_index.entries_are here) in
          let still : AreIndexed links c.args.index.now (s.bytes c.loop-link.window.source) = subst (AreIndexed links c.args.index.now) (sym (inv.source.bytes_same sure)) are in
          one_more_link links c.loop-link.link pages _ _ _ (inv.written links sure are) e (c.in-Ok.ensures.written links pages (inv.source.honest_same.0 sure) still e).1;
    }

pub returns-clause-written : goal.returns-clause-written
returns-clause-written g c links sure are =
    let inv = c.loop-link.invariant in
    let all : length links ≤ c.loop-link.link =
    omega (arith, c.loop-link-test.false, c.links-link-end.ensures, ap length are.is_index.entries_are, as_many_links links 0) in
    all_written links c.loop-link.link _ _ (inv.written links sure are) all
