use Rattle.std.proofs.Common.{◌≡◌, ℕ, ◌+◌, List, ◌∷◌, suc, false, drop, drop-cons, get_or, sym, ◌∙◌, ap, subst, arith}
use Rattle.ogg_page.specs.Head.{Stands}
use Rattle.link_chain.specs.declared.stream_state.StreamState.{StreamState}
use Rattle.archive_cut.specs.Continuing.{firsts_of}
use Rattle.archive_cut.proofs.Continued.{IsFound, found_on}
use Rattle.archive_cut.specs.HeadsLaws.{next_page}
use Rattle.archive_cut.proofs.continuing.firsts_of.Goals as goal

nobody : StreamState
nobody = record { serial = 0; next_sequence = 0; last_position = 0; ended = false; finished = false }

pub loop-stream-preserved : goal.loop-stream-preserved
unfolding nobody
loop-stream-preserved g c =
    let inv = c.loop-stream.invariant in
    let front = c.read_front.ensures.source in
    let added = c.add_first.ensures.source in
    let bytes : List ℕ = g.S.PageSource.bytes c.args.source.now in
    let streams : List StreamState = c.args.streams.now in
    let at : ℕ = c.loop-stream.stream-index in
    let stream : StreamState = get_or streams at nobody in
    let next : suc at ≡ at + 1 = omega arith in
    let split : drop at streams ≡ stream ∷ drop (at + 1) streams =
    drop-cons streams at nobody c.loop-stream-test.true ∙ ap (λ n. stream ∷ drop n streams) next in
    record {
      source = record {
        bytes_same = λ sure. added.bytes_same (front.honest_same.0 (inv.source.honest_same.0 sure)) ∙ front.bytes_same (inv.source.honest_same.0 sure) ∙ inv.source.bytes_same sure;
        honest_same = (
          (λ h. added.honest_same.0 (front.honest_same.0 (inv.source.honest_same.0 h))),
          (λ h. inv.source.honest_same.1 (front.honest_same.1 (added.honest_same.1 h))),
        );
        size_same = added.size_same ∙ front.size_same ∙ inv.source.size_same;
        only = g.met.S.PageSource.reads_on _ _ _ inv.source.only (g.met.S.PageSource.reads_on _ _ _ front.only added.only);
      };
      left = λ pages sure s.
          let all : List ℕ = firsts_of streams pages in
          let w = subst (λ l. IsFound bytes c.args.end c.loop-stream.place l c.loop-stream.found.items all) split (inv.left pages sure s) in
          let n = next_page bytes c.loop-stream.place c.args.end w.back w.left c.if-place-end.false in
          let here = inv.source.honest_same.0 sure in
          let there = front.honest_same.0 here in
          let r = c.in-Ok.ensures.read n.page here (subst (λ b. Stands (drop c.loop-stream.place b) n.page) (sym (inv.source.bytes_same sure)) n.stands) in
          let size_is = ap (λ f. f.size) r.facts in
          found_on bytes c.args.end c.loop-stream.place c.in-Ok.front.facts.size stream (drop (at + 1) streams) c.loop-stream.found.items c.add_first.new.found.items all
          w n size_is
          (c.in-Ok-add_first.ensures.added n.page there
          (subst (λ b. Stands (drop c.loop-stream.place b) n.page) (sym (front.bytes_same here ∙ inv.source.bytes_same sure)) n.stands) size_is);
    }
