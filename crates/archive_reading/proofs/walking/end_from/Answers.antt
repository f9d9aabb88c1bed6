use Rattle.std.proofs.Common.{ℕ, ◌+◌, ◌<◌, ◌≤◌, List, Ok, drop, sym, ◌∙◌, ap, subst, inl, inr, arith}
use Rattle.ogg_page.specs.Head.{Stands}
use Rattle.ogg_page.specs.Page.{page_size}
use Rattle.ogg_page.specs.Laws.HeadBytes.{lies_inside}
use Rattle.page_heads.specs.Laws.{later_failed}
use Rattle.gate_file.specs.Commit.{IsTail}
use Rattle.archive_reading.specs.Ends.{EndsFrom}
use Rattle.archive_reading.specs.declared.walking.At.{At}
use Rattle.archive_reading.proofs.Walks.{next_or_end, no_page, no_tail, same_page}
use Rattle.archive_reading.proofs.walking.end_from.Goals as goal

pub returns-then-from-size-clause-cause : goal.returns-then-from-size-clause-cause
returns-then-from-size-clause-cause g c end sure e err =
    absurd (omega (arith, e.inside, g.met.S.PageSource.fits c.args.source.now sure, c.end-size.ensures, c.if-from-size.true))

pub loop-place-preserved : goal.loop-place-preserved
loop-place-preserved g c =
    let inv = c.loop-place.invariant in
    let on = c.at_place.ensures in
    let it = c.in-Ok-Page in
    let bytes = g.S.PageSource.bytes c.args.source.now in
    let bounds = on.inside it.behind (it.is ∙ ap (λ (at : At). Ok at) it.field-0-is) in
    let last : it.behind ≤ g.S.PageSource.size c.loop-place.source = bounds.1 in
    let first : c.loop-place.place < it.behind = bounds.0 in
    record {
      after = omega (arith, inv.after, first);
      inside = omega (arith, last, inv.source.size_same, inv.size_is);
      size_is = inv.size_is;
      source = record {
        bytes_same = λ sure. on.source.bytes_same (inv.source.honest_same.0 sure) ∙ inv.source.bytes_same sure;
        honest_same = ((λ h. on.source.honest_same.0 (inv.source.honest_same.0 h)), (λ h. inv.source.honest_same.1 (on.source.honest_same.1 h)));
        size_same = on.source.size_same ∙ inv.source.size_same;
        only = g.met.S.PageSource.reads_on _ _ _ inv.source.only on.source.only;
      };
      later = omega (arith, inv.later, on.later);
      left = λ end sure e.
          let still = inv.source.honest_same.0 sure in
          let back = sym (inv.source.bytes_same sure) in
          elim (next_or_end bytes c.loop-place.place end (inv.left end sure e)) [
            | inl n ↦
                (let stands = subst (λ (b : List ℕ). Stands (drop c.loop-place.place b) n.page) back n.stands in
                let behind = same_page c.at_place.result it.field-0 it.behind (c.loop-place.place + page_size n.page) it.is it.field-0-is (on.page n.page still stands) in
                subst (λ (place : ℕ). EndsFrom bytes place end) (sym behind) n.on)
            | inr t ↦
                (let tail = subst (λ (b : List ℕ). IsTail (drop c.loop-place.place b)) back t.is_tail in
                absurd (no_tail c.at_place.result it.field-0 it.behind it.is it.field-0-is (on.tail still tail)))
          ];
    }

pub returns-in-Ok-Tail-clause-ends : goal.returns-in-Ok-Tail-clause-ends
returns-in-Ok-Tail-clause-ends g c end sure e =
    let inv = c.loop-place.invariant in
    let on = c.at_place.ensures in
    let it = c.in-Ok-Tail in
    elim (next_or_end (g.S.PageSource.bytes c.args.source.now) c.loop-place.place end (inv.left end sure e)) [
      | inl n ↦
          (let stands = subst (λ (b : List ℕ). Stands (drop c.loop-place.place b) n.page) (sym (inv.source.bytes_same sure)) n.stands in
          absurd (no_page c.at_place.result it.field-0 (c.loop-place.place + page_size n.page) it.is it.field-0-is (on.page n.page (inv.source.honest_same.0 sure) stands)))
      | inr t ↦ sym t.end_is
    ]

pub returns-in-Err-clause-cause : goal.returns-in-Err-clause-cause
returns-in-Err-clause-cause g c end sure e err =
    let inv = c.loop-place.invariant in
    let still = inv.source.honest_same.0 sure in
    let back = sym (inv.source.bytes_same sure) in
    elim (next_or_end (g.S.PageSource.bytes c.args.source.now) c.loop-place.place end (inv.left end sure e)) [
      | inl n ↦
          later_failed _ _ _ inv.later
          (c.in-Err.ensures.page_cause n.page still (subst (λ (b : List ℕ). Stands (drop c.loop-place.place b) n.page) back n.stands) err)
      | inr t ↦
          later_failed _ _ _ inv.later
          (c.in-Err.ensures.tail_cause still (subst (λ (b : List ℕ). IsTail (drop c.loop-place.place b)) back t.is_tail) err)
    ]

pub returns-clause-ends : goal.returns-clause-ends
returns-clause-ends g c end sure e =
    let inv = c.loop-place.invariant in
    elim (next_or_end (g.S.PageSource.bytes c.args.source.now) c.loop-place.place end (inv.left end sure e)) [
      | inl n ↦
          absurd (omega (
            arith,
            lies_inside (g.S.PageSource.bytes c.args.source.now) n.page c.loop-place.place n.stands,
            g.met.S.PageSource.fits c.args.source.now sure,
            inv.size_is,
            inv.inside,
            c.loop-place-test.false,
          ))
      | inr t ↦ sym t.end_is
    ]
