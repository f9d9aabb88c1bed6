use Rattle.std.proofs.Common.{sym, ◌∙◌, ap, arith, rules}
use Rattle.serve_sessions.specs.Indexing.{result_of}
use Rattle.serve_sessions.proofs.Fronts.{ends_inside, walked_from, same_reference, lacks_room, is_worth}
use Rattle.serve_sessions.proofs.indexing.bring_up.Goals.{then-end-ge-LENGTHS-via-then-end-ge-LENGTHS, then-end-ge-LENGTHS-via-else-end-ge-LENGTHS+then-end}
use Rattle.serve_sessions.proofs.indexing.bring_up.Goals as goal

pub returns-then-end-ge-LENGTHS-clause-cause : goal.returns-then-end-ge-LENGTHS-clause-cause
returns-then-end-ge-LENGTHS-clause-cause g c e sure short f links are =
    let s = g.S.PageSource in
    let fits = g.met.S.PageSource.fits c.args.window.now.source sure in
    let end_is = c.end-end.ensures ∙ ap s.size c.source_mut.ensures.value in
    elim c.then-end-ge-LENGTHS.branch [
      | then-end-ge-LENGTHS-via-then-end-ge-LENGTHS w ↦ absurd (omega (arith, w.if-end-ge-LENGTHS.true, end_is, short))
      | then-end-ge-LENGTHS-via-else-end-ge-LENGTHS+then-end w ↦ let n = ends_inside c.links_are_indexed.ensures.added (s.bytes c.args.window.now.source) c.args.index.now f in absurd (omega (arith, n, w.if-end.true, w.end.ensures, end_is, fits))
    ]

pub returns-clause-front : goal.returns-clause-front
returns-clause-front g c sure f =
    let s = g.S.PageSource in
    let w = walked_from c.walk-walked.ensures.walked c.set.ensures c.source_mut.ensures.value in
    let same = same_reference w c.of-taker.ensures.taken c.end-2.ensures in
    let end = c.end-end.ensures ∙ ap s.size c.source_mut.ensures.value ∙ sym (g.met.S.PageSource.fits c.args.window.now.source sure) in
    let worth = is_worth w c.of-taker.ensures.taken c.end-2.ensures sure f end c.links_are_indexed.ensures.added c.links_are_indexed.ensures.each in
    search rules

pub returns-clause-whole : goal.returns-clause-whole
returns-clause-whole g c sure f =
    let s = g.S.PageSource in
    let w = walked_from c.walk-walked.ensures.walked c.set.ensures c.source_mut.ensures.value in
    let same = same_reference w c.of-taker.ensures.taken c.end-2.ensures in
    let end = c.end-end.ensures ∙ ap s.size c.source_mut.ensures.value ∙ sym (g.met.S.PageSource.fits c.args.window.now.source sure) in
    let worth = is_worth w c.of-taker.ensures.taken c.end-2.ensures sure f end c.links_are_indexed.ensures.added c.links_are_indexed.ensures.each in
    search rules

pub returns-clause-cause : goal.returns-clause-cause
returns-clause-cause g c e sure short f links are =
    let s = g.S.PageSource in
    let w = walked_from c.walk-walked.ensures.walked c.set.ensures c.source_mut.ensures.value in
    let end = c.end-end.ensures ∙ ap s.size c.source_mut.ensures.value ∙ sym (g.met.S.PageSource.fits c.args.window.now.source sure) in
    let worth = is_worth w c.of-taker.ensures.taken c.end-2.ensures sure f end c.links_are_indexed.ensures.added c.links_are_indexed.ensures.each in
    let why = worth.cause (ap (result_of c.walk-walked.result) (sym c.broken.ensures) ∙ sym c.result_of.ensures ∙ e) links are in
    search rules

pub returns-clause-memory : goal.returns-clause-memory
returns-clause-memory g c e =
    let s = g.S.PageSource in
    let w = walked_from c.walk-walked.ensures.walked c.set.ensures c.source_mut.ensures.value in
    let same = same_reference w c.of-taker.ensures.taken c.end-2.ensures in
    let (page, before, lacks) = lacks_room w c.of-taker.ensures.taken c.end-2.ensures (omega (arith, c.if-end-ge-LENGTHS.false))
    (ap (result_of c.walk-walked.result) (sym c.broken.ensures) ∙ sym c.result_of.ensures ∙ e) in
    search rules
