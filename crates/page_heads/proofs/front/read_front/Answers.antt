use Rattle.std.proofs.Common.{◌≡◌, ◌-◌, ◌≤◌, Some, None, length, take, drop, min, sym, ◌∙◌, ap, arith, length-drop}
use Rattle.page_heads.specs.Fronts.{facts_of}
use Rattle.ogg_page.specs.Laws.HeadBytes.{head_fits, lies_inside}
use Rattle.page_heads.proofs.Heads.{head_is}
use Rattle.page_heads.proofs.front.read_front.Goals as goal

pub returns-then-place-end-clause-cause : goal.returns-then-place-end-clause-cause
returns-then-place-end-clause-cause g c page sure s err =
    let bytes = g.S.PageSource.bytes c.args.source.now in
    let inside = lies_inside bytes page c.args.place s in
    absurd (omega (arith, inside, g.met.S.PageSource.fits c.args.source.now sure, c.end-end.ensures, c.if-place-end.true))

pub returns-then-facts-end-clause-cause : goal.returns-then-facts-end-clause-cause
returns-then-facts-end-clause-cause g c page sure s err =
    let bytes = g.S.PageSource.bytes c.args.source.now in
    let all : length bytes ≡ c.end-end.result = g.met.S.PageSource.fits c.args.source.now sure ∙ sym c.end-end.ensures in
    let count : c.min-count.result ≡ min (length bytes - c.args.place) 282 = c.min-count.ensures ∙ ap (λ k. min (k - c.args.place) 282) (sym all) in
    let read = c.in-Ok.ensures.read sure ∙ ap (λ k. take k (drop c.args.place bytes)) c.split_at_mut-front.ensures.front_len in
    let same = c.facts_of.ensures.told (drop c.args.place bytes) page c.min-count.result s (head_fits bytes page c.args.place c.min-count.result s count) read in
    let facts : c.in-Some.facts ≡ facts_of page = cc in
    absurd (omega (arith, lies_inside bytes page c.args.place s, all, c.if-facts-end.true, ap (λ x. x.size) facts))

pub returns-else-facts-end-clause-read : goal.returns-else-facts-end-clause-read
returns-else-facts-end-clause-read g c page sure s =
    let bytes = g.S.PageSource.bytes c.args.source.now in
    let all : length bytes ≡ c.end-end.result = g.met.S.PageSource.fits c.args.source.now sure ∙ sym c.end-end.ensures in
    let count : c.min-count.result ≡ min (length bytes - c.args.place) 282 = c.min-count.ensures ∙ ap (λ k. min (k - c.args.place) 282) (sym all) in
    let read = c.in-Ok.ensures.read sure ∙ ap (λ k. take k (drop c.args.place bytes)) c.split_at_mut-front.ensures.front_len in
    let fits = head_fits bytes page c.args.place c.min-count.result s count in
    let same = c.facts_of.ensures.told (drop c.args.place bytes) page c.min-count.result s fits read in
    let facts : c.in-Some.facts ≡ facts_of page = cc in
    let long : c.min-count.result ≤ length (drop c.args.place bytes) = grind (arith, count, length-drop) in
    record {
      is_page = s.is_page;
      facts = facts;
      bytes = head_is (drop c.args.place bytes) c.read_at.new.buffer c.split_at_mut-front.result.1.now page c.min-count.result s fits long read;
    }

pub returns-in-None-clause-cause : goal.returns-in-None-clause-cause
returns-in-None-clause-cause g c page sure s err =
    let bytes = g.S.PageSource.bytes c.args.source.now in
    let all : length bytes ≡ c.end-end.result = g.met.S.PageSource.fits c.args.source.now sure ∙ sym c.end-end.ensures in
    let count : c.min-count.result ≡ min (length bytes - c.args.place) 282 = c.min-count.ensures ∙ ap (λ k. min (k - c.args.place) 282) (sym all) in
    let read = c.in-Ok.ensures.read sure ∙ ap (λ k. take k (drop c.args.place bytes)) c.split_at_mut-front.ensures.front_len in
    let same = c.facts_of.ensures.told (drop c.args.place bytes) page c.min-count.result s (head_fits bytes page c.args.place c.min-count.result s count) read in
    let none : None ≡ Some (facts_of page) = sym c.in-None.is ∙ same in
    cc
