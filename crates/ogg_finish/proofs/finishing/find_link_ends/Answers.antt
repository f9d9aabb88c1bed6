use Rattle.std.proofs.Common.{◌≡◌, ◌<◌, ◌^◌, ◌-◌, ◌⊎◌, Err, refl, sym, subst, arith, length, List}
use Rattle.link_index.specs.Index.{LinkEntry}
use Rattle.ogg_finish.proofs.Kept.{none_of}
use Rattle.ogg_finish.proofs.Streams.{pages_in}
use Rattle.ogg_finish.proofs.finishing.find_link_ends.Goals as goal

pub returns-in-Err-find_ends-clause-cause : goal.returns-in-Err-find_ends-clause-cause
returns-in-Err-find_ends-clause-cause g c links sure are few =
    let (pages, e) = pages_in links c.args.link 0 (subst (λ (l : List LinkEntry). c.args.link < length l) are.is_index.entries_are c.requires.here) in
    let own = c.in-Ok.ensures.pages links pages are e in
    subst (λ s. (g.S.PageSource.failures s < g.S.PageSource.failures c.find_ends.new.window.source) ⊎ (g.S.PageSource.failures c.find_ends.new.window.source ≡ 2 ^ 64 - 1))
    c.in-Ok.ensures.source
    (c.in-Err-find_ends.ensures.cause pages (subst g.S.PageSource.is_honest (sym c.in-Ok.ensures.source) sure) own.0 own.1)

pub returns-in-Err-clause-cause : goal.returns-in-Err-clause-cause
returns-in-Err-clause-cause g c links sure are few =
    absurd (none_of (Err c.in-Err.field-0) c.in-Err.field-0 refl (λ e. absurd (omega (arith, c.in-Err.ensures.no_link.0 e, c.requires.here))) c.in-Err.ensures.no_stream
    (c.in-Err.ensures.no_source links sure are) c.in-Err.ensures.no_write)
