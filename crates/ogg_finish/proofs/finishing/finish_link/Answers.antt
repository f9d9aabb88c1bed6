use Rattle.std.proofs.Common.{◌≡◌, ◌<◌, ◌≤◌, sym, ◌∙◌, ap, subst, length, map, List}
use Rattle.std.specs.Prelude.{slice_get}
use Rattle.std.proofs.lemmas.Option.{slice_get_within}
use Rattle.ogg_page.specs.Page.{Page, bytes_of_pages}
use Rattle.link_chain.specs.Links.{serials_of}
use Rattle.link_index.specs.Index.{LinkEntry, stream_info}
use Rattle.link_index.specs.declared.info.StreamInfo.{StreamInfo}
use Rattle.ogg_split.specs.Asked.{AreIndexed}
use Rattle.ogg_split.specs.Copying.{IsCopy}
use Rattle.ogg_finish.specs.declared.fault.FinishFault.{FinishFault}
use Rattle.ogg_finish.specs.declared.stream_end.StreamEnd.{StreamEnd}
use Rattle.ogg_finish.specs.Ends.{ends_after, finished_by, without_pages}
use Rattle.ogg_finish.proofs.Passed.{later_cause}
use Rattle.ogg_finish.proofs.Streams.{end_in, ends_of_link, by_ends, streams_in, pages_in, link_in, few_streams}
use Rattle.ogg_finish.proofs.finishing.finish_link.Goals as goal

pub returns-in-Ok-clause-written : goal.returns-in-Ok-clause-written
returns-in-Ok-clause-written g c links pages sure are e =
    let kept = c.in-Ok.ensures.source in
    let still : AreIndexed links c.args.index.now (g.S.PageSource.bytes c.find_link_ends.new.window.source) =
    subst (AreIndexed links c.args.index.now) (sym (kept.bytes_same sure)) are in
    let wrote = c.write_link.ensures.written links pages (kept.honest_same.0 sure) still e in
    let (entry, there, is) = c.in-Some.ensures.streams in
    let streams_are : c.in-Some.streams.now ≡ map (stream_info pages) (serials_of pages) =
    is ∙ streams_in links c.args.link 0 pages entry e (ap (λ (l : List LinkEntry). slice_get l c.args.link) (sym are.is_index.entries_are) ∙ there) in
    let ends_are : c.as_slice.result.now ≡ map (end_in pages) (serials_of pages) =
    c.as_slice.ensures.value ∙ c.in-Ok.ensures.found links pages sure are e
    ∙ ap (λ (l : List StreamInfo). ends_after pages (map without_pages l)) streams_are ∙ ends_of_link pages in
    subst (λ (l : List Page). IsCopy {E = FinishFault} (g.W.Write.contents c.args.out.now) (g.W.Write.contents c.write_link.new.out) (bytes_of_pages l) c.write_link.result)
    (ap (λ (x : List StreamEnd). finished_by x pages) ends_are ∙ by_ends pages (link_in links c.args.link pages are.are_links.each e)) wrote

pub returns-in-Ok-clause-cause : goal.returns-in-Ok-clause-cause
returns-in-Ok-clause-cause g c links sure are why =
    let kept = c.in-Ok.ensures.source in
    let still : AreIndexed links c.args.index.now (g.S.PageSource.bytes c.find_link_ends.new.window.source) =
    subst (AreIndexed links c.args.index.now) (sym (kept.bytes_same sure)) are in
    later_cause _ _ _ _ c.in-Ok.ensures.later (c.write_link.ensures.cause links (kept.honest_same.0 sure) still why)

pub returns-in-Err-clause-cause : goal.returns-in-Err-clause-cause
returns-in-Err-clause-cause g c links sure are why =
    let (entry, there, is) = c.in-Some.ensures.streams in
    let here : c.args.link < length c.args.index.now.entries = slice_get_within c.args.index.now.entries c.args.link entry there in
    let (pages, e) = pages_in links c.args.link 0 (subst (λ (l : List LinkEntry). c.args.link < length l) are.is_index.entries_are here) in
    let streams_are : c.in-Some.streams.now ≡ map (stream_info pages) (serials_of pages) =
    is ∙ streams_in links c.args.link 0 pages entry e (ap (λ (l : List LinkEntry). slice_get l c.args.link) (sym are.is_index.entries_are) ∙ there) in
    c.in-Err.ensures.cause links sure are
    (subst (λ (l : List StreamInfo). length l ≤ 64) (sym streams_are) (few_streams pages (link_in links c.args.link pages are.are_links.each e)))
