use Rattle.std.proofs.Common.{◌≡◌, List, map, sym, ◌∙◌, subst}
use Rattle.std.specs.Prelude.{OnOk}
use Rattle.serve_live.specs.Noting.{noted}
use Rattle.serve_live.specs.declared.joined.JoinedStream.{JoinedStream}
use Rattle.serve_live.specs.declared.joined.LinkPart.TheVariants.{Since}
use Rattle.serve_live.proofs.Places.{begin_stands, since_stands, begin_pages, since_pages, stand_at}
use Rattle.page_heads.specs.Laws.{later_failed}
use Rattle.serve_live.proofs.listener.note_link.Goals as goal

pub returns-in-Ok-clause-noted : goal.returns-in-Ok-clause-noted
returns-in-Ok-clause-noted g c committed more links moment sure is end l at =
    let place = c.args.place in
    let bytes = g.S.PageSource.bytes c.args.source.now in
    let first = c.in-Ok.ensures.noted moment.begin _ sure (begin_pages committed links moment place l at) (begin_stands committed more bytes links moment place is l at) (sym at.begun_is) in
    let now = c.note_pages.ensures.source.bytes_same sure ∙ is in
    let second = c.note_pages-in-Ok.ensures.noted at.since more (c.note_pages.ensures.source.honest_same.0 sure) (since_pages committed links moment place l at)
    (since_stands committed more _ links moment place now l at) ((stand_at committed links moment place l at).end_is ∙ end) in
    subst (λ (x : List JoinedStream). OnOk c.note_pages-in-Ok.result (c.note_pages-in-Ok.new.streams ≡ map (noted Since at.since) x)) first second

pub returns-in-Ok-clause-cause : goal.returns-in-Ok-clause-cause
returns-in-Ok-clause-cause g c committed more links moment sure is end l at err =
    let place = c.args.place in
    let now = c.note_pages.ensures.source.bytes_same sure ∙ is in
    later_failed _ _ _ c.note_pages.ensures.later
    (c.note_pages-in-Ok.ensures.cause at.since more (c.note_pages.ensures.source.honest_same.0 sure) (since_pages committed links moment place l at)
    (since_stands committed more _ links moment place now l at) ((stand_at committed links moment place l at).end_is ∙ end) err)

pub returns-in-Err-clause-cause : goal.returns-in-Err-clause-cause
returns-in-Err-clause-cause g c committed more links moment sure is end l at err =
    let place = c.args.place in
    let bytes = g.S.PageSource.bytes c.args.source.now in
    c.in-Err.ensures.cause moment.begin _ sure (begin_pages committed links moment place l at) (begin_stands committed more bytes links moment place is l at) (sym at.begun_is) err
