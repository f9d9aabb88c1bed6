use Rattle.std.proofs.Common.{◌≡◌, ◌≤◌, Err, [], length, sym, ◌∙◌, ap, subst, arith}
use Rattle.std.specs.Prelude.{nat_eq}
use Rattle.std.specs.List.{flat_map}
use Rattle.ogg_page.specs.Page.{bytes_of_pages}
use Rattle.page_heads.specs.Laws.{later_failed}
use Rattle.serve_live.specs.Hearing.{IsHearing}
use Rattle.archive_cut.specs.Cutting.{IsSameLink}
use Rattle.archive_cut.specs.Heads.{StandUpTo, streams_after}
use Rattle.archive_cut.specs.declared.fault.CutFault.TheVariants.{Source}
use Rattle.archive_cut.proofs.Starts.{ready_to_join}
use Rattle.archive_cut.proofs.cut.join_at.Goals as goal

pub returns-in-Ok-join_link-clause-hears : goal.returns-in-Ok-join_link-clause-hears
returns-in-Ok-join_link-clause-hears g c committed more links moment sure is end_is l at =
    let bytes = g.S.PageSource.bytes c.args.source.now in
    let r = ready_to_join bytes committed more links moment c.args.start c.args.end c.args.link is end_is l at in
    let up = flat_map bytes_of_pages r.up_to in
    let streams0 = c.in-Ok.ensures.taken r.before sure r.before_stand ∙ ap (λ s. streams_after s r.before) c.new-streams.ensures.items in
    let k1 = c.take_pages.ensures.source in
    let sure1 = k1.honest_same.0 sure in
    let bytes1 = k1.bytes_same sure in
    let place : c.in-Ok-take_link.link_end ≡ length up =
    c.in-Ok-take_link.ensures.found r.since sure1 (subst (λ b. StandUpTo b c.args.start c.args.end r.since) (sym bytes1) r.since_stand) ∙ r.found in
    let own = subst (λ n. StandUpTo bytes c.args.start n r.own) (sym place) r.own_stand in
    let taken1 = c.in-Ok-take_link.ensures.taken r.own sure1 (subst (λ b. StandUpTo b c.args.start c.in-Ok-take_link.link_end r.own) (sym bytes1) own) in
    let streams1 = taken1 ∙ ap (λ s. streams_after s r.own) streams0 ∙ r.own_streams in
    let k2 = c.take_link.ensures.source in
    let sure2 = k2.honest_same.0 sure1 in
    let bytes2 = k2.bytes_same sure1 ∙ bytes1 in
    let hearing1 = c.in-Ok-join_link.ensures.joins up r.more r.up_to moment sure2 (bytes2 ∙ r.bytes_are) (sym place) r.up_links (c.as_slice.ensures.value ∙ streams1) r.place in
    let grown = c.listeners_hear_what_they_should.ensures.grows moment up c.in-Ok-join_link.listener [] (flat_map (λ x. x) r.further) hearing1 r.are_pages in (
      subst (λ b. IsHearing moment b c.in-Ok-join_link.listener []) (sym r.split) grown,
      subst (λ n. IsSameLink moment committed (nat_eq n c.args.end)) (sym place) r.same,
    )

pub returns-in-Ok-join_link-clause-streams : goal.returns-in-Ok-join_link-clause-streams
returns-in-Ok-join_link-clause-streams g c committed more links moment sure is end_is l at =
    let bytes = g.S.PageSource.bytes c.args.source.now in
    let r = ready_to_join bytes committed more links moment c.args.start c.args.end c.args.link is end_is l at in
    let up = flat_map bytes_of_pages r.up_to in
    let streams0 = c.in-Ok.ensures.taken r.before sure r.before_stand ∙ ap (λ s. streams_after s r.before) c.new-streams.ensures.items in
    let k1 = c.take_pages.ensures.source in
    let sure1 = k1.honest_same.0 sure in
    let bytes1 = k1.bytes_same sure in
    let place : c.in-Ok-take_link.link_end ≡ length up =
    c.in-Ok-take_link.ensures.found r.since sure1 (subst (λ b. StandUpTo b c.args.start c.args.end r.since) (sym bytes1) r.since_stand) ∙ r.found in
    let own = subst (λ n. StandUpTo bytes c.args.start n r.own) (sym place) r.own_stand in
    let taken1 = c.in-Ok-take_link.ensures.taken r.own sure1 (subst (λ b. StandUpTo b c.args.start c.in-Ok-take_link.link_end r.own) (sym bytes1) own) in
    let streams1 = taken1 ∙ ap (λ s. streams_after s r.own) streams0 ∙ r.own_streams in
    record {
      pages = flat_map (λ x. x) r.further;
      left = subst (λ n. StandUpTo bytes n c.args.end (flat_map (λ x. x) r.further)) (sym place) r.further_stand;
      then_all = ap (λ s. streams_after s (flat_map (λ x. x) r.further)) streams1 ∙ r.all_streams;
    }

pub returns-in-Err-join_link-clause-cause : goal.returns-in-Err-join_link-clause-cause
returns-in-Err-join_link-clause-cause g c committed more links moment sure is end_is l at err =
    let bytes = g.S.PageSource.bytes c.args.source.now in
    let failures = g.S.PageSource.failures in
    let r = ready_to_join bytes committed more links moment c.args.start c.args.end c.args.link is end_is l at in
    let up = flat_map bytes_of_pages r.up_to in
    let streams0 = c.in-Ok.ensures.taken r.before sure r.before_stand ∙ ap (λ s. streams_after s r.before) c.new-streams.ensures.items in
    let k1 = c.take_pages.ensures.source in
    let sure1 = k1.honest_same.0 sure in
    let bytes1 = k1.bytes_same sure in
    let place : c.in-Ok-take_link.link_end ≡ length up =
    c.in-Ok-take_link.ensures.found r.since sure1 (subst (λ b. StandUpTo b c.args.start c.args.end r.since) (sym bytes1) r.since_stand) ∙ r.found in
    let own = subst (λ n. StandUpTo bytes c.args.start n r.own) (sym place) r.own_stand in
    let taken1 = c.in-Ok-take_link.ensures.taken r.own sure1 (subst (λ b. StandUpTo b c.args.start c.in-Ok-take_link.link_end r.own) (sym bytes1) own) in
    let streams1 = taken1 ∙ ap (λ s. streams_after s r.own) streams0 ∙ r.own_streams in
    let k2 = c.take_link.ensures.source in
    let sure2 = k2.honest_same.0 sure1 in
    let bytes2 = k2.bytes_same sure1 ∙ bytes1 in
    let source : c.in-Err-join_link.fault ≡ Source = cc in
    let later : failures c.args.source.now ≤ failures c.take_link.new.source = omega (arith, c.take_pages.ensures.later, c.take_link.ensures.later) in
    later_failed _ _ _ later
    (c.in-Err-join_link.ensures.cause up r.more r.up_to moment sure2 (bytes2 ∙ r.bytes_are) (sym place) r.up_links (c.as_slice.ensures.value ∙ streams1) r.place (ap Err source))

pub returns-in-Err-take_link-clause-cause : goal.returns-in-Err-take_link-clause-cause
returns-in-Err-take_link-clause-cause g c committed more links moment sure is end_is l at err =
    let bytes = g.S.PageSource.bytes c.args.source.now in
    let r = ready_to_join bytes committed more links moment c.args.start c.args.end c.args.link is end_is l at in
    let k1 = c.take_pages.ensures.source in
    let source : c.in-Err-take_link.fault ≡ Source = cc in
    later_failed _ _ _ c.take_pages.ensures.later
    (c.in-Err-take_link.ensures.cause r.since (k1.honest_same.0 sure)
    (subst (λ b. StandUpTo b c.args.start c.args.end r.since) (sym (k1.bytes_same sure)) r.since_stand) (ap Err source))

pub returns-in-Err-clause-cause : goal.returns-in-Err-clause-cause
returns-in-Err-clause-cause g c committed more links moment sure is end_is l at err =
    let r = ready_to_join (g.S.PageSource.bytes c.args.source.now) committed more links moment c.args.start c.args.end c.args.link is end_is l at in
    let source : c.in-Err.fault ≡ Source = cc in
    c.in-Err.ensures.cause r.before sure r.before_stand (ap Err source)
