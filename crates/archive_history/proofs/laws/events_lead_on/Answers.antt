use Rattle.std.specs.Prelude.{◌≡◌, ◌++◌}
use Rattle.std.proofs.Common.{sym, ◌∙◌, subst}
use Rattle.archive_history.specs.Archive.{Archive, nothing}
use Rattle.archive_history.specs.Accounted.{StandsAs}
use Rattle.archive_history.specs.History.{Point, AreEvents, account_after, point_after}
use Rattle.archive_history.specs.Leading.{stays, and_then, are_both, account_both, point_both}
use Rattle.archive_history.proofs.Steps.{events_hold}
use Rattle.archive_history.proofs.laws.events_lead_on.Goals as goal

pub returns-clause-nothing : goal.returns-clause-nothing
returns-clause-nothing g c = λ first a here.
    let f = g.F.Folder in
    let r = g.B.Recordings in
    stays f.names f.moment f.left_since g.D.Disk r.shows r.accepts r.next first a here

pub returns-clause-both : goal.returns-clause-both
returns-clause-both g c = λ first x y z old mid new p q.
    let f = g.F.Folder in
    let r = g.B.Recordings in
    and_then f.names f.moment f.left_since g.D.Disk r.shows r.accepts r.next first x y z old mid new p q

pub returns-clause-stands : goal.returns-clause-stands
returns-clause-stands g c = λ first a b old new empty_shows stands leads.
    let f = g.F.Folder in
    let r = g.B.Recordings in
    subst (λ (x : Archive r.Command). StandsAs f.names g.D.Disk r.shows r.next first x new) leads.leads
    (subst (λ (p : Point g.row.F.Denot g.row.D.Denot). StandsAs f.names g.D.Disk r.shows r.next first (account_after a leads.events) p) leads.ends
    (events_hold f.names f.moment f.left_since g.D.Disk r.shows r.accepts r.next first empty_shows
    (c.disks_stand_in_their_world.ensures.any_moment first) (c.disks_stand_in_their_world.ensures.step first) a old leads.events stands leads.are))

pub returns-clause-history : goal.returns-clause-history
returns-clause-history g c = λ first start now new a b events history leads.
    let f = g.F.Folder in
    let r = g.B.Recordings in
    let xs = events in
    let ys = leads.events in
    let here : AreEvents f.names f.moment f.left_since g.D.Disk r.shows r.accepts r.next first (account_after nothing xs) (point_after start xs) ys =
    subst (λ (x : Archive r.Command). AreEvents f.names f.moment f.left_since g.D.Disk r.shows r.accepts r.next first x (point_after start xs) ys) (sym history.leads)
    (subst (λ (x : Point g.row.F.Denot g.row.D.Denot). AreEvents f.names f.moment f.left_since g.D.Disk r.shows r.accepts r.next first a x ys) (sym history.ends) leads.are) in (
      xs ++ ys,
      record {
        begins = history.begins;
        are = are_both f.names f.moment f.left_since g.D.Disk r.shows r.accepts r.next first nothing start xs ys history.are here;
        leads = account_both f.names f.moment f.left_since g.D.Disk r.shows r.accepts r.next first nothing xs ys ∙ (λ i. account_after (history.leads i) ys) ∙ leads.leads;
        ends = point_both f.names f.moment f.left_since g.D.Disk r.shows r.accepts r.next first start xs ys ∙ (λ i. point_after (history.ends i) ys) ∙ leads.ends;
      },
    )
