use Rattle.std.proofs.Common.{List, sym, ◌∙◌, ap, subst}
use Rattle.archive_folder.specs.declared.names.Name.{Name}
use Rattle.archive_folder.specs.Names.{removed}
use Rattle.archive_folder.specs.Clock.{MayHaveRemoved}
use Rattle.archive_folder.specs.NamesLaws.{left_of_removed}
use Rattle.archive_history.specs.Archive.{names, Throwing, begun_by}
use Rattle.archive_history.proofs.Events.{throwing, failed_throwing, failed_throwing_same, same_account}
use Rattle.archive_history.proofs.Led.{threw_leads}
use Rattle.archive_history.proofs.NewFiles.{leaves_names}
use Rattle.archive_history.proofs.Removals.{threw_as}
use Rattle.archive_history.proofs.throwing.throw_away.Goals as goal

pub returns-in-Ok-clause-any_moment : goal.returns-in-Ok-clause-any_moment
returns-in-Ok-clause-any_moment g c = λ honest.
    let f = g.F.Folder in
    let old = c.args.folder.now in
    leaves_names f.names f.moment f.left_since (removed c.args.name.number (f.names old)) old c.remove.new.self (g.met.F.Folder.laws old honest) (c.remove.ensures.time honest) (left_of_removed (f.names old) c.args.name.number)

pub returns-in-Err-clause-any_moment : goal.returns-in-Err-clause-any_moment
returns-in-Err-clause-any_moment g c = λ honest.
    let f = g.F.Folder in
    let old = c.args.folder.now in
    leaves_names f.names f.moment f.left_since (removed c.args.name.number (f.names old)) old c.remove.new.self (g.met.F.Folder.laws old honest) (c.remove.ensures.time honest) (left_of_removed (f.names old) c.args.name.number)

pub returns-in-Ok-clause-thrown : goal.returns-in-Ok-clause-thrown
returns-in-Ok-clause-thrown g c = λ honest first a disks empty_shows stands other.
    let f = g.F.Folder in
    let b = g.B.Recordings in
    let old = c.args.folder.now in
    let laws = g.met.F.Folder.laws old honest in
    threw_as f.names f.moment f.left_since g.D.Disk b.shows b.accepts b.next first
    (λ x y event o n s. c.folders_stand_as_their_account.ensures.event first x y event o n empty_shows s)
    a (begun_by a (Throwing c.args.name.number)) c.args.name.number disks old c.remove.new.self stands other laws (c.remove.ensures.time honest)
    (same_account (begun_by a (Throwing c.args.name.number)))
    (c.in-Ok.ensures.removed honest ∙ ap (λ (ns : List Name). removed c.args.name.number ns) stands.names_are ∙ sym (throwing a c.args.name.number other))

pub returns-in-Err-clause-failed : goal.returns-in-Err-clause-failed
returns-in-Err-clause-failed g c = λ honest first a disks empty_shows stands other.
    let f = g.F.Folder in
    let b = g.B.Recordings in
    let old = c.args.folder.now in
    let laws = g.met.F.Folder.laws old honest in
    let may : MayHaveRemoved c.args.name.number (names a) (f.names c.remove.new.self) =
    subst (λ (ns : List Name). MayHaveRemoved c.args.name.number ns (f.names c.remove.new.self)) stands.names_are (c.in-Err.ensures.failed honest) in
    let after = failed_throwing a c.args.name.number (f.names c.remove.new.self) other may in (
      after.0,
      after.1,
      threw_as f.names f.moment f.left_since g.D.Disk b.shows b.accepts b.next first
          (λ x y event o n s. c.folders_stand_as_their_account.ensures.event first x y event o n empty_shows s)
          a after.0 c.args.name.number disks old c.remove.new.self stands other laws (c.remove.ensures.time honest) after.1 after.2,
    )

pub returns-in-Ok-clause-leads : goal.returns-in-Ok-clause-leads
returns-in-Ok-clause-leads g c = λ honest first a disks other same.
    let f = g.F.Folder in
    let b = g.B.Recordings in
    let old = c.args.folder.now in
    let after = begun_by a (Throwing c.args.name.number) in
    threw_leads f.names f.moment f.left_since g.D.Disk b.shows b.accepts b.next first
    a after c.args.name.number disks old c.remove.new.self other same (g.met.F.Folder.laws old honest) (c.remove.ensures.time honest) (same_account after)
    (c.in-Ok.ensures.removed honest ∙ ap (λ (ns : List Name). removed c.args.name.number ns) same ∙ sym (throwing a c.args.name.number other))

pub returns-in-Err-clause-failed_leads : goal.returns-in-Err-clause-failed_leads
returns-in-Err-clause-failed_leads g c = λ honest first a disks other same.
    let f = g.F.Folder in
    let b = g.B.Recordings in
    let old = c.args.folder.now in
    let may : MayHaveRemoved c.args.name.number (names a) (f.names c.remove.new.self) =
    subst (λ (ns : List Name). MayHaveRemoved c.args.name.number ns (f.names c.remove.new.self)) same (c.in-Err.ensures.failed honest) in
    let after = failed_throwing_same a c.args.name.number (f.names c.remove.new.self) other may in (
      after.0,
      after.3,
      threw_leads f.names f.moment f.left_since g.D.Disk b.shows b.accepts b.next first
          a after.0 c.args.name.number disks old c.remove.new.self other same (g.met.F.Folder.laws old honest) (c.remove.ensures.time honest) after.1 after.2,
    )
