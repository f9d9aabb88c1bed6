use Rattle.std.proofs.Common.{ℕ, inl, inr, ⊎_elim, List, subst, ◌∙◌}
use Rattle.archive_folder.specs.declared.names.Name.{Name}
use Rattle.archive_folder.specs.Names.{IsLeft, made}
use Rattle.archive_folder.specs.NamesLaws.{left_of_made}
use Rattle.archive_history.proofs.NewFiles.{not_made, not_synced, leaves_names, leaves_both, begun}
use Rattle.archive_history.proofs.Led.{begun_leads, not_made_leads, not_synced_leads}
use Rattle.archive_history.proofs.beginning.begin_file.Goals as goal

pub returns-in-Err-clause-any_moment : goal.returns-in-Err-clause-any_moment
returns-in-Err-clause-any_moment g c = λ honest.
    let f = g.F.Folder in
    let old = c.args.folder.now in
    let bound = made c.args.name.number (f.names old) in
    leaves_names f.names f.moment f.left_since bound old c.make.new.self (g.met.F.Folder.laws old honest) (c.make.ensures.time honest) (left_of_made (f.names old) c.args.name.number)

pub returns-in-Err-sync-clause-any_moment : goal.returns-in-Err-sync-clause-any_moment
returns-in-Err-sync-clause-any_moment g c = λ honest.
    let f = g.F.Folder in
    let old = c.args.folder.now in
    let mid = c.make.new.self in
    let after = c.sync.new.self in
    let bound = made c.args.name.number (f.names old) in
    let still = c.make.ensures.honest.0 honest in
    let again = c.sync.ensures.honest.0 still in
    let in_mid : ((left : List ℕ) → IsLeft (f.names mid) left → IsLeft bound left) = λ left is. subst (λ (ns : List Name). IsLeft ns left) (c.in-Ok.ensures.made honest) is in
    leaves_both f.moment f.left_since bound (f.names after) old after c.give_back.new.self
    (leaves_both f.moment f.left_since bound (f.names mid) old mid after
    (leaves_names f.names f.moment f.left_since bound old mid (g.met.F.Folder.laws old honest) (c.make.ensures.time honest) (left_of_made (f.names old) c.args.name.number))
    (c.sync.ensures.time still) in_mid)
    (c.give_back.ensures.time again) (λ left is. in_mid left (subst (λ (ns : List Name). IsLeft ns left) (c.in-Err-sync.ensures.failed still) is))

pub returns-in-Ok-sync-clause-any_moment : goal.returns-in-Ok-sync-clause-any_moment
returns-in-Ok-sync-clause-any_moment g c = λ honest.
    let f = g.F.Folder in
    let old = c.args.folder.now in
    let mid = c.make.new.self in
    let bound = made c.args.name.number (f.names old) in
    let still = c.make.ensures.honest.0 honest in
    leaves_both f.moment f.left_since bound (f.names mid) old mid c.sync.new.self
    (leaves_names f.names f.moment f.left_since bound old mid (g.met.F.Folder.laws old honest) (c.make.ensures.time honest) (left_of_made (f.names old) c.args.name.number))
    (c.sync.ensures.time still) (λ left is. subst (λ (ns : List Name). IsLeft ns left) (c.in-Ok.ensures.made honest) is)

pub returns-in-Ok-sync-clause-begun : goal.returns-in-Ok-sync-clause-begun
returns-in-Ok-sync-clause-begun g c = λ honest first a disks empty_shows none stands.
    let f = g.F.Folder in
    let b = g.B.Recordings in
    let old = c.args.folder.now in
    let mid = c.make.new.self in
    let still = c.make.ensures.honest.0 honest in
    begun f.names f.moment f.left_since g.D.Disk b.shows b.accepts b.next first
    (λ x y event o n s. c.folders_stand_as_their_account.ensures.event first x y event o n empty_shows s)
    a c.args.name.number disks c.in-Ok.disk old mid c.sync.new.self none (c.requires honest) stands
    (g.met.F.Folder.laws old honest) (g.met.F.Folder.laws mid still)
    (c.in-Ok.ensures.empty honest).1 (c.in-Ok.ensures.made honest) (c.in-Ok-sync.ensures.synced still)
    (c.make.ensures.time honest) (c.sync.ensures.time still)

pub returns-in-Err-clause-failed : goal.returns-in-Err-clause-failed
returns-in-Err-clause-failed g c = λ honest first a disks empty_shows none stands.
    let f = g.F.Folder in
    let b = g.B.Recordings in
    let old = c.args.folder.now in
    not_made f.names f.moment f.left_since g.D.Disk b.shows b.accepts b.next first
    (λ x y event o n s. c.folders_stand_as_their_account.ensures.event first x y event o n empty_shows s)
    a c.args.name.number disks old c.make.new.self none (c.requires honest) stands (g.met.F.Folder.laws old honest) (c.make.ensures.time honest)
    (⊎_elim inl (λ may. inr (may.0, (may.1.0, may.1.3))) (c.in-Err.ensures.failed honest))

pub returns-in-Err-sync-clause-failed : goal.returns-in-Err-sync-clause-failed
returns-in-Err-sync-clause-failed g c = λ honest first a disks empty_shows none stands.
    let f = g.F.Folder in
    let b = g.B.Recordings in
    let old = c.args.folder.now in
    let still = c.make.ensures.honest.0 honest in
    let again = c.sync.ensures.honest.0 still in
    not_synced f.names f.moment f.left_since g.D.Disk b.shows b.accepts b.next first
    (λ x y event o n s. c.folders_stand_as_their_account.ensures.event first x y event o n empty_shows s)
    a c.args.name.number disks c.in-Ok.disk old c.make.new.self c.give_back.new.self none (c.requires honest) stands (g.met.F.Folder.laws old honest)
    (c.in-Ok.ensures.empty honest).1 (c.in-Ok.ensures.made honest) (c.give_back.ensures.same again ∙ c.in-Err-sync.ensures.failed still) (c.make.ensures.time honest)

pub returns-in-Ok-sync-clause-leads : goal.returns-in-Ok-sync-clause-leads
returns-in-Ok-sync-clause-leads g c = λ honest first a disks none same.
    let f = g.F.Folder in
    let b = g.B.Recordings in
    let old = c.args.folder.now in
    let mid = c.make.new.self in
    let still = c.make.ensures.honest.0 honest in
    begun_leads f.names f.moment f.left_since g.D.Disk b.shows b.accepts b.next first
    a c.args.name.number disks old none (c.requires honest) same (g.met.F.Folder.laws old honest)
    c.in-Ok.disk mid c.sync.new.self (g.met.F.Folder.laws mid still)
    (c.in-Ok.ensures.empty honest).1 (c.in-Ok.ensures.made honest) (c.in-Ok-sync.ensures.synced still)
    (c.make.ensures.time honest) (c.sync.ensures.time still)

pub returns-in-Err-clause-failed_leads : goal.returns-in-Err-clause-failed_leads
returns-in-Err-clause-failed_leads g c = λ honest first a disks none same.
    let f = g.F.Folder in
    let b = g.B.Recordings in
    let old = c.args.folder.now in
    not_made_leads f.names f.moment f.left_since g.D.Disk b.shows b.accepts b.next first
    a c.args.name.number disks old none (c.requires honest) same (g.met.F.Folder.laws old honest)
    c.make.new.self (c.make.ensures.time honest)
    (⊎_elim inl (λ may. inr (may.0, (may.1.0, may.1.3))) (c.in-Err.ensures.failed honest))

pub returns-in-Err-sync-clause-failed_leads : goal.returns-in-Err-sync-clause-failed_leads
returns-in-Err-sync-clause-failed_leads g c = λ honest first a disks none same.
    let f = g.F.Folder in
    let b = g.B.Recordings in
    let old = c.args.folder.now in
    let mid = c.make.new.self in
    let after = c.sync.new.self in
    let still = c.make.ensures.honest.0 honest in
    let again = c.sync.ensures.honest.0 still in
    not_synced_leads f.names f.moment f.left_since g.D.Disk b.shows b.accepts b.next first
    a c.args.name.number disks old none (c.requires honest) same (g.met.F.Folder.laws old honest)
    c.in-Ok.disk mid after c.give_back.new.self (g.met.F.Folder.laws mid still) (g.met.F.Folder.laws after again)
    (c.in-Ok.ensures.empty honest).1 (c.in-Ok.ensures.made honest) (c.in-Err-sync.ensures.failed still) (c.give_back.ensures.same again)
    (c.make.ensures.time honest) (c.sync.ensures.time still) (c.give_back.ensures.time again)
