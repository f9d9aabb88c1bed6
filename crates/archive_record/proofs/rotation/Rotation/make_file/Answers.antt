use Rattle.std.proofs.Common.{◌≡◌, ◌∙◌, ℕ, false, true, Err, None, ap, refl, inl, inr, sym, subst}
use Rattle.archive_record.proofs.Staying.{names_led, new_one, none_stays, none_still, none_yet}
use Rattle.archive_history.specs.Archive.{Archive as Account, names}
use Rattle.ogg_command.specs.declared.command.Command.{Command}
use Rattle.archive_record.specs.Account.{WritesNone}
use Rattle.archive_record.specs.FilesState.{FilesState}
use Rattle.archive_record.specs.declared.files.BeginFault.{BeginFault}
use Rattle.archive_record.specs.declared.files.BeginFault.TheVariants.{Folder, Memory, Numbers}
use Rattle.archive_record.proofs.rotation.Rotation.make_file.Goals as goal

pub loop-init : goal.loop-init
loop-init g c = record {
  rules = refl;
  leads = λ honest a disks none named. none_yet g.F.Folder.names g.F.Folder.moment g.F.Folder.left_since g.D.Disk a c.args.self.now.files.folder disks none named;
  named = λ next. next;
  honest = (λ now. now, λ now. now);
}

pub returns-in-Ok-clause-leads : goal.returns-in-Ok-clause-leads
returns-in-Ok-clause-leads g c = λ honest a disks none named.
    let f = g.F.Folder in
    new_one f.names f.moment f.left_since g.D.Disk a c.args.self.now.files.folder c.loop.self.files.folder c.begin.new.self.folder disks
    c.in-Ok.begun.0.number c.in-Ok.begun.1 (c.loop.invariant.leads honest a disks none named)
    (λ b after is here. c.in-Ok.ensures.leads (c.loop.invariant.honest.0 honest) b after is here)

pub loop-preserved : goal.loop-preserved
loop-preserved g c =
    let f = g.F.Folder in
    let failed = c.in-Err-Folder.is ∙ ap Err c.in-Err-Folder.field-0-is in record {
      rules = c.make_room.ensures.rules ∙ c.loop.invariant.rules;
      leads = λ honest a disks none named.
          let old = c.args.self.now.files.folder in
          let mid = c.loop.self.files.folder in
          let between = c.begin.new.self.folder in
          let now = c.loop.invariant.honest.0 honest in
          none_stays f.names f.moment f.left_since g.D.Disk c.begin.new.self.files a old between c.make_room.new.self.files.folder disks
          (none_still f.names f.moment f.left_since g.D.Disk a old mid between disks (c.loop.invariant.leads honest a disks none named)
          (λ b after is here. let (x, last, free, on) = c.begin.ensures.unbegun_leads failed now b after is here in
          (x, last, free, names_led f.names f.moment f.left_since g.D.Disk b x mid between after last here on, on)))
          (λ b after handed here. c.make_room.ensures.leads (c.begin.ensures.honest.0 now) b after handed here);
      named = λ next. absurd (never next);
      honest = (
        λ now. c.make_room.ensures.honest.0 (c.begin.ensures.honest.0 (c.loop.invariant.honest.0 now)),
        λ now. c.loop.invariant.honest.1 (c.begin.ensures.honest.1 (c.make_room.ensures.honest.1 now)),
      );
    }
  where
    never : false ≡ true → ⊥
    never same = cc

pub returns-then-not-make_room-clause-unmade : goal.returns-then-not-make_room-clause-unmade
returns-then-not-make_room-clause-unmade g c = λ honest a disks none named.
    let f = g.F.Folder in
    let failed = c.in-Err-Folder.is ∙ ap Err c.in-Err-Folder.field-0-is in
    let old = c.args.self.now.files.folder in
    let mid = c.loop.self.files.folder in
    let between = c.begin.new.self.folder in
    let now = c.loop.invariant.honest.0 honest in
    none_stays f.names f.moment f.left_since g.D.Disk c.begin.new.self.files a old between c.make_room.new.self.files.folder disks
    (none_still f.names f.moment f.left_since g.D.Disk a old mid between disks (c.loop.invariant.leads honest a disks none named)
    (λ b after is here. let (x, last, free, on) = c.begin.ensures.unbegun_leads failed now b after is here in
    (x, last, free, names_led f.names f.moment f.left_since g.D.Disk b x mid between after last here on, on)))
    (λ b after handed here. c.make_room.ensures.leads (c.begin.ensures.honest.0 now) b after handed here)

pub returns-in-Err-clause-unmade : goal.returns-in-Err-clause-unmade
returns-in-Err-clause-unmade g c = λ honest a disks none named.
    let f = g.F.Folder in
    none_still f.names f.moment f.left_since g.D.Disk a c.args.self.now.files.folder c.loop.self.files.folder c.begin.new.self.folder disks (c.loop.invariant.leads honest a disks none named)
    (by_fault c.in-Err.fault c.in-Err.is (c.loop.invariant.honest.0 honest))
  where
    same : c.begin.new.self ≡ c.loop.self.files → (b : Account Command) (after : ℕ → _) → b.newest ≡ None → g.F.Folder.names c.loop.self.files.folder ≡ names b
        → WritesNone g.F.Folder.names g.F.Folder.moment g.F.Folder.left_since g.D.Disk b c.loop.self.files.folder after c.begin.new.self.folder
    same is b after none here = subst (λ (files : FilesState _). WritesNone g.F.Folder.names g.F.Folder.moment g.F.Folder.left_since g.D.Disk b c.loop.self.files.folder after files.folder) (sym is)
        (none_yet g.F.Folder.names g.F.Folder.moment g.F.Folder.left_since g.D.Disk b c.loop.self.files.folder after none here)

    by_fault : (fault : BeginFault) → c.begin.result ≡ Err fault → g.F.Folder.is_honest c.loop.self.files.folder → (b : Account Command) (after : ℕ → _) → b.newest ≡ None
        → g.F.Folder.names c.loop.self.files.folder ≡ names b
        → WritesNone g.F.Folder.names g.F.Folder.moment g.F.Folder.left_since g.D.Disk b c.loop.self.files.folder after c.begin.new.self.folder
    by_fault Memory is now b after none here = same (c.begin.ensures.same (inl is)) b after none here
    by_fault Numbers is now b after none here = same (c.begin.ensures.same (inr is)) b after none here
    by_fault Folder is now b after none here =
        let (x, last, free, on) = c.begin.ensures.unbegun_leads is now b after none here in
        (x, last, free, names_led g.F.Folder.names g.F.Folder.moment g.F.Folder.left_since g.D.Disk b x c.loop.self.files.folder c.begin.new.self.folder after last here on, on)
