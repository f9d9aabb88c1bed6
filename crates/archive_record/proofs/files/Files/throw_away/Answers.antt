use Rattle.std.proofs.Common.{◌≡◌, ◌∙◌, ◌≢◌, ap, sym, Some, Contains, subst, List, [], false, true}
use Rattle.ogg_command.specs.declared.command.Command.{Command}
use Rattle.archive_history.specs.Archive.{Archive, Throwing, begun_by}
use Rattle.archive_record.specs.Account.{LeadsTo, Stands}
use Rattle.archive_folder.specs.declared.names.FileName.{FileName}
use Rattle.archive_folder.specs.Names.{numbers_of}
use Rattle.archive_record.specs.Files.{IsKnown}
use Rattle.archive_record.specs.FilesState.{FilesState}
use Rattle.archive_record.proofs.Known.{known_there, known_kept, known_thrown}
use Rattle.archive_record.proofs.files.Files.throw_away.Goals.{in-Ok, in-Err}
use Rattle.archive_record.proofs.files.Files.throw_away.Goals as goal

pub throw_away-requires-clause-there : goal.throw_away-requires-clause-there
throw_away-requires-clause-there g c = λ honest.
    let among : Contains c.self.inside.files.items c.args.name = subst (λ (l : List FileName). Contains l c.args.name) (ap (λ (s : FilesState _). s.files) (sym c.self.view_is)) c.requires in
    known_there (g.F.Folder.names c.self.inside.folder) (g.F.Folder.file c.self.inside.folder) c.self.inside.files.items _ _ c.args.name (c.self.invariant honest) among

pub throw_away-requires-clause-kept : goal.throw_away-requires-clause-kept
throw_away-requires-clause-kept g c = λ honest.
    let among : Contains c.self.inside.files.items c.args.name = subst (λ (l : List FileName). Contains l c.args.name) (ap (λ (s : FilesState _). s.files) (sym c.self.view_is)) c.requires in
    let other : c.self.inside.out ≢ Some c.args.name.number = λ same. (let told : false ≡ true = c.if-is_number.ensures.1 same in cc) in
    known_kept (g.F.Folder.names c.self.inside.folder) (g.F.Folder.file c.self.inside.folder) c.self.inside.files.items _ _ c.args.name (c.self.invariant honest) among other

pub invariant_of-self : goal.invariant_of-self
invariant_of-self g c = λ now. let honest = c.throw_away.ensures.honest.1 now in
    let among : Contains c.self.inside.files.items c.args.name = subst (λ (l : List FileName). Contains l c.args.name) (ap (λ (s : FilesState _). s.files) (sym c.self.view_is)) c.requires in
    let other : c.self.inside.out ≢ Some c.args.name.number = λ same. (let told : false ≡ true = c.if-is_number.ensures.1 same in cc) in
    subst (λ (l : List FileName). IsKnown (g.F.Folder.names c.throw_away.new.folder) (g.F.Folder.file c.throw_away.new.folder) (numbers_of l) c.self.inside.next c.self.inside.out) (sym c.forget.ensures)
    (known_thrown c.throw_away.result _ (g.F.Folder.names c.self.inside.folder) (g.F.Folder.names c.throw_away.new.folder) (g.F.Folder.file c.self.inside.folder) (g.F.Folder.file c.throw_away.new.folder)
    c.self.inside.files.items _ _ c.args.name (c.self.invariant honest) among other c.throw_away.ensures.names c.throw_away.ensures.failed_names honest (c.throw_away.ensures.files honest))

pub returns-clause-thrown : goal.returns-clause-thrown
returns-clause-thrown g c = λ is honest a disks other stands.
    let same : c.self.inside.folder ≡ c.args.self.now.folder = ap (λ (s : FilesState _). s.folder) c.self.view_is in
    elim c.match-throw_away.branch [
      | in-Ok w ↦ w.in-Ok.ensures.thrown (subst g.F.Folder.is_honest (sym same) honest) [] a disks c.images_show_one_recording.ensures.new
          (subst (λ (f : _). Stands g.F.Folder.names g.F.File.Disk a f disks) (sym same) stands) other
      | in-Err w ↦ let told = w.result-is in cc
    ]

pub returns-clause-unthrown : goal.returns-clause-unthrown
returns-clause-unthrown g c =
    let same : c.self.inside.folder ≡ c.args.self.now.folder = ap (λ (s : FilesState _). s.folder) c.self.view_is in
    elim c.match-throw_away.branch [
      | in-Ok w ↦ rw w.result-is tt
      | in-Err w ↦ rw w.result-is (λ honest a disks other stands.
          w.in-Err.ensures.failed (subst g.F.Folder.is_honest (sym same) honest) [] a disks c.images_show_one_recording.ensures.new
          (subst (λ (f : _). Stands g.F.Folder.names g.F.File.Disk a f disks) (sym same) stands) other)
    ]

pub returns-clause-leads : goal.returns-clause-leads
returns-clause-leads g c = λ is honest a disks other named.
    let same : c.self.inside.folder ≡ c.args.self.now.folder = ap (λ (s : FilesState _). s.folder) c.self.view_is in
    elim c.match-throw_away.branch [
      | in-Ok w ↦ subst (λ (f : _). LeadsTo g.F.Folder.names g.F.Folder.moment g.F.Folder.left_since g.F.File.Disk a f disks (begun_by a (Throwing c.args.name.number)) c.throw_away.new.folder disks) same
          (w.in-Ok.ensures.leads (subst g.F.Folder.is_honest (sym same) honest) [] a disks other (ap g.F.Folder.names same ∙ named))
      | in-Err w ↦ let told = w.result-is in cc
    ]

pub returns-clause-unthrown_leads : goal.returns-clause-unthrown_leads
returns-clause-unthrown_leads g c =
    let same : c.self.inside.folder ≡ c.args.self.now.folder = ap (λ (s : FilesState _). s.folder) c.self.view_is in
    elim c.match-throw_away.branch [
      | in-Ok w ↦ rw w.result-is tt
      | in-Err w ↦ rw w.result-is (λ honest a disks other named.
          subst (λ (f : _). (b : Archive Command) × (b.newest ≡ a.newest) × LeadsTo g.F.Folder.names g.F.Folder.moment g.F.Folder.left_since g.F.File.Disk a f disks b c.throw_away.new.folder disks) same
          (w.in-Err.ensures.failed_leads (subst g.F.Folder.is_honest (sym same) honest) [] a disks other (ap g.F.Folder.names same ∙ named)))
    ]
