use Rattle.std.proofs.Common.{◌≡◌, ◌∙◌, ap, sym, subst, ℕ, [], None, Some}
use Rattle.ogg_command.specs.declared.command.Command.{Command}
use Rattle.archive_history.specs.Archive.{Archive, Making, begun_by, with_new, Resolves}
use Rattle.archive_history.specs.History.{with_disk}
use Rattle.archive_record.specs.Account.{LeadsTo, Stands}
use Rattle.archive_record.specs.FilesState.{FilesState}
use Rattle.archive_record.proofs.Known.{known_begun, known_unbegun}
use Rattle.archive_record.proofs.files.Files.begin.Goals as goal

pub invariant_of-self-in-Ok : goal.invariant_of-self-in-Ok
invariant_of-self-in-Ok g c = λ now. let honest = c.begin_file.ensures.honest.1 now in
    known_begun (g.F.Folder.names c.self.inside.folder) _ (g.F.Folder.file c.self.inside.folder) _ c.self.inside.files.items c.reserve.new.self.items _ c.self.inside.next _ c.self.inside.out _
    (c.self.invariant honest) c.in-Some.is (ap (λ (s : FilesState _). s.out) c.self.view_is ∙ c.requires) (c.in-Ok.ensures.names honest) c.reserve.ensures.items c.push_reserved.ensures.items
    c.checked_add-self-inside.ensures (c.in-Ok.ensures.out honest) (c.begin_file.ensures.others honest)

pub invariant_of-self-in-Err : goal.invariant_of-self-in-Err
invariant_of-self-in-Err g c = λ now. let honest = c.begin_file.ensures.honest.1 now in
    known_unbegun g.F.File.Disk (g.F.Folder.names c.self.inside.folder) _ (g.F.Folder.file c.self.inside.folder) _ c.self.inside.files.items c.reserve.new.self.items c.self.inside.next _ c.self.inside.out c.in-Some.number
    (c.self.invariant honest) c.in-Some.is (ap (λ (s : FilesState _). s.out) c.self.view_is ∙ c.requires) (c.in-Err.ensures.kept honest) c.reserve.ensures.items
    c.checked_add-self-inside.ensures (c.begin_file.ensures.others honest)

pub returns-in-Ok-clause-begun : goal.returns-in-Ok-clause-begun
returns-in-Ok-clause-begun g c = λ honest a disks none stands.
    let same : c.self.inside.folder ≡ c.args.self.now.folder = ap (λ (s : FilesState _). s.folder) c.self.view_is in
    c.in-Ok.ensures.begun (subst g.F.Folder.is_honest (sym same) honest) [] a disks c.images_show_one_recording.ensures.new none
    (subst (λ (f : _). Stands g.F.Folder.names g.F.File.Disk a f disks) (sym same) stands)

pub returns-in-Err-clause-unbegun : goal.returns-in-Err-clause-unbegun
returns-in-Err-clause-unbegun g c = λ is honest n next a disks none stands.
    let same : c.self.inside.folder ≡ c.args.self.now.folder = ap (λ (s : FilesState _). s.folder) c.self.view_is in
    let there : c.self.inside.next ≡ Some n = ap (λ (s : FilesState _). s.next) c.self.view_is ∙ next in
    let here : c.self.inside.next ≡ Some c.in-Some.number = c.in-Some.is in
    let number : c.in-Some.number ≡ n = cc in
    subst (λ (k : ℕ). (b : Archive Command) × (after : ℕ → g.row.F-File.Denot) × Resolves (begun_by a (Making k)) b × Stands g.F.Folder.names g.F.File.Disk b c.begin_file.new.folder after) number
    (c.in-Err.ensures.failed (subst g.F.Folder.is_honest (sym same) honest) [] a disks c.images_show_one_recording.ensures.new none
    (subst (λ (f : _). Stands g.F.Folder.names g.F.File.Disk a f disks) (sym same) stands))

pub returns-in-Ok-clause-leads : goal.returns-in-Ok-clause-leads
returns-in-Ok-clause-leads g c = λ honest a disks none named.
    let same : c.self.inside.folder ≡ c.args.self.now.folder = ap (λ (s : FilesState _). s.folder) c.self.view_is in
    subst (λ (f : _). LeadsTo g.F.Folder.names g.F.Folder.moment g.F.Folder.left_since g.F.File.Disk a f disks (with_new c.in-Some.number a) c.begin_file.new.folder (with_disk c.in-Some.number c.in-Ok.disk disks)) same
    (c.in-Ok.ensures.leads (subst g.F.Folder.is_honest (sym same) honest) [] a disks none (ap g.F.Folder.names same ∙ named))

pub returns-in-Err-clause-unbegun_leads : goal.returns-in-Err-clause-unbegun_leads
returns-in-Err-clause-unbegun_leads g c = λ is honest a disks none named.
    let same : c.self.inside.folder ≡ c.args.self.now.folder = ap (λ (s : FilesState _). s.folder) c.self.view_is in
    subst (λ (f : _). (b : Archive Command) × (after : ℕ → g.row.F-File.Denot) × (b.newest ≡ None) × LeadsTo g.F.Folder.names g.F.Folder.moment g.F.Folder.left_since g.F.File.Disk a f disks b c.begin_file.new.folder after) same
    (c.in-Err.ensures.failed_leads (subst g.F.Folder.is_honest (sym same) honest) [] a disks none (ap g.F.Folder.names same ∙ named))
