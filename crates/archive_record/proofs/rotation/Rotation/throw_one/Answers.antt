use Rattle.std.proofs.Common.{◌≡◌, ◌≢◌, ◌∙◌, ◌<◌, Ok, ap, refl, sym, subst, arith, length, List, ℕ, Some}
use Rattle.archive_history.specs.Archive.{Throwing, begun_by, names}
use Rattle.archive_folder.specs.declared.names.FileName.{FileName}
use Rattle.archive_record.specs.Account.{StaysWritten}
use Rattle.archive_record.specs.Files.{without}
use Rattle.archive_record.specs.FilesState.{FilesState}
use Rattle.archive_record.specs.Retention.{IsLeftOf, MayGo}
use Rattle.archive_record.proofs.Retained.{left_without, one_less}
use Rattle.archive_record.proofs.Staying.{looked_and_led, not_newest}
use Rattle.archive_record.proofs.rotation.Rotation.throw_one.Goals as goal

pub returns-in-Ok-true-clause-left : goal.returns-in-Ok-true-clause-left
returns-in-Ok-true-clause-left g c =
    let n : ℕ = c.in-Some.name.now.number in
    let may : MayGo n c.args.self.now.files.files = subst (MayGo n) c.names-2.ensures (c.may_go.ensures c.if-not-may_go.false) in
    let other : c.facts.new.self.out ≢ Some n = λ same. (let told = c.throw_away.ensures.stays.1 same in cc) in
    let gone : c.forget.new.self.files.files ≡ without n c.args.self.now.files.files =
    ap (λ (s : FilesState _). s.files) c.forget.ensures.files ∙ c.throw_away.ensures.forgotten other ∙ ap (without n) c.facts.ensures.files in
    subst (IsLeftOf c.args.self.now.files.files) (sym gone) (left_without n c.args.self.now.files.files may)

pub returns-in-Ok-true-clause-paired : goal.returns-in-Ok-true-clause-paired
returns-in-Ok-true-clause-paired g c = λ same.
    let n : ℕ = c.in-Some.name.now.number in
    let may : MayGo n c.args.self.now.files.files = subst (MayGo n) c.names-2.ensures (c.may_go.ensures c.if-not-may_go.false) in
    let other : c.facts.new.self.out ≢ Some n = λ same. (let told = c.throw_away.ensures.stays.1 same in cc) in
    let gone : c.forget.new.self.files.files ≡ without n c.args.self.now.files.files =
    ap (λ (s : FilesState _). s.files) c.forget.ensures.files ∙ c.throw_away.ensures.forgotten other ∙ ap (without n) c.facts.ensures.files in
    let inside : c.args.going.at < length c.args.self.now.files.files = subst (λ (l : List FileName). c.args.going.at < length l) c.names.ensures c.in-Some.ensures.lookup.3.0 in
    let within : c.args.going.at < length c.args.self.now.held.items = subst (λ (k : ℕ). c.args.going.at < k) (sym same) inside in
    let less = c.forget.ensures.held within in
    let one = one_less n c.args.self.now.files.files may in
    let left : length c.forget.new.self.files.files ≡ length (without n c.args.self.now.files.files) = ap length gone in
    omega (arith, less, one, left, same)

pub returns-in-Err-throw_away-clause-left : goal.returns-in-Err-throw_away-clause-left
returns-in-Err-throw_away-clause-left g c =
    let n : ℕ = c.in-Some.name.now.number in
    let may : MayGo n c.args.self.now.files.files = subst (MayGo n) c.names-2.ensures (c.may_go.ensures c.if-not-may_go.false) in
    let other : c.facts.new.self.out ≢ Some n = λ same. (let told = c.throw_away.ensures.stays.1 same in cc) in
    let gone : c.forget-in-Err-throw_away.new.self.files.files ≡ without n c.args.self.now.files.files =
    ap (λ (s : FilesState _). s.files) c.forget-in-Err-throw_away.ensures.files ∙ c.throw_away.ensures.forgotten other ∙ ap (without n) c.facts.ensures.files in
    subst (IsLeftOf c.args.self.now.files.files) (sym gone) (left_without n c.args.self.now.files.files may)

pub returns-in-Err-throw_away-clause-paired : goal.returns-in-Err-throw_away-clause-paired
returns-in-Err-throw_away-clause-paired g c = λ same.
    let n : ℕ = c.in-Some.name.now.number in
    let may : MayGo n c.args.self.now.files.files = subst (MayGo n) c.names-2.ensures (c.may_go.ensures c.if-not-may_go.false) in
    let other : c.facts.new.self.out ≢ Some n = λ same. (let told = c.throw_away.ensures.stays.1 same in cc) in
    let gone : c.forget-in-Err-throw_away.new.self.files.files ≡ without n c.args.self.now.files.files =
    ap (λ (s : FilesState _). s.files) c.forget-in-Err-throw_away.ensures.files ∙ c.throw_away.ensures.forgotten other ∙ ap (without n) c.facts.ensures.files in
    let inside : c.args.going.at < length c.args.self.now.files.files = subst (λ (l : List FileName). c.args.going.at < length l) c.names.ensures c.in-Some.ensures.lookup.3.0 in
    let within : c.args.going.at < length c.args.self.now.held.items = subst (λ (k : ℕ). c.args.going.at < k) (sym same) inside in
    let less = c.forget-in-Err-throw_away.ensures.held within in
    let one = one_less n c.args.self.now.files.files may in
    let left : length c.forget-in-Err-throw_away.new.self.files.files ≡ length (without n c.args.self.now.files.files) = ap length gone in
    omega (arith, less, one, left, same)

pub returns-in-Ok-true-clause-leads : goal.returns-in-Ok-true-clause-leads
returns-in-Ok-true-clause-leads g c = λ honest a disks last named.
    let f = g.F.Folder in
    let n : ℕ = c.in-Some.name.now.number in
    let here : f.names c.facts.new.self.folder ≡ names a = c.facts.ensures.names honest ∙ named in
    let may : MayGo n c.args.self.now.files.files = subst (MayGo n) c.names-2.ensures (c.may_go.ensures c.if-not-may_go.false) in
    let goes = c.throw_away.ensures.leads (c.in-Ok-true.is ∙ ap Ok c.in-Ok-true.field-0-test) (c.facts.ensures.honest.0 honest) a disks (not_newest n c.args.self.now.files.files a last may) here in
    let thrown = looked_and_led f.names f.moment f.left_since g.D.Disk a (begun_by a (Throwing n)) c.args.self.now.files.folder c.facts.new.self.folder c.throw_away.new.self.folder disks here
    refl (c.facts.ensures.leads honest a disks named) goes in
    subst (λ (s : FilesState _). StaysWritten f.names f.moment f.left_since g.D.Disk a c.args.self.now.files.folder disks s.folder) (sym c.forget.ensures.files) thrown

pub returns-in-Err-throw_away-clause-leads : goal.returns-in-Err-throw_away-clause-leads
returns-in-Err-throw_away-clause-leads g c = λ honest a disks last named.
    let f = g.F.Folder in
    let n : ℕ = c.in-Some.name.now.number in
    let here : f.names c.facts.new.self.folder ≡ names a = c.facts.ensures.names honest ∙ named in
    let may : MayGo n c.args.self.now.files.files = subst (MayGo n) c.names-2.ensures (c.may_go.ensures c.if-not-may_go.false) in
    let goes = c.in-Err-throw_away.ensures.unthrown_leads (c.facts.ensures.honest.0 honest) a disks (not_newest n c.args.self.now.files.files a last may) here in
    let thrown = looked_and_led f.names f.moment f.left_since g.D.Disk a goes.0 c.args.self.now.files.folder c.facts.new.self.folder c.throw_away.new.self.folder disks here
    goes.1 (c.facts.ensures.leads honest a disks named) goes.2 in
    subst (λ (s : FilesState _). StaysWritten f.names f.moment f.left_since g.D.Disk a c.args.self.now.files.folder disks s.folder) (sym c.forget-in-Err-throw_away.ensures.files) thrown
