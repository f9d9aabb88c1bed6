use Rattle.std.proofs.Common.{Option, ◌∙◌, subst, sym}
use Rattle.archive_record.specs.Reaching.{WritesIt}
use Rattle.archive_record.specs.declared.newest.Newest.{Newest}
use Rattle.archive_record.proofs.archive.Archive.give_back_newest.Goals as goal

pub returns-clause-goes : goal.returns-clause-goes
returns-clause-goes g c = λ honest a disks at writes.
    let files = c.args.self.now.rotation.files in
    let newest = c.in_ok-newest.newest in
    let (file, written, out) = subst (λ (was : Option (Newest _)). WritesIt g.D.Disk files was a disks) (sym c.take.ensures.value ∙ c.in_ok-newest.was) writes in
    c.give_back-2.ensures.leads honest a file disks newest.recorder at written (sym c.give_back.ensures) out
