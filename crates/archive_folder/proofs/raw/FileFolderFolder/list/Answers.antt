use Rattle.archive_folder.proofs.Sorted.{sorted_files}
use Rattle.archive_folder.proofs.raw.FileFolderFolder.list.Goals as goal

pub returns-in-Ok-clause-listed : goal.returns-in-Ok-clause-listed
returns-in-Ok-clause-listed g c = λ honest.
    let raw = c.args.self.now.raw in
    sorted_files c.in-Ok.files.items c.sort_by_number.new.files.items (g.R.RawFolder.names raw) c.sort_by_number.ensures.same c.sort_by_number.ensures.sorted
    (c.in-Ok.ensures.listed honest) (g.met.R.RawFolder.laws raw honest).rising
