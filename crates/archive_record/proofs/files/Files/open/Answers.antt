use Rattle.std.proofs.Common.{◌∙◌, ap}
use Rattle.archive_folder.specs.Names.{listed}
use Rattle.archive_record.proofs.Numbers.{listed_synced}
use Rattle.archive_record.proofs.Known.{known_shown}
use Rattle.archive_record.proofs.files.Files.open.Goals as goal

pub returns-in-Ok-clause-all : goal.returns-in-Ok-clause-all
returns-in-Ok-clause-all g c = λ honest. c.in-Ok.ensures.all honest ∙ ap listed (c.in-Ok.ensures.names honest) ∙ listed_synced (g.F.Folder.names c.args.folder)

pub invariant_of-result : goal.invariant_of-result
invariant_of-result g c = λ now. let honest = c.list_synced.ensures.honest.1 now in
    known_shown (g.F.Folder.names c.args.folder) (g.F.Folder.names c.list_synced.new.folder) (g.F.Folder.file c.args.folder) (g.F.Folder.file c.list_synced.new.folder) c.in-Ok.files.items c.deref.result.now _
    (c.in-Ok.ensures.names honest) (c.in-Ok.ensures.all honest) (c.list_synced.ensures.files honest) c.deref.ensures.value c.next_number-next.ensures (c.requires honest)
