use Rattle.std.proofs.Common.{◌≡◌, drop, max}
use Rattle.archive_folder.specs.Names.{numbers_of}
use Rattle.archive_record.specs.Files.{highest}
use Rattle.archive_record.proofs.files.next_number.Given as goal

abbrev pub invariant-loop-file : goal.invariant-loop-file
invariant-loop-file l = max l.highest (highest (numbers_of (drop l.file-index l.files))) ≡ highest (numbers_of l.files)
