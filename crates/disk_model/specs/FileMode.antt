-- How a file is opened. No mode shortens it, and only one makes it.
use Rattle.std.specs.Prelude.{Bool, true, false}
use Rattle.std.specs.Fs.{new_options, with_read, with_write, with_create}
use Rattle.std.specs.declared.fs.options.OpenOptions.{OpenOptions}
use Rattle.disk_model.specs.declared.file.FileMode.{FileMode}
use Rattle.disk_model.specs.declared.file.FileMode.TheVariants.{Create, ReadWrite, ReadOnly}

abbrev pub options_of : FileMode → OpenOptions
options_of Create = with_create (with_write (with_read new_options true) true) true
options_of ReadWrite = with_write (with_read new_options true) true
options_of ReadOnly = with_read new_options true

abbrev pub writes : FileMode → Bool
writes Create = true
writes ReadWrite = true
writes ReadOnly = false
