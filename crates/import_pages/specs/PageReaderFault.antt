-- The numbers and names of what can end a page reader. They are ours.
use Rattle.std.specs.Prelude.{ℕ, List, codes}
use Rattle.import_pages.specs.declared.fault.PageReaderFault.{PageReaderFault}
use Rattle.import_pages.specs.declared.fault.PageReaderFault.TheVariants.{Page, Read}

abbrev pub code_of : PageReaderFault → ℕ
code_of (Page fault) = 1
code_of Read = 2

abbrev pub name_of : PageReaderFault → List ℕ
name_of (Page fault) = codes "Page"
name_of Read = codes "Read"
