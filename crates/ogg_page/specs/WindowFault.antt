-- The numbers and names of what can end a window. They are ours.
use Rattle.std.specs.Prelude.{ℕ, List, codes}
use Rattle.ogg_page.specs.declared.fault.WindowFault.{WindowFault}
use Rattle.ogg_page.specs.declared.fault.WindowFault.TheVariants.{Source, Page}

abbrev pub code_of : WindowFault → ℕ
code_of Source = 1
code_of (Page offset fault) = 2

abbrev pub name_of : WindowFault → List ℕ
name_of Source = codes "Source"
name_of (Page offset fault) = codes "Page"
