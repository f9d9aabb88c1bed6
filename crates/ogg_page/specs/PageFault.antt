-- The numbers and names of what can be wrong with a page. They are ours.
use Rattle.std.specs.Prelude.{ℕ, List, codes}
use Rattle.ogg_page.specs.declared.fault.PageFault.{PageFault}
use Rattle.ogg_page.specs.declared.fault.PageFault.TheVariants.{Short, Pattern, Version, Checksum}

abbrev pub code_of : PageFault → ℕ
code_of Short = 1
code_of Pattern = 2
code_of Version = 3
code_of Checksum = 4

abbrev pub name_of : PageFault → List ℕ
name_of Short = codes "Short"
name_of Pattern = codes "Pattern"
name_of Version = codes "Version"
name_of Checksum = codes "Checksum"
