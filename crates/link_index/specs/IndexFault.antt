-- The numbers and names of the reasons why bytes have no index. They are ours.
use Rattle.std.specs.Prelude.{ℕ, List, codes}
use Rattle.link_index.specs.declared.fault.IndexFault.{IndexFault}
use Rattle.link_index.specs.declared.fault.IndexFault.TheVariants.{Page, Chain, Memory}

abbrev pub code_of : IndexFault → ℕ
code_of (Page offset fault) = 1
code_of (Chain offset fault) = 2
code_of Memory = 3

abbrev pub name_of : IndexFault → List ℕ
name_of (Page offset fault) = codes "Page"
name_of (Chain offset fault) = codes "Chain"
name_of Memory = codes "Memory"
