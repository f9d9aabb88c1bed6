-- The numbers and names of what can be wrong with the pages of a stream. They are ours.
use Rattle.std.specs.Prelude.{ℕ, List, codes}
use Rattle.packet_view.specs.declared.fault.ViewFault.{ViewFault}
use Rattle.packet_view.specs.declared.fault.ViewFault.TheVariants.{Page, Sequence, Continued, AfterEos, Unfinished}

abbrev pub code_of : ViewFault → ℕ
code_of (Page offset fault) = 1
code_of (Sequence offset) = 2
code_of (Continued offset) = 3
code_of (AfterEos offset) = 4
code_of Unfinished = 5

abbrev pub name_of : ViewFault → List ℕ
name_of (Page offset fault) = codes "Page"
name_of (Sequence offset) = codes "Sequence"
name_of (Continued offset) = codes "Continued"
name_of (AfterEos offset) = codes "AfterEos"
name_of Unfinished = codes "Unfinished"
