-- The numbers and names of what can end a stream over a window. They are ours.
use Rattle.std.specs.Prelude.{ℕ, List, codes}
use Rattle.packet_view.specs.declared.fault.StreamFault.{StreamFault}
use Rattle.packet_view.specs.declared.fault.StreamFault.TheVariants.{Source, View}

abbrev pub code_of : StreamFault → ℕ
code_of Source = 1
code_of (View fault) = 2

abbrev pub name_of : StreamFault → List ℕ
name_of Source = codes "Source"
name_of (View fault) = codes "View"
