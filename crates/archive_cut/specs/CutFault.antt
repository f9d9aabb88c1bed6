-- Why a cut can't be made: the faults' numbers and names. Ours.
use Rattle.std.specs.Prelude.{ℕ, List, codes}
use Rattle.archive_cut.specs.declared.fault.CutFault.{CutFault}
use Rattle.archive_cut.specs.declared.fault.CutFault.TheVariants.{Source, Memory, NoNumber}

abbrev pub code_of : CutFault → ℕ
code_of Source = 1
code_of Memory = 2
code_of NoNumber = 3

abbrev pub name_of : CutFault → List ℕ
name_of Source = codes "Source"
name_of Memory = codes "Memory"
name_of NoNumber = codes "NoNumber"
