-- The numbers and names of what ends an import. They are ours.
use Rattle.std.specs.Prelude.{◌≡◌, ℕ, List, codes}
use Rattle.import_mend.specs.declared.fault.ImportFault.{ImportFault}
use Rattle.import_mend.specs.declared.fault.ImportFault.TheVariants.{Read, Memory}

abbrev pub code_of : ImportFault → ℕ
code_of Read = 1
code_of Memory = 2

abbrev pub name_of : ImportFault → List ℕ
name_of Read = codes "Read"
name_of Memory = codes "Memory"

-- want of memory is the fault `Memory`
abbrev pub IsMemory : {A : Type 0} → A → ImportFault → Type 0
IsMemory refused fault = fault ≡ Memory
