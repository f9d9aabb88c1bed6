-- The numbers and names of why a page isn't taken. They are ours.
use Rattle.std.specs.Prelude.{◌≡◌, ℕ, List, codes}
use Rattle.import_gather.specs.declared.fault.GatherFault.{GatherFault}
use Rattle.import_gather.specs.declared.fault.GatherFault.TheVariants.{Chain, PacketTooLong, Memory}

abbrev pub code_of : GatherFault → ℕ
code_of (Chain fault) = 1
code_of PacketTooLong = 2
code_of Memory = 3

abbrev pub name_of : GatherFault → List ℕ
name_of (Chain fault) = codes "Chain"
name_of PacketTooLong = codes "PacketTooLong"
name_of Memory = codes "Memory"

-- want of memory is the fault `Memory`
abbrev pub IsMemory : {A : Type 0} → A → GatherFault → Type 0
IsMemory refused fault = fault ≡ Memory
