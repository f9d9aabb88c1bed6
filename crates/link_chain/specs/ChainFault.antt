-- The numbers and names of what can be wrong with a page in a chain. They are ours.
use Rattle.std.specs.Prelude.{◌≡◌, ℕ, List, codes}
use Rattle.link_chain.specs.declared.chain_fault.ChainFault.{ChainFault}
use Rattle.link_chain.specs.declared.chain_fault.ChainFault.TheVariants.{Sequence, Continued, BosPlace, BosShape, SerialTwice, NoStream, AfterEos, BosWhileOpen, TooMany, EosUnfinished, Memory}

abbrev pub code_of : ChainFault → ℕ
code_of Sequence = 1
code_of Continued = 2
code_of BosPlace = 3
code_of BosShape = 4
code_of SerialTwice = 5
code_of NoStream = 6
code_of AfterEos = 7
code_of BosWhileOpen = 8
code_of TooMany = 9
code_of EosUnfinished = 10
code_of Memory = 11

abbrev pub name_of : ChainFault → List ℕ
name_of Sequence = codes "Sequence"
name_of Continued = codes "Continued"
name_of BosPlace = codes "BosPlace"
name_of BosShape = codes "BosShape"
name_of SerialTwice = codes "SerialTwice"
name_of NoStream = codes "NoStream"
name_of AfterEos = codes "AfterEos"
name_of BosWhileOpen = codes "BosWhileOpen"
name_of TooMany = codes "TooMany"
name_of EosUnfinished = codes "EosUnfinished"
name_of Memory = codes "Memory"

-- want of memory is the fault `Memory`
abbrev pub IsMemory : {A : Type 0} → A → ChainFault → Type 0
IsMemory refused fault = fault ≡ Memory
