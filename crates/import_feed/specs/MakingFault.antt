-- The numbers and names of why a feed ends before its input does. They are ours.
use Rattle.std.specs.Prelude.{◌≡◌, ℕ, List, codes}
use Rattle.import_feed.specs.declared.fault.MakingFault.{MakingFault}
use Rattle.import_feed.specs.declared.fault.MakingFault.TheVariants.{Page, Chain, PacketTooLong, Unfinished, TooLong, Read, Limit, Write, Memory}

abbrev pub code_of : MakingFault → ℕ
code_of (Page offset fault) = 1
code_of (Chain offset fault) = 2
code_of (PacketTooLong offset) = 3
code_of (Unfinished offset serial) = 4
code_of (TooLong offset) = 5
code_of (Read offset) = 6
code_of Limit = 7
code_of Write = 8
code_of Memory = 9

abbrev pub name_of : MakingFault → List ℕ
name_of (Page offset fault) = codes "Page"
name_of (Chain offset fault) = codes "Chain"
name_of (PacketTooLong offset) = codes "PacketTooLong"
name_of (Unfinished offset serial) = codes "Unfinished"
name_of (TooLong offset) = codes "TooLong"
name_of (Read offset) = codes "Read"
name_of Limit = codes "Limit"
name_of Write = codes "Write"
name_of Memory = codes "Memory"

-- lack of memory is the fault `Memory`
abbrev pub IsMemory : {A : Type 0} → A → MakingFault → Type 0
IsMemory refused fault = fault ≡ Memory
