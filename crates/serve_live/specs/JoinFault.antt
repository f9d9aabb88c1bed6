-- The numbers and names of the reasons why a listener can't join. They are ours.
use Rattle.std.specs.Prelude.{◌≡◌, ℕ, List, codes}
use Rattle.serve_live.specs.declared.fault.JoinFault.{JoinFault}
use Rattle.serve_live.specs.declared.fault.JoinFault.TheVariants.{Source, Memory}

abbrev pub code_of : JoinFault → ℕ
code_of Source = 1
code_of Memory = 2

abbrev pub name_of : JoinFault → List ℕ
name_of Source = codes "Source"
name_of Memory = codes "Memory"

-- want of memory is the fault `Memory`
abbrev pub IsMemory : {A : Type 0} → A → JoinFault → Type 0
IsMemory refused fault = fault ≡ Memory
