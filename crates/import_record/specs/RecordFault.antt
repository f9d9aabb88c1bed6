-- The numbers and names of what ends a recording. They are ours.
use Rattle.std.specs.Prelude.{◌≡◌, ℕ, List, codes}
use Rattle.import_record.specs.declared.fault.RecordFault.{RecordFault}
use Rattle.import_record.specs.declared.fault.RecordFault.TheVariants.{Read, Memory, Write}

abbrev pub code_of : RecordFault → ℕ
code_of Read = 1
code_of Memory = 2
code_of Write = 3

abbrev pub name_of : RecordFault → List ℕ
name_of Read = codes "Read"
name_of Memory = codes "Memory"
name_of Write = codes "Write"

-- want of memory is the fault `Memory`, and a failing writer of pages is the fault `Write`
abbrev pub IsMemory : {A : Type 0} → A → RecordFault → Type 0
IsMemory refused fault = fault ≡ Memory

abbrev pub IsWrite : {A : Type 0} → A → RecordFault → Type 0
IsWrite failed fault = fault ≡ Write
