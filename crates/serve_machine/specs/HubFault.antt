-- The numbers and names of the reasons why a call of a session isn't carried out. They are ours.
use Rattle.std.specs.Prelude.{ℕ, List, codes}
use Rattle.serve_machine.specs.declared.fault.HubFault.{HubFault}
use Rattle.serve_machine.specs.declared.fault.HubFault.TheVariants.{NoSession, SessionsFull, Source, Memory, NoFile}

abbrev pub code_of : HubFault → ℕ
code_of NoSession = 1
code_of SessionsFull = 2
code_of Source = 3
code_of Memory = 4
code_of NoFile = 5

abbrev pub name_of : HubFault → List ℕ
name_of NoSession = codes "NoSession"
name_of SessionsFull = codes "SessionsFull"
name_of Source = codes "Source"
name_of Memory = codes "Memory"
name_of NoFile = codes "NoFile"
