-- Listeners that join. Ours.
use Rattle.serve_live.specs.declared.fault.JoinFault.{JoinFault}
use Rattle.serve_live.specs.declared.fault.JoinFault.TheVariants.{Source as JoinSource, Memory as JoinMemory}
use Rattle.serve_machine.specs.declared.fault.HubFault.{HubFault}
use Rattle.serve_machine.specs.declared.fault.HubFault.TheVariants.{Source, Memory}

-- how a server reports that a listener can't join
abbrev pub fault_of_join : JoinFault → HubFault
fault_of_join JoinSource = Source
fault_of_join JoinMemory = Memory
