-- With which fault a connection has ended, or a feed that is recorded while its file is served. Ours.
use Rattle.std.specs.Prelude.{Bool, true, false, Option, Some, None, Result, Ok, Err}
use Rattle.feed_replies.specs.declared.fault.RunFault.{RunFault}
use Rattle.fault_lines.specs.Fault.{fault_of_run}
use Rattle.fault_lines.specs.declared.fault.Fault.{Fault}
use Rattle.fault_lines.specs.declared.fault.Fault.TheVariants.{Open, Serve}
use Rattle.ogg_serve.specs.declared.pieces.Served.{Served}
use Rattle.ogg_serve.specs.declared.feeding.Step.{Step}
use Rattle.ogg_serve.specs.declared.feeding.Step.TheVariants.{Lost}
use Rattle.serve_machine.specs.declared.fault.HubFault.{HubFault}

-- the fault of a connection
abbrev pub fault_of : Result Served HubFault → Option Fault
fault_of (Ok served) = None
fault_of (Err fault) = Some (Serve fault)

-- the file could not be opened again
abbrev pub is_lost : Option (Result Step RunFault) → Bool
is_lost (Some (Ok (Lost fault))) = true
is_lost ended = false

-- the fault that the program reports
abbrev pub fault_in : Option (Result Step RunFault) → Option Fault
fault_in (Some (Ok (Lost fault))) = Some (Open fault)
fault_in (Some (Err fault)) = Some (fault_of_run fault)
fault_in ended = None
