-- The faults that an opening may come to. Ours.
use Rattle.std.specs.Prelude.{◌≡◌, ◌⊎◌}
use Rattle.gate_file.specs.declared.fault.OpenFault.{OpenFault}
use Rattle.fault_lines.specs.declared.fault.Fault.{Fault}
use Rattle.fault_lines.specs.declared.fault.Fault.TheVariants.{File, Foreign, Memory, Open}
use Rattle.record_actions.specs.declared.recorders.Opening.{Opening}
use Rattle.record_actions.specs.declared.recorders.Opening.TheVariants.{AsItIs, Own, Kept}

-- the file isn't one that can be recorded into
abbrev pub IsOpenFault : Fault → Type 0
IsOpenFault fault = (why : OpenFault) × (fault ≡ Open why)

-- a copy of the tail can't be made
abbrev pub IsCopyFault : Fault → Type 0
IsCopyFault fault = (fault ≡ Memory) ⊎ (fault ≡ File)

abbrev pub MayMeet : Opening → Fault → Type 0
MayMeet AsItIs fault = IsOpenFault fault
MayMeet Own fault = (fault ≡ Foreign) ⊎ IsOpenFault fault
MayMeet Kept fault = (fault ≡ Foreign) ⊎ (IsCopyFault fault ⊎ IsOpenFault fault)
