-- The calls of a program's hub, as steps of the machine. Ours.
use Rattle.std.specs.Prelude.{◌≡◌, ℕ, ⊤, Option, Some, None, Result, Ok, Err, List, [], ◌∷◌, take}
use Rattle.serve_machine.specs.declared.answers.Pulled.{Pulled}
use Rattle.serve_machine.specs.declared.fault.HubFault.{HubFault}
use Rattle.serve_machine.specs.Hub.{HubState, Given, Event, hub_step}
use Rattle.serve_machine.specs.Run.{Step}

-- what a pull returned: the first bytes of its buffer
abbrev pub given_in : List ℕ → Result Pulled HubFault → Result Given HubFault
given_in buffer (Ok pulled) = Ok (record { bytes = take pulled.count buffer; done = pulled.done })
given_in buffer (Err fault) = Err fault

-- what a reopening found, if it left the machine in this state
abbrev pub found_by : {T E : Type 0} → Result T E → HubState → Option (List ℕ)
found_by (Ok done) after = Some after.committed
found_by (Err fault) after = None

-- A call that leaves the new hub is a step of the machine, whichever machine the old hub is seen as. A hub may be
-- seen as several: the bytes in doubt are in none of its fields, and only the images of its disk show them.
abbrev pub Steps : {H : Type 0} → (H → HubState → Type 0) → H → H → (HubState → Event) → Type 0
Steps shows old new event =
    (before : HubState) → shows old before → (after : HubState) × shows new after × hub_step before (event after) after

-- a call, by the machine that it left, and the hub that it left
pub record Call (H : Type 0) : Type 0 where
  pub event : HubState → Event
  pub after : H

-- each is a step, from the hub that the one before it left
abbrev pub AreCalls : {H : Type 0} → (H → HubState → Type 0) → H → List (Call H) → Type 0
AreCalls shows old [] = ⊤
AreCalls shows old (call ∷ calls) = Steps shows old call.after call.event × AreCalls shows call.after calls

-- the step is what the call is for the machine
abbrev pub IsSeenAs : {H : Type 0} → (H → HubState → Type 0) → Call H → Step → Type 0
IsSeenAs shows call step = shows call.after step.after × (step.event ≡ call.event step.after)
