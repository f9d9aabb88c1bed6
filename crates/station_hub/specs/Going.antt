-- A hub that goes on by calls of its recorder alone. Ours.
use Rattle.std.specs.Prelude.{◌≡◌, None, List, [], ◌∷◌}
use Rattle.std.specs.List.{AllByRecursion}
use Rattle.serve_machine.specs.Hub.{HubState}
use Rattle.serve_machine.specs.Run.{AreSteps, Step, session_of}

-- the machine that these steps leave
abbrev pub left_by : HubState → List Step → HubState
left_by before [] = before
left_by before (step ∷ steps) = left_by step.after steps

-- none of these steps is a session's
abbrev pub AreRecorders : List Step → Type 0
AreRecorders steps = AllByRecursion (λ (step : Step). session_of step.event ≡ None) steps

-- Whichever machine the hub is seen as before: it takes steps of the recorder alone, and the hub is seen as the machine that
-- they leave.
abbrev pub OnlyRecords : {H : Type 0} → (H → HubState → Type 0) → H → H → Type 0
OnlyRecords shows old new =
    (before : HubState) → shows old before
    → (steps : List Step) × AreSteps before steps × AreRecorders steps × shows new (left_by before steps)
