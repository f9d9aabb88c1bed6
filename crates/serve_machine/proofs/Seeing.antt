-- If each call is a step, the calls are steps in turn.
use Rattle.std.proofs.Common.{List, [], ◌∷◌, refl}
use Rattle.std.specs.List.{AllZip}
use Rattle.serve_machine.specs.Hub.{HubState}
use Rattle.serve_machine.specs.Run.{Step, AreSteps}
use Rattle.serve_machine.specs.Calls.{Call, AreCalls, IsSeenAs}

abbrev AreSeen : {H : Type 0} → (H → HubState → Type 0) → HubState → List (Call H) → Type 0
AreSeen shows start calls = (steps : List Step) × AreSteps start steps × AllZip (IsSeenAs shows) calls steps

pub steps_of : {H : Type 0} (shows : H → HubState → Type 0) (hub : H) (start : HubState) (calls : List (Call H))
    → shows hub start → AreCalls shows hub calls → AreSeen shows start calls
steps_of shows hub start [] shown are = ([], tt, tt)
steps_of shows hub start (call ∷ calls) shown are =
    let next = are.0 start shown in
    let rest = steps_of shows call.after next.0 calls next.1 are.1 in
    (record { event = call.event next.0; after = next.0 } ∷ rest.0, (next.2, rest.1), ((next.1, refl), rest.2))
