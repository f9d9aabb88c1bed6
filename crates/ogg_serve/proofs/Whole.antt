-- A connection as a whole.
use Rattle.std.proofs.Common.{◌≡◌, ℕ, Bool, Option, None, Result, List, sym, ◌∙◌, ap, subst}
use Rattle.serve_machine.specs.declared.fault.HubFault.{HubFault}
use Rattle.serve_machine.specs.Hub.{HubState, phase_of}
use Rattle.serve_machine.specs.Run.{IsUnused}
use Rattle.ogg_serve.specs.declared.pieces.Served.{Served}
use Rattle.ogg_serve.specs.Keeping.{KeepsOthers, OnlyServes}
use Rattle.ogg_serve.specs.Serving.{Gets}
use Rattle.ogg_serve.specs.Steps.{GetsIn}
use Rattle.ogg_serve.proofs.Moves.{committed_is, has_file_is}

pub connected : (before : HubState) (id : ℕ) → id ≡ before.next_id → IsUnused before before.next_id → phase_of before id ≡ None
connected before id same unused = ap (phase_of before) same ∙ unused.1

-- by the number that the session has got
pub all_of : (shows : HubState → Type 0) (coming left old new : Option (List ℕ)) (result : Result Served HubFault) (before begun after : HubState) (id : ℕ) → id ≡ before.next_id → shows after → OnlyServes id before after → phase_of after id ≡ None
    → OnlyServes id before begun → Gets coming left old new begun.has_file begun.committed result
    → (x : HubState) × shows x × OnlyServes before.next_id before x × (phase_of x before.next_id ≡ None) × Gets coming left old new before.has_file before.committed result
all_of shows coming left old new result before begun after id same shown only gone first gets = (
  after,
  shown,
  subst (λ (n : ℕ). OnlyServes n before after) same only,
  subst (λ (n : ℕ). phase_of after n ≡ None) same gone,
  subst (λ (b : Bool). Gets coming left old new b before.committed result) (has_file_is id before begun first)
      (subst (λ (bytes : List ℕ). Gets coming left old new begun.has_file bytes result) (committed_is id before begun first) gets),
)

-- the same while a feed is recorded
pub others_of : (shows : HubState → Type 0) (steps : ℕ → HubState
    → Type 0) (coming left old new : Option (List ℕ)) (result : Result Served HubFault) (before begun ended after : HubState) (id n : ℕ)
    → id ≡ before.next_id → shows after → KeepsOthers id before after → phase_of after id ≡ None
    → OnlyServes id before begun → OnlyServes id ended after → steps n after → GetsIn coming left old new n ended.has_file begun.committed result
    → (x : HubState) × shows x × KeepsOthers before.next_id before x × (phase_of x before.next_id ≡ None)
    × ((k : ℕ) × steps k x × GetsIn coming left old new k x.has_file before.committed result)
others_of shows steps coming left old new result before begun ended after id n same shown keeps gone first last taken gets = (
  after,
  shown,
  subst (λ (number : ℕ). KeepsOthers number before after) same keeps,
  subst (λ (number : ℕ). phase_of after number ≡ None) same gone,
  (
    n,
    taken,
    subst (λ (b : Bool). GetsIn coming left old new n b before.committed result) (sym (has_file_is id ended after last))
        (subst (λ (bytes : List ℕ). GetsIn coming left old new n ended.has_file bytes result) (committed_is id before begun first) gets),
  ),
)
