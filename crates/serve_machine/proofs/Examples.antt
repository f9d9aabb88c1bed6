-- What one session sees of steps, by evaluation. Of the hubs between the steps only what is committed is written out.
use Rattle.std.specs.Prelude.{◌≡◌, ℕ, true, false, Bool, Some, None, Ok, Err, List, [], ◌∷◌, refl}
use Rattle.serve_machine.specs.declared.fault.HubFault.TheVariants.{Memory}
use Rattle.serve_machine.specs.declared.answers.Progress.TheVariants.{More, Ready}
use Rattle.serve_machine.specs.Hub.{HubState, Given, Event, Connect, Receive, Pull, Reopen}
use Rattle.serve_machine.specs.Run.{Step, Received, Pulled, own_calls, head_in, room_after_head, pulled, was_done, committed_at_head, all_connected}

abbrev hub : List ℕ → HubState
hub committed =
    record {
      committed = committed;
      held = [];
      waiting = 0;
      most = 1;
      most_after_reopening = 1;
      count = 0;
      in_doubt = None;
      has_file = true;
      sessions = [];
      next_id = 0;
      room = 64;
    }

abbrev step : Event → List ℕ → Step
step event committed = record { event = event; after = hub committed }

abbrev given : List ℕ → Bool → Given
given bytes done = record { bytes = bytes; done = done }

-- Two sessions take turns. Bytes 5 and 6 are committed between their heads. A call of the first is refused. This
-- session pulls three bytes in two pulls; the second pull says that nothing is left.
abbrev steps : List Step
steps =
    step (Connect (Ok 0)) []
    ∷ step (Receive 0 (71 ∷ []) (Ok More)) []
    ∷ step (Connect (Ok 1)) []
    ∷ step (Receive 0 (69 ∷ []) (Err Memory)) []
    ∷ step (Receive 0 (69 ∷ 84 ∷ []) (Ok Ready)) []
    ∷ step (Pull 1 8 (Ok (given [] false))) []
    ∷ step (Reopen (Some (5 ∷ 6 ∷ []))) (5 ∷ 6 ∷ [])
    ∷ step (Receive 1 (72 ∷ []) (Ok Ready)) (5 ∷ 6 ∷ [])
    ∷ step (Pull 0 2 (Ok (given (1 ∷ 2 ∷ []) false))) (5 ∷ 6 ∷ [])
    ∷ step (Receive 0 (13 ∷ []) (Ok Ready)) (5 ∷ 6 ∷ [])
    ∷ step (Pull 1 1 (Ok (given (9 ∷ []) false))) (5 ∷ 6 ∷ [])
    ∷ step (Pull 0 4 (Ok (given (3 ∷ []) true))) (5 ∷ 6 ∷ [])
    ∷ []

numbers : all_connected steps ≡ 0 ∷ 1 ∷ []
numbers = refl

-- neither the refused call nor any call of the second session is among the first session's calls
first_calls : own_calls 0 steps
    ≡ Received (71 ∷ []) More ∷ Received (69 ∷ 84 ∷ []) Ready ∷ Pulled 2 ∷ Received (13 ∷ []) Ready ∷ Pulled 4 ∷ []
first_calls = refl

first_head : head_in (own_calls 0 steps) ≡ Some (71 ∷ 69 ∷ 84 ∷ [])
first_head = refl

first_room : room_after_head (own_calls 0 steps) ≡ 6
first_room = refl

first_pulled : pulled 0 steps ≡ 1 ∷ 2 ∷ 3 ∷ []
first_pulled = refl

first_done : was_done 0 steps ≡ true
first_done = refl

-- a pull before the head is complete isn't counted
second_room : room_after_head (own_calls 1 steps) ≡ 1
second_room = refl

second_done : was_done 1 steps ≡ false
second_done = refl

-- each head has its own moment
first_moment : committed_at_head 0 steps ≡ Some []
first_moment = refl

second_moment : committed_at_head 1 steps ≡ Some (5 ∷ 6 ∷ [])
second_moment = refl
