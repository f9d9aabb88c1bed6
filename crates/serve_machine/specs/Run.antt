-- Steps of a hub in any order, and what one session sees of them. Ours.
use Rattle.std.specs.Prelude.{◌≡◌, ℕ, ◌+◌, ◌≤◌, ⊤, Bool, true, false, ◌&&◌, nat_eq, if◌then◌else◌, Option, Some, None, MatchOption, Ok, Err, List, [], ◌∷◌, ◌++◌, take, drop}
use Rattle.std.specs.List.{flat_map, list_any}
use Rattle.serve_machine.specs.declared.answers.Progress.{Progress}
use Rattle.serve_machine.specs.declared.answers.Progress.TheVariants.{More, Ready}
use Rattle.serve_responses.specs.Response.{IsResponse}
use Rattle.serve_machine.specs.Hub.{HubState, Event, Connect, Receive, Pull, Close, Record, Flush, Group, Reopen, hub_step, phase_of}

-- a call with its answer, and the hub after it
pub record Step : Type 0 where
  pub event : Event
  pub after : HubState

-- each takes the hub that the one before it left to the next
abbrev pub AreSteps : HubState → List Step → Type 0
AreSteps old [] = ⊤
AreSteps old (step ∷ steps) = hub_step old step.event step.after × AreSteps step.after steps

-- the number has not been given, and no session has it
abbrev pub IsUnused : HubState → ℕ → Type 0
IsUnused hub id = (hub.next_id ≤ id) × (phase_of hub id ≡ None)

-- ---- the numbers of sessions
-- the session whose call it is
abbrev pub session_of : Event → Option ℕ
session_of (Connect (Ok id)) = Some id
session_of (Connect (Err fault)) = None
session_of (Receive id bytes answer) = Some id
session_of (Pull id size answer) = Some id
session_of (Close id answer) = Some id
session_of (Record command answer) = None
session_of (Flush answer) = None
session_of (Group most) = None
session_of (Reopen found) = None

-- the number that the call gave to a session, if it did
abbrev pub connected : Event → List ℕ
connected (Connect (Ok id)) = id ∷ []
connected _ = []

-- the numbers that were given, in the order of the calls
abbrev pub all_connected : List Step → List ℕ
all_connected steps = flat_map (λ (step : Step). connected step.event) steps

-- ---- what a session does
-- A call of the session that was carried out, as far as the session knows it: bytes with the progress that they made,
-- or the size of a buffer.
pub data OwnCall : Type 0 where
  Received : (bytes : List ℕ) (progress : Progress) → OwnCall
  Pulled : (size : ℕ) → OwnCall

-- the call, if it is the session's and was carried out
abbrev pub own_call : ℕ → Event → List OwnCall
own_call id (Receive other bytes (Ok progress)) = if nat_eq other id then Received bytes progress ∷ [] else []
own_call id (Pull other size (Ok given)) = if nat_eq other id then Pulled size ∷ [] else []
own_call id _ = []

-- the session's calls that were carried out, in order: a refused call isn't one
abbrev pub own_calls : ℕ → List Step → List OwnCall
own_calls id steps = flat_map (λ (step : Step). own_call id step.event) steps

-- what was received up to the call that completed the head, if these bytes were received before
abbrev pub head_after : List ℕ → List OwnCall → Option (List ℕ)
head_after received [] = None
head_after received (Received bytes More ∷ calls) = head_after (received ++ bytes) calls
head_after received (Received bytes Ready ∷ calls) = Some (received ++ bytes)
head_after received (Pulled size ∷ calls) = head_after received calls

-- what was received up to the call that completed the head, if one did
abbrev pub head_in : List OwnCall → Option (List ℕ)
head_in calls = head_after [] calls

-- how many bytes the buffers of these calls hold together
abbrev pub room_in : List OwnCall → ℕ
room_in [] = 0
room_in (Received bytes progress ∷ calls) = room_in calls
room_in (Pulled size ∷ calls) = size + room_in calls

-- how many bytes the buffers hold of the calls after the one that completed the head
abbrev pub room_after_head : List OwnCall → ℕ
room_after_head [] = 0
room_after_head (Received bytes More ∷ calls) = room_after_head calls
room_after_head (Received bytes Ready ∷ calls) = room_in calls
room_after_head (Pulled size ∷ calls) = room_after_head calls

-- ---- what a session gets
-- the bytes that the call gave the session
abbrev pub given_by : ℕ → Event → List ℕ
given_by id (Pull other size (Ok given)) = if nat_eq other id then given.bytes else []
given_by id _ = []

-- all bytes that the session pulled
abbrev pub pulled : ℕ → List Step → List ℕ
pulled id steps = flat_map (λ (step : Step). given_by id step.event) steps

-- the call is the session's, and says that nothing is left
abbrev pub says_done : ℕ → Event → Bool
says_done id (Pull other size (Ok given)) = nat_eq other id && given.done
says_done id _ = false

-- one of the session's pulls said that nothing is left
abbrev pub was_done : ℕ → List Step → Bool
was_done id steps = list_any (λ (step : Step). says_done id step.event) steps

-- ---- what is committed when a head is complete
-- the call is the session's, and says that its head is complete
abbrev pub completes : ℕ → Event → Bool
completes id (Receive other bytes (Ok Ready)) = nat_eq other id
completes id _ = false

-- what is committed after the call that completed the session's head, if one did
abbrev pub committed_at_head : ℕ → List Step → Option (List ℕ)
committed_at_head id [] = None
committed_at_head id (step ∷ steps) = if completes id step.event then Some step.after.committed else committed_at_head id steps

-- ---- what a session is promised
-- What was received has a response over what was committed when its head was complete. The bytes that the session
-- pulled are the first ones of the response, as many as its buffers hold, and all of them if a pull said so.
pub record GetsResponse (id : ℕ) (steps : List Step) (received : List ℕ) : Type 0 where
  pub committed : List ℕ
  pub moment : committed_at_head id steps ≡ Some committed
  pub response : List ℕ
  pub is_response : IsResponse committed received response
  pub filled : pulled id steps ≡ take (room_after_head (own_calls id steps)) response
  pub prefix : response ≡ pulled id steps ++ drop (room_after_head (own_calls id steps)) response
  pub all : was_done id steps ≡ true → pulled id steps ≡ response

-- before its head is complete it gets nothing
pub record GetsNothing (id : ℕ) (steps : List Step) : Type 0 where
  pub moment : committed_at_head id steps ≡ None
  pub nothing : pulled id steps ≡ []
  pub not_done : was_done id steps ≡ false

-- what the session with this number gets of these steps
abbrev pub IsServed : ℕ → List Step → Type 0
IsServed id steps = MatchOption (head_in (own_calls id steps)) (GetsNothing id steps) (GetsResponse id steps)
