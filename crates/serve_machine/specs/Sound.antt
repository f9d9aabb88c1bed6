-- What is committed stays, and holds a recording. Ours.
use Rattle.std.specs.Prelude.{◌≡◌, ℕ, ⊤, Some, List, ◌++◌}
use Rattle.ogg_command.specs.Command.{IsCommand}
use Rattle.link_chain.specs.Recording.{Recording, Holds}
use Rattle.serve_machine.specs.Hub.{HubState, Event, Connect, Receive, Pull, Close, Record, Flush, Group, Reopen}

-- the bytes hold some recording
abbrev pub IsRecorded : List ℕ → Type 0
IsRecorded bytes = (recording : Recording) × Holds bytes recording

-- The committed bytes hold a recording. So do the committed bytes with what waits, and with the group in doubt.
pub record IsSound (hub : HubState) : Type 0 where
  pub committed : IsRecorded hub.committed
  pub held : IsRecorded (hub.committed ++ hub.held)
  pub in_doubt : (group : List ℕ) → hub.in_doubt ≡ Some group → IsRecorded (hub.committed ++ group)

-- the old bytes stand in front of the new ones
abbrev pub Extends : List ℕ → List ℕ → Type 0
Extends old new = (more : List ℕ) × (new ≡ old ++ more)

-- if the call has a command, each number of it is in the range of its field, as its type has it
abbrev pub HasCommand : Event → Type 0
HasCommand (Record command answer) = IsCommand command
HasCommand (Connect answer) = ⊤
HasCommand (Receive id bytes answer) = ⊤
HasCommand (Pull id size answer) = ⊤
HasCommand (Close id answer) = ⊤
HasCommand (Flush answer) = ⊤
HasCommand (Group most) = ⊤
HasCommand (Reopen found) = ⊤
