-- What happens to a recording: calls with their answers, and stops. Nothing is said of the disk here. Ours.
use Rattle.std.specs.Prelude.{ℕ, ◌+◌, ◌<◌, Bool, true, false, if◌then◌else◌, List, [], ◌∷◌, ◌++◌, length, ⊤}
use Rattle.std.specs.List.{fold}

-- What is known of a recording's commands.
pub record World (C : Type 0) : Type 0 where
  -- each opening finds these
  pub acknowledged : List C
  -- a group after them: the next opening finds all of it, or none
  pub in_doubt : List C
  -- accepted, and waiting for the commit of their group
  pub held : List C
  pub is_open : Bool

-- a call that uses the disk
pub data Call (C : Type 0) : Type 0 where
  Opening : Call C
  -- a command that is to wait for the commit of its group
  Staging : (c : C) → Call C
  -- a command that ends its group, and commits it
  Committing : (c : C) → Call C
  -- a call that commits the commands that wait, as a group
  Flushing : Call C
  Sealing : Call C
  Reading : Call C

-- a call and its answer, or a stop
pub data Step (C : Type 0) : Type 0 where
  -- an opening that found the group in doubt, or didn't find it
  Opened : (found : Bool) → Step C
  Held : (c : C) → Step C
  -- this command and those that waited are acknowledged
  Kept : (c : C) → Step C
  Flushed : Step C
  -- a command that was refused without a call of the disk
  Refused : (c : C) → Step C
  -- a reading, whatever it answers
  Looked : Step C
  Sealed : Step C
  GivenBack : Step C
  -- a disk fault, after which the file has to be opened again; for an opening, any refusal
  Faulted : (call : Call C) → Step C
  -- a stop between two calls
  Stopped : Step C
  StoppedIn : (call : Call C) → Step C

-- nothing is acknowledged yet
abbrev pub start : {C : Type 0} → World C
start = record { acknowledged = []; in_doubt = []; held = []; is_open = false }

-- What the next opening may find after the acknowledged commands, if the call ends without its answer. Only a call
-- that commits leaves a group in doubt: no image shows what only waits.
abbrev pub group_in_doubt : {C : Type 0} → World C → Call C → List C
group_in_doubt w Opening = w.in_doubt
group_in_doubt w (Staging c) = w.in_doubt
group_in_doubt w (Committing c) = w.held ++ c ∷ []
group_in_doubt w Flushing = w.held
group_in_doubt w Sealing = w.in_doubt
group_in_doubt w Reading = w.in_doubt

-- not open, with this group in doubt: what waits is lost
abbrev pub closed : {C : Type 0} → World C → List C → World C
closed w group = record { acknowledged = w.acknowledged; in_doubt = group; held = []; is_open = false }

abbrev pub begun : {C : Type 0} → World C → Call C → World C
begun w call = closed w (group_in_doubt w call)

abbrev pub committed : {C : Type 0} → World C → List C → World C
committed w group = record { acknowledged = w.acknowledged ++ group; in_doubt = []; held = []; is_open = true }

abbrev pub happens : {C : Type 0} → World C → Step C → World C
happens w (Opened found) = committed w (if found then w.in_doubt else [])
happens w (Held c) = record { acknowledged = w.acknowledged; in_doubt = w.in_doubt; held = w.held ++ c ∷ []; is_open = true }
happens w (Kept c) = committed w (w.held ++ c ∷ [])
happens w Flushed = committed w w.held
happens w (Refused c) = w
happens w Looked = w
happens w Sealed = closed w w.in_doubt
happens w GivenBack = closed w w.in_doubt
happens w (Faulted call) = begun w call
happens w Stopped = closed w w.in_doubt
happens w (StoppedIn call) = begun w call

-- the steps, each with the disk after it
abbrev pub run : {C D : Type 0} → World C → List (Step C × D) → World C
run w [] = w
run w ((step, disk) ∷ steps) = run (happens w step) steps

abbrev pub disk_after : {C D : Type 0} → D → List (Step C × D) → D
disk_after disk [] = disk
disk_after disk ((step, new) ∷ steps) = disk_after new steps

-- the acknowledged commands, and then the group in doubt
abbrev pub commands : {C : Type 0} → World C → List C
commands w = w.acknowledged ++ w.in_doubt

-- the state after what is acknowledged
abbrev pub now_in : {S C : Type 0} → (S → C → S) → S → World C → S
now_in next first w = fold next first w.acknowledged

-- what an answer says is kept
abbrev pub acknowledged_by : {C : Type 0} → World C → Step C → List C
acknowledged_by w (Kept c) = w.held ++ c ∷ []
acknowledged_by w Flushed = w.held
acknowledged_by w step = []

-- what the answers say is kept, from the first step on
abbrev pub acknowledged : {C D : Type 0} → World C → List (Step C × D) → List C
acknowledged w [] = []
acknowledged w ((step, disk) ∷ steps) = acknowledged_by w step ++ acknowledged (happens w step) steps

-- From one opening to the next: the group that was in doubt, and the commands that were acknowledged since.
pub record Session (C : Type 0) : Type 0 where
  pub in_doubt : List C
  pub acknowledged : List C

abbrev pub session : {C : Type 0} → List C → List C → Session C
session group acknowledged = record { in_doubt = group; acknowledged = acknowledged }

-- what the answers say is kept, up to the next opening
abbrev pub acknowledged_since : {C D : Type 0} → World C → List (Step C × D) → List C
acknowledged_since w [] = []
acknowledged_since w ((Opened found, disk) ∷ steps) = []
acknowledged_since w ((step, disk) ∷ steps) = acknowledged_by w step ++ acknowledged_since (happens w step) steps

-- one session for each opening that succeeded
abbrev pub sessions : {C D : Type 0} → World C → List (Step C × D) → List (Session C)
sessions w [] = []
sessions w ((Opened found, disk) ∷ steps) = session w.in_doubt (acknowledged_since (happens w (Opened found)) steps) ∷ sessions (happens w (Opened found)) steps
sessions w ((step, disk) ∷ steps) = sessions (happens w step) steps

-- the same, and a session for the opening that is still to come
abbrev pub sessions_of : {C D : Type 0} → List (Step C × D) → World C → List (Session C)
sessions_of steps w = sessions start steps ++ session w.in_doubt [] ∷ []

-- no group gets more commands than this
abbrev pub GroupsUpTo : {C D : Type 0} → ℕ → World C → List (Step C × D) → Type 0
GroupsUpTo most w [] = ⊤
GroupsUpTo most w ((Held c, disk) ∷ steps) = (length w.held + 1 < most) × GroupsUpTo most (happens w (Held c)) steps
GroupsUpTo most w ((step, disk) ∷ steps) = GroupsUpTo most (happens w step) steps
