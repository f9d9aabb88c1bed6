-- What a `FuseFolder` shows.
use Rattle.std.specs.Prelude.{◌≡◌, ℕ, ◌+◌, ◌-◌, ◌^◌, min, Bool, true, false, Result, IsErr}
use Rattle.disk_model.specs.Fault.{HasCause}
use Rattle.archive_folder.specs.Fuse.{is_among, call_after}
use Rattle.archive_folder.specs.declared.fuse.FuseFolder.{FuseFolder}

-- the folder that it passes calls on to
abbrev pub folder_of : {F D : Type 0} → FuseFolder F D → F
folder_of f = f.folder

-- the numbers of the calls that fail
abbrev pub first_of : {F D : Type 0} → FuseFolder F D → ℕ
first_of f = f.first

abbrev pub last_of : {F D : Type 0} → FuseFolder F D → ℕ
last_of f = f.last

abbrev pub calls_made : {F D : Type 0} → FuseFolder F D → ℕ
calls_made f = f.made

-- the calls that it has failed
abbrev pub own_failures : {F D : Type 0} → FuseFolder F D → ℕ
own_failures f = f.failures

-- its own failures and those of the folder
abbrev pub failures_of : {F D : Type 0} → (F → ℕ) → FuseFolder F D → ℕ
failures_of failures f = min (failures f.folder + f.failures) (2 ^ 64 - 1)

-- the next call fails and does nothing
abbrev pub is_blown : {F D : Type 0} → FuseFolder F D → Bool
is_blown f = is_among f.first f.last (call_after f.made)

-- the same calls fail, and as many were made
pub record IsSameFuse {F D : Type 0} (old new : FuseFolder F D) : Type 0 where
  pub first : first_of new ≡ first_of old
  pub last : last_of new ≡ last_of old
  pub made : calls_made new ≡ calls_made old

-- a blown call fails and does nothing, another one fails only if the folder does, and each is counted
pub record Spends {F D T E : Type 0} (failures : F → ℕ) (old new : FuseFolder F D) (result : Result T E) : Type 0 where
  pub blown : is_blown old ≡ true → IsErr result × (folder_of new ≡ folder_of old)
  pub passed : is_blown old ≡ false → HasCause (failures (folder_of old)) (failures (folder_of new)) result
  pub first : first_of new ≡ first_of old
  pub last : last_of new ≡ last_of old
  pub made : calls_made new ≡ call_after (calls_made old)
