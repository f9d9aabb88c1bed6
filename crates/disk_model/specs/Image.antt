-- What a disk holds, and what a stop may leave of it. The rules are ours: no standard speaks of them.
use Rattle.std.specs.Prelude.{◌≡◌, ℕ, ◌+◌, ◌<◌, ◌≤◌, min, max, Bool, false, nat_le, nat_lt, ◌&&◌, List, [], ◌∷◌, ◌++◌, length, take, drop, slice_get}
use Rattle.std.specs.List.{list_any}

-- What a read returns, the bytes at the last sync that succeeded, the ranges written since (the offset of each, and
-- how many bytes it has), and the least and the greatest length since.
pub record DiskState : Type 0 where
  pub contents : List ℕ
  pub synced : List ℕ
  pub written : List (ℕ × ℕ)
  pub least : ℕ
  pub greatest : ℕ

abbrev pub disk_state : List ℕ → List ℕ → List (ℕ × ℕ) → ℕ → ℕ → DiskState
disk_state contents synced written least greatest =
    record { contents = contents; synced = synced; written = written; least = least; greatest = greatest }

-- one of the ranges has this position
abbrev pub is_written : List (ℕ × ℕ) → ℕ → Bool
is_written ranges k = list_any (λ range. nat_le range.0 k && nat_lt k (range.0 + range.1)) ranges

-- A stop may leave this: its length lies between the two, and it agrees with the synced bytes at each position that
-- wasn't written.
pub record IsImage (disk : DiskState) (image : List ℕ) : Type 0 where
  pub no_shorter : disk.least ≤ length image
  pub no_longer : length image ≤ disk.greatest
  pub kept : (k : ℕ) → k < length image → is_written disk.written k ≡ false → slice_get image k ≡ slice_get disk.synced k

-- the bytes after a write
abbrev pub overwritten : List ℕ → ℕ → List ℕ → List ℕ
overwritten old at bytes = take at old ++ bytes ++ drop (at + length bytes) old

-- n bytes from a position on may hold anything
abbrev pub after_write : ℕ → ℕ → DiskState → DiskState
after_write at n disk = record disk { written = disk.written ++ (at, n) ∷ []; greatest = max disk.greatest (at + n) }

-- the length may be n
abbrev pub after_cut : ℕ → DiskState → DiskState
after_cut n disk = record disk { least = min disk.least n }

-- after a write that succeeds, and after a cut that does
abbrev pub written_at : ℕ → List ℕ → DiskState → DiskState
written_at at bytes disk = record (after_write at (length bytes) disk) { contents = overwritten disk.contents at bytes }

abbrev pub cut_to : ℕ → DiskState → DiskState
cut_to n disk = record (after_cut n disk) { contents = take n disk.contents }

-- after a sync that succeeds: what a read returns is the only image
abbrev pub settled : List ℕ → DiskState
settled contents = disk_state contents contents [] (length contents) (length contents)

-- Each image of the disk is one of the bound, now and after the same calls.
pub record IsWithin (disk bound : DiskState) : Type 0 where
  pub synced : disk.synced ≡ bound.synced
  pub unwritten : (k : ℕ) → is_written bound.written k ≡ false → is_written disk.written k ≡ false
  pub least : bound.least ≤ disk.least
  pub greatest : disk.greatest ≤ bound.greatest

-- the contents are the only image, and a write changes only its range
abbrev pub IsSettled : DiskState → Type 0
IsSettled disk = IsWithin disk (settled disk.contents)
