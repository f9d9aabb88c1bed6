-- What is kept in memory of a disk's contents, and what each call makes of it. The rules are ours: no standard speaks
-- of them. (A file's tail, which follows its committed bytes, is another thing.)
use Rattle.std.specs.Prelude.{◌≡◌, ℕ, ◌+◌, ◌-◌, ◌/◌, ◌≤◌, ◌<◌, ◌^◌, nat_le, ◌&&◌, List, [], length, take, drop, if◌then◌else◌}
use Rattle.disk_model.specs.Image.{overwritten}

-- bytes of the contents, the offset of the first of them, and how many are kept at most
pub record Tail : Type 0 where
  pub start : ℕ
  pub bytes : List ℕ
  pub room : ℕ

abbrev pub tail_at : ℕ → List ℕ → ℕ → Tail
tail_at start bytes room = record { start = start; bytes = bytes; room = room }

abbrev pub end_of : Tail → ℕ
end_of tail = tail.start + length tail.bytes

-- the contents have the tail's bytes at the tail's place
pub record StandsIn (contents : List ℕ) (tail : Tail) : Type 0 where
  pub inside : end_of tail ≤ length contents
  pub same : take (length tail.bytes) (drop tail.start contents) ≡ tail.bytes

-- What always holds of a tail.
pub record IsKept (tail : Tail) : Type 0 where
  pub fits : length tail.bytes ≤ tail.room
  pub short : end_of tail < 2 ^ 63

-- this number of bytes at this offset are all in the tail
pub record Holds (at n : ℕ) (tail : Tail) : Type 0 where
  pub from : tail.start ≤ at
  pub to : at + n ≤ end_of tail

abbrev pub forgotten : Tail → Tail
forgotten tail = tail_at 0 [] tail.room

-- How many of n bytes are dropped in front: none if there is room for all. Otherwise half a room is kept, so that half
-- a room can be written before bytes are moved again.
abbrev pub surplus : ℕ → ℕ → ℕ
surplus room n = if nat_le n room then 0 else n - room / 2

abbrev pub fitted : Tail → Tail
fitted tail =
    let n = surplus tail.room (length tail.bytes) in
    tail_at (tail.start + n) (drop n tail.bytes) tail.room

-- A write before the tail leaves it. One that begins in the tail, or where it ends, goes on in it. After another one
-- only what was written is kept.
abbrev pub joined : ℕ → List ℕ → Tail → Tail
joined at bytes tail =
    if nat_le (at + length bytes) tail.start then tail
    else if nat_le tail.start at && nat_le at (end_of tail) then tail_at tail.start (overwritten tail.bytes (at - tail.start) bytes) tail.room
    else tail_at at bytes tail.room

-- after a write that succeeds, and after a cut that does
unfoldable pub tail_written : ℕ → List ℕ → Tail → Tail
tail_written at bytes tail = fitted (joined at bytes tail)

unfoldable pub tail_cut : ℕ → Tail → Tail
tail_cut to tail = if nat_le tail.start to then tail_at tail.start (take (to - tail.start) tail.bytes) tail.room else forgotten tail
