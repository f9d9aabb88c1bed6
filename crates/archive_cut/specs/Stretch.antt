-- A cut from a place where no link is open: the file's own bytes, and then pages that end streams (RFC 3533, section 4).
-- Ours.
use Rattle.std.specs.Prelude.{◌≡◌, ℕ, ◌-◌, List, ◌++◌, length, take, drop, min}
use Rattle.serve_live.specs.Listening.{part_at}

-- what is still to be given of it: the bytes of the file between two places, and a text
pub record StretchState : Type 0 where
  pub place : ℕ
  pub end : ℕ
  pub text : List ℕ

-- in a file with these bytes
abbrev pub stretch_rest : List ℕ → StretchState → List ℕ
stretch_rest bytes stretch = part_at stretch.place (stretch.end - stretch.place) bytes ++ stretch.text

-- what a pull takes: the first bytes of what was to be given are in the buffer, as many as go in
pub record GivesStretch (bytes : List ℕ) (old : StretchState) (size : ℕ) (buffer : List ℕ) (count : ℕ) (new : StretchState) : Type 0 where
  pub count_is : count ≡ min (length (stretch_rest bytes old)) size
  pub given : take count buffer ≡ take size (stretch_rest bytes old)
  pub left : stretch_rest bytes new ≡ drop size (stretch_rest bytes old)
