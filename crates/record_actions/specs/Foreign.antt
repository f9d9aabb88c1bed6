-- What no recording begins with. Ours.
use Rattle.std.specs.Prelude.{◌≡◌, ◌≢◌, ◌⊎◌, ℕ, ◌≤◌, List, length, slice_index, take, drop, codes}

-- What of a file is looked at: its first bytes.
abbrev pub front_of : List ℕ → List ℕ
front_of bytes = take 8 bytes

-- They are two or more, and the first is neither that of a page (RFC 3533, section 6, field 1) nor the closed byte, which
-- stands there until the first commit. A file of the ISO base media format begins with such a byte too, but has the name
-- of its first box at byte 4 (ISO/IEC 14496-12, sections 4.2 and 4.3).
pub record IsForeign (front : List ℕ) : Type 0 where
  pub some : 2 ≤ length front
  pub uncommitted : slice_index front 0 ≢ 79
  pub unwritten : (slice_index front 0 ≢ 0) ⊎ (drop 4 front ≡ codes "ftyp")
