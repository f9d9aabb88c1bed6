-- The packet of a Skeleton's head (Xiph, Ogg Skeleton 3.0, "fishead").
use Rattle.std.specs.Prelude.{◌≡◌, ℕ, ◌<◌, ◌^◌, List, [], ◌∷◌, ◌++◌, length, take, not, ◌==◌, if◌then◌else◌, Option, Some, None, codes, slice_range}
use Rattle.std.specs.List.{AllByRecursion}
use Rattle.std.specs.Str.{bytes_eq}
use Rattle.ogg_page.specs.Numbers.{u16_bytes, fraction_bytes, IsFraction}
use Rattle.ogg_page.specs.Page.{IsByte}
use Rattle.skeleton3.specs.declared.fault.SkeletonFault.{SkeletonFault}
use Rattle.skeleton3.specs.declared.fault.SkeletonFault.TheVariants.{Length, Name, Version}
use Rattle.skeleton3.specs.declared.fishead.Fishead.{Fishead}
use Rattle.skeleton3.specs.Sizes.{fishead_size, major_version, time_size}

-- what the packet begins with
abbrev pub fishead_name : List ℕ
fishead_name = codes "fishead" ++ 0 ∷ []

-- The 64 bytes: the name, the version's major and minor number, the presentation time and the base time, each a
-- numerator and a denominator, and the time in UTC as a text of 20 bytes.
unfoldable pub fishead_with : ℕ → Fishead → List ℕ
fishead_with minor fishead =
    fishead_name ++ (u16_bytes major_version ++ (u16_bytes minor ++ (fraction_bytes fishead.presentation ++ (fraction_bytes fishead.base ++ fishead.utc))))

-- the packet as it is written: of version 3.0
abbrev pub fishead_bytes : Fishead → List ℕ
fishead_bytes fishead = fishead_with 0 fishead

-- each number is in its field's range, as in every fishead that a program has
pub record IsFishead (fishead : Fishead) : Type 0 where
  pub presentation : IsFraction fishead.presentation
  pub base : IsFraction fishead.base
  pub utc : AllByRecursion IsByte fishead.utc
  pub utc_size : length fishead.utc ≡ time_size

-- the packet is this fishead's, of a version 3 with any minor number
abbrev pub HoldsFishead : List ℕ → Fishead → Type 0
HoldsFishead packet fishead = (minor : ℕ) × (minor < 2 ^ 16) × (packet ≡ fishead_with minor fishead)

-- Ours: what is wrong with a packet as a fishead, the first fault in this order, if it has one.
abbrev pub fishead_fault : List ℕ → Option SkeletonFault
fishead_fault packet =
    if not (length packet == fishead_size) then Some Length
    else if not (bytes_eq (take 8 packet) fishead_name) then Some Name
    else if not (bytes_eq (slice_range packet 8 10) (u16_bytes major_version)) then Some Version
    else None
