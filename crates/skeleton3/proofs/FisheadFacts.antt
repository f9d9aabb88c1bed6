-- The packet of a fishead holds no other, and has no fault.
use Rattle.std.proofs.Common.{◌≡◌, ◌≢◌, ℕ, ◌<◌, ◌^◌, List, ◌++◌, length, take, Bool, false, cond, not, Option, Some, None, refl, ap, ◌∙◌, arith, slice_range}
use Rattle.std.proofs.lemmas.Bool.{eq-eqb, false_from_ne_true}
use Rattle.std.proofs.lemmas.Slice.Eq.{bytes_eq-Decides}
use Rattle.std.specs.Str.{bytes_eq}
use Rattle.ogg_page.specs.Numbers.{u16_bytes, i64_bytes, fraction_bytes, IsFraction}
use Rattle.skeleton3.specs.Fishead.{HoldsFishead, IsFishead, fishead_name, fishead_with, fishead_fault}
use Rattle.skeleton3.specs.declared.fishead.Fishead.{Fishead}
use Rattle.skeleton3.specs.declared.fault.SkeletonFault.{SkeletonFault}
use Rattle.skeleton3.specs.declared.fault.SkeletonFault.TheVariants.{Length, Name, Version}
use Rattle.ogg_page.specs.Laws.NumberBytes.{behind_u16, same_u16, same_fraction}
use Rattle.ogg_page.specs.Laws.Prefixes.{same_fronts}

-- what is checked once the length is right
abbrev fault_of_size : Bool → List ℕ → Option SkeletonFault
fault_of_size right packet =
    cond (not right) (Some Length)
    (cond (not (bytes_eq (take 8 packet) fishead_name)) (Some Name)
    (cond (not (bytes_eq (slice_range packet 8 10) (u16_bytes 3))) (Some Version) None))

length-fishead_with : (minor : ℕ) (fishead : Fishead) → length fishead.utc ≡ 20 → length (fishead_with minor fishead) ≡ 64
unfolding fishead_with u16_bytes i64_bytes
length-fishead_with minor fishead size = omega (arith, size)

pub no_fault : (minor : ℕ) (fishead : Fishead) → length fishead.utc ≡ 20 → fishead_fault (fishead_with minor fishead) ≡ None
unfolding fishead_with u16_bytes i64_bytes
no_fault minor fishead size =
    ap (λ b. fault_of_size b (fishead_with minor fishead)) (eq-eqb (length (fishead_with minor fishead)) 64 (length-fishead_with minor fishead size))

-- a packet that holds a fishead has no fault
pub held_has_no_fault : (packet : List ℕ) (fishead : Fishead) → IsFishead fishead → HoldsFishead packet fishead → fishead_fault packet ≡ None
held_has_no_fault packet fishead is holds = ap fishead_fault holds.2 ∙ no_fault holds.0 fishead is.utc_size

-- another major number is a fault
pub other_version : (major : ℕ) (rest : List ℕ) → major < 2 ^ 16 → major ≢ 3 → length rest ≡ 54 → fishead_fault (fishead_name ++ (u16_bytes major ++ rest)) ≡ Some Version
unfolding u16_bytes
other_version major rest small other size =
    let packet : List ℕ = fishead_name ++ (u16_bytes major ++ rest) in
    let one : u16_bytes major ≡ u16_bytes 3 → major ≡ 3 = λ e. (same_u16 major 3 rest rest small (omega arith) (ap (λ l. l ++ rest) e)).0 in
    let differs : bytes_eq (u16_bytes major) (u16_bytes 3) ≡ false =
    false_from_ne_true _ (λ same. other (one ((bytes_eq-Decides (u16_bytes major) (u16_bytes 3)).0 same))) in
    ap (λ b. fault_of_size b packet) (eq-eqb (length packet) 64 (omega (arith, size)))
    ∙ ap (λ b. cond (not b) (Some Version) None) differs

-- one fishead has these bytes, whatever the minor number
pub same_fishead : (m n : ℕ) (f g : Fishead) → IsFraction f.presentation → IsFraction f.base → IsFraction g.presentation → IsFraction g.base
    → fishead_with m f ≡ fishead_with n g → f ≡ g
unfolding fishead_with
same_fishead m n f g fp fb gp gb e =
    let versions = (same_fronts fishead_name fishead_name
    (u16_bytes 3 ++ (u16_bytes m ++ (fraction_bytes f.presentation ++ (fraction_bytes f.base ++ f.utc))))
    (u16_bytes 3 ++ (u16_bytes n ++ (fraction_bytes g.presentation ++ (fraction_bytes g.base ++ g.utc)))) refl e).1 in
    let minors = behind_u16 3 3 (u16_bytes m ++ (fraction_bytes f.presentation ++ (fraction_bytes f.base ++ f.utc)))
    (u16_bytes n ++ (fraction_bytes g.presentation ++ (fraction_bytes g.base ++ g.utc))) versions in
    let times = behind_u16 m n (fraction_bytes f.presentation ++ (fraction_bytes f.base ++ f.utc)) (fraction_bytes g.presentation ++ (fraction_bytes g.base ++ g.utc)) minors in
    let presentation = same_fraction f.presentation g.presentation (fraction_bytes f.base ++ f.utc) (fraction_bytes g.base ++ g.utc) fp gp times in
    let base = same_fraction f.base g.base f.utc g.utc fb gb presentation.1 in
    λ i. record { presentation = presentation.0 i; base = base.0 i; utc = base.1 i }

-- the parts of a packet, one after the other
pub of_parts : (packet behind_name behind_major behind_minor behind_presentation : List ℕ) (major minor : ℕ) (fishead : Fishead)
    → packet ≡ fishead_name ++ behind_name → behind_name ≡ u16_bytes major ++ behind_major → major ≡ 3 → behind_major ≡ u16_bytes minor ++ behind_minor
    → behind_minor ≡ fraction_bytes fishead.presentation ++ behind_presentation → behind_presentation ≡ fraction_bytes fishead.base ++ fishead.utc
    → packet ≡ fishead_with minor fishead
unfolding fishead_with
of_parts packet behind_name behind_major behind_minor behind_presentation major minor fishead a b c d e f = cc
