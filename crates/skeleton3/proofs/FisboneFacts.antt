-- The packet of a fisbone holds no other, and has no fault.
use Rattle.std.proofs.Common.{◌≡◌, ℕ, ◌+◌, ◌<◌, ◌≤◌, ◌^◌, List, [], ◌∷◌, ◌++◌, length, take, drop, Bool, false, cond, not, Option, Some, None, unwrap_or, refl, sym, ap, ◌∙◌, arith, length-append}
use Rattle.std.proofs.Math.Seq.{drop-append_seam}
use Rattle.std.proofs.lemmas.List.{append-nil}
use Rattle.std.proofs.lemmas.Bool.{le-ltb}
use Rattle.std.specs.Int.{w64}
use Rattle.std.specs.Option.{is_some}
use Rattle.std.specs.Prelude.{Result, Err}
use Rattle.std.specs.Result.{result_err}
use Rattle.std.specs.Prelude.{FitsSigned}
use Rattle.std.specs.Str.{bytes_eq}
use Rattle.ogg_page.specs.Numbers.{u32_bytes, i64_bytes, fraction_bytes, IsFraction}
use Rattle.skeleton3.specs.Fields.{NamedValue, content_type, media_in, message_of, IsField, IsFieldValue}
use Rattle.std.specs.List.{AllByRecursion}
use Rattle.skeleton3.specs.Fisbone.{Fisbone, HoldsFisbone, IsFisbone, fisbone_name, fixed_part, fisbone_bytes, fisbone_bytes_with, fisbone_fault}
use Rattle.skeleton3.specs.declared.fault.SkeletonFault.{SkeletonFault}
use Rattle.skeleton3.specs.declared.fault.SkeletonFault.TheVariants.{Length, Name, Fields}
use Rattle.ogg_page.specs.Laws.NumberBytes.{behind_u32, same_u32, same_i64, same_fraction}
use Rattle.ogg_page.specs.Laws.Prefixes.{same_fronts}
use Rattle.skeleton3.proofs.WrittenFields.{media_is_read}

length-fixed_part : (offset : ℕ) (padding : List ℕ) (fisbone : Fisbone) → length padding ≡ 3 → length (fixed_part offset padding fisbone) ≡ 52
unfolding fixed_part u32_bytes i64_bytes
length-fixed_part offset padding fisbone three = omega (arith, three)

-- the message fields stand from byte 52 on
behind_fixed_part : (offset : ℕ) (padding message : List ℕ) (fisbone : Fisbone) → length padding ≡ 3 → drop 52 (fixed_part offset padding fisbone ++ message) ≡ message
behind_fixed_part offset padding message fisbone three =
    ap (λ n. drop n (fixed_part offset padding fisbone ++ message)) (sym (length-fixed_part offset padding fisbone three))
    ∙ drop-append_seam (fixed_part offset padding fisbone) message

-- what is checked in turn
abbrev fault_of : Bool → List ℕ → List ℕ → Option SkeletonFault
fault_of short packet message =
    cond short (Some Length)
    (cond (not (bytes_eq (take 8 packet) fisbone_name)) (Some Name) (cond (not (is_some (media_in message))) (Some Fields) None))

named : (offset : ℕ) (padding message fields : List ℕ) (fisbone : Fisbone) → fault_of false (fixed_part offset padding fisbone ++ message) fields ≡ cond (not (is_some (media_in fields))) (Some Fields) None
unfolding fixed_part
named offset padding message fields fisbone = refl

-- if the fixed part is right, a packet's fault is one of its message fields
pub fault_behind : (offset : ℕ) (padding message : List ℕ) (fisbone : Fisbone) → length padding ≡ 3
    → fisbone_fault (fixed_part offset padding fisbone ++ message) ≡ cond (not (is_some (media_in message))) (Some Fields) None
fault_behind offset padding message fisbone three =
    let packet : List ℕ = fixed_part offset padding fisbone ++ message in
    let long : 52 ≤ length packet = omega (arith, length-append (fixed_part offset padding fisbone) message, length-fixed_part offset padding fisbone three) in
    ap (λ b. fault_of b packet (drop 52 packet)) (le-ltb (length packet) 52 long)
    ∙ named offset padding message (drop 52 packet) fisbone
    ∙ ap (λ fields. cond (not (is_some (media_in fields))) (Some Fields) None) (behind_fixed_part offset padding message fisbone three)

-- a packet that holds a fisbone has no fault
pub held_has_no_fault : (packet : List ℕ) (fisbone : Fisbone) → HoldsFisbone packet fisbone → fisbone_fault packet ≡ None
held_has_no_fault packet fisbone holds =
    ap fisbone_fault holds.spelled
    ∙ fault_behind holds.offset holds.padding holds.message fisbone holds.three
    ∙ ap (λ media. cond (not (is_some media)) (Some Fields) None) holds.media

-- an outcome without a fault is no `Err`
pub has_no_fault : {X : Type 0} (outcome : Result X SkeletonFault) (fault : SkeletonFault) → outcome ≡ Err fault → result_err outcome ≡ None → ⊥
has_no_fault outcome fault is none = cc (ap result_err is)

-- the packet that is written holds the fisbone
pub written_holds : (packet : List ℕ) (fisbone : Fisbone) → IsFieldValue fisbone.media → packet ≡ fisbone_bytes fisbone → HoldsFisbone packet fisbone
written_holds packet fisbone value same =
    record {
      offset = 44;
      padding = 0 ∷ 0 ∷ 0 ∷ [];
      message = content_type fisbone.media;
      small = omega arith;
      three = refl;
      spelled = same;
      media = ap media_in (sym (append-nil (content_type fisbone.media))) ∙ media_is_read fisbone.media [] value tt;
    }

-- a packet that is written with message fields has them from byte 52 on
pub message_behind : (packet : List ℕ) (fisbone : Fisbone) (fields : List NamedValue) → packet ≡ fisbone_bytes_with fields fisbone → drop 52 packet ≡ message_of fisbone.media fields
message_behind packet fisbone fields same = ap (drop 52) same ∙ behind_fixed_part 44 (0 ∷ 0 ∷ 0 ∷ []) (message_of fisbone.media fields) fisbone refl

-- the packet that is written with message fields holds the fisbone
pub written_with_holds : (packet : List ℕ) (fisbone : Fisbone) (fields : List NamedValue) → IsFieldValue fisbone.media → AllByRecursion IsField fields
    → packet ≡ fisbone_bytes_with fields fisbone → HoldsFisbone packet fisbone
written_with_holds packet fisbone fields value are same =
    record {
      offset = 44;
      padding = 0 ∷ 0 ∷ 0 ∷ [];
      message = message_of fisbone.media fields;
      small = omega arith;
      three = refl;
      spelled = same;
      media = media_is_read fisbone.media fields value are;
    }

-- the whole packet, one part after the other
abbrev spelled : ℕ → List ℕ → List ℕ → Fisbone → List ℕ
spelled offset padding message fisbone =
    fisbone_name ++ (u32_bytes offset ++ (u32_bytes fisbone.serial ++ (u32_bytes fisbone.headers ++ (fraction_bytes fisbone.rate
    ++ (i64_bytes fisbone.base_granule ++ (u32_bytes fisbone.preroll ++ (fisbone.shift ∷ (padding ++ message))))))))

in_turn : (offset : ℕ) (padding message : List ℕ) (fisbone : Fisbone) → fixed_part offset padding fisbone ++ message ≡ spelled offset padding message fisbone
unfolding fixed_part u32_bytes i64_bytes
in_turn offset padding message fisbone = refl

-- the parts of a packet, one after the other
pub of_parts : (packet behind_name behind_offset behind_serial behind_headers behind_rate behind_base behind_preroll behind_shift padding message : List ℕ) (offset : ℕ) (fisbone : Fisbone)
    → packet ≡ fisbone_name ++ behind_name → behind_name ≡ u32_bytes offset ++ behind_offset → behind_offset ≡ u32_bytes fisbone.serial ++ behind_serial
    → behind_serial ≡ u32_bytes fisbone.headers ++ behind_headers → behind_headers ≡ fraction_bytes fisbone.rate ++ behind_rate
    → behind_rate ≡ i64_bytes fisbone.base_granule ++ behind_base → behind_base ≡ u32_bytes fisbone.preroll ++ behind_preroll
    → behind_preroll ≡ fisbone.shift ∷ behind_shift → behind_shift ≡ padding ++ message → packet ≡ fixed_part offset padding fisbone ++ message
of_parts packet behind_name behind_offset behind_serial behind_headers behind_rate behind_base behind_preroll behind_shift padding message offset fisbone a b c d e f g h k =
    let parts : packet ≡ spelled offset padding message fisbone = cc in
    parts ∙ sym (in_turn offset padding message fisbone)

-- the numbers of a fisbone are in their fields' range
pub record FitsFields (fisbone : Fisbone) : Type 0 where
  pub serial : fisbone.serial < 2 ^ 32
  pub headers : fisbone.headers < 2 ^ 32
  pub rate : IsFraction fisbone.rate
  pub base_granule : FitsSigned w64 fisbone.base_granule
  pub preroll : fisbone.preroll < 2 ^ 32

pub fits_fields : (fisbone : Fisbone) → IsFisbone fisbone → FitsFields fisbone
fits_fields fisbone is = record { serial = is.serial; headers = is.headers; rate = is.rate; base_granule = is.base_granule; preroll = is.preroll }

-- the parts of a packet from here on
abbrev from_preroll : List ℕ → List ℕ → Fisbone → List ℕ
from_preroll padding message f = u32_bytes f.preroll ++ f.shift ∷ (padding ++ message)

abbrev from_base : List ℕ → List ℕ → Fisbone → List ℕ
from_base padding message f = i64_bytes f.base_granule ++ from_preroll padding message f

abbrev from_rate : List ℕ → List ℕ → Fisbone → List ℕ
from_rate padding message f = fraction_bytes f.rate ++ from_base padding message f

abbrev from_headers : List ℕ → List ℕ → Fisbone → List ℕ
from_headers padding message f = u32_bytes f.headers ++ from_rate padding message f

abbrev from_serial : List ℕ → List ℕ → Fisbone → List ℕ
from_serial padding message f = u32_bytes f.serial ++ from_headers padding message f

-- one fisbone has these bytes, whatever the offset and the padding
pub same_fisbone : (packet : List ℕ) (f g : Fisbone) → FitsFields f → FitsFields g → HoldsFisbone packet f → HoldsFisbone packet g → f ≡ g
same_fisbone packet f g fits is hf hg =
    let whole : spelled hf.offset hf.padding hf.message f ≡ spelled hg.offset hg.padding hg.message g =
    sym (in_turn hf.offset hf.padding hf.message f) ∙ sym hf.spelled ∙ hg.spelled ∙ in_turn hg.offset hg.padding hg.message g in
    let named = (same_fronts fisbone_name fisbone_name (u32_bytes hf.offset ++ from_serial hf.padding hf.message f) (u32_bytes hg.offset ++ from_serial hg.padding hg.message g) refl whole).1 in
    let placed = behind_u32 hf.offset hg.offset (from_serial hf.padding hf.message f) (from_serial hg.padding hg.message g) named in
    let serial = same_u32 f.serial g.serial (from_headers hf.padding hf.message f) (from_headers hg.padding hg.message g) fits.serial is.serial placed in
    let headers = same_u32 f.headers g.headers (from_rate hf.padding hf.message f) (from_rate hg.padding hg.message g) fits.headers is.headers serial.1 in
    let rate = same_fraction f.rate g.rate (from_base hf.padding hf.message f) (from_base hg.padding hg.message g) fits.rate is.rate headers.1 in
    let base = same_i64 f.base_granule g.base_granule (from_preroll hf.padding hf.message f) (from_preroll hg.padding hg.message g) fits.base_granule is.base_granule rate.1 in
    let preroll = same_u32 f.preroll g.preroll (f.shift ∷ (hf.padding ++ hf.message)) (g.shift ∷ (hg.padding ++ hg.message)) fits.preroll is.preroll base.1 in
    let shift : f.shift ≡ g.shift = cc preroll.1 in
    let behind : hf.padding ++ hf.message ≡ hg.padding ++ hg.message = cc preroll.1 in
    let message = (same_fronts hf.padding hg.padding hf.message hg.message (hf.three ∙ sym hg.three) behind).1 in
    let media : f.media ≡ g.media = ap (λ o. unwrap_or o []) (sym hf.media ∙ ap media_in message ∙ hg.media) in
    λ i. record { serial = serial.0 i; headers = headers.0 i; rate = rate.0 i; base_granule = base.0 i; preroll = preroll.0 i; shift = shift i; media = media i }
