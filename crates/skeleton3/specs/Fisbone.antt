-- The packet of a stream in a Skeleton (Xiph, Ogg Skeleton 3.0, "fisbone").
use Rattle.std.specs.Prelude.{◌≡◌, ℕ, ℤ, ◌<◌, ◌^◌, List, [], ◌∷◌, ◌++◌, length, take, drop, not, nat_lt, if◌then◌else◌, Option, Some, None, is_some, codes, FitsSigned}
use Rattle.std.specs.List.{AllByRecursion}
use Rattle.std.specs.Int.{w64}
use Rattle.std.specs.Str.{bytes_eq}
use Rattle.ogg_page.specs.Numbers.{u32_bytes, i64_bytes, fraction_bytes, IsFraction}
use Rattle.ogg_page.specs.Page.{IsByte}
use Rattle.skeleton3.specs.Fields.{NamedValue, content_type, media_in, message_of}
use Rattle.skeleton3.specs.declared.fault.SkeletonFault.{SkeletonFault}
use Rattle.skeleton3.specs.declared.fault.SkeletonFault.TheVariants.{Length, Name, Fields}
use Rattle.skeleton3.specs.declared.fisbone.Fisbone.{Fisbone as LentFisbone}
use Rattle.skeleton3.specs.Sizes.{fixed_size, message_offset}

-- a fisbone, without the place of its media type in memory
pub record Fisbone : Type 0 where
  pub serial : ℕ
  pub headers : ℕ
  pub rate : ℤ × ℤ
  pub base_granule : ℤ
  pub preroll : ℕ
  pub shift : ℕ
  pub media : List ℕ

abbrev pub fisbone_of : LentFisbone → Fisbone
fisbone_of lent = record {
  serial = lent.serial;
  headers = lent.headers;
  rate = lent.rate;
  base_granule = lent.base_granule;
  preroll = lent.preroll;
  shift = lent.shift;
  media = lent.media.now;
}

-- what the packet begins with
abbrev pub fisbone_name : List ℕ
fisbone_name = codes "fisbone" ++ 0 ∷ []

-- The 52 bytes before the message fields: the name, the offset of the message fields counted from byte 8, the stream's
-- serial, and the number of its header packets. Then come its rate as a numerator and a denominator, its base granule,
-- its preroll, its granule shift, and three bytes of padding.
unfoldable pub fixed_part : ℕ → List ℕ → Fisbone → List ℕ
fixed_part offset padding fisbone =
    fisbone_name ++ (u32_bytes offset ++ (u32_bytes fisbone.serial ++ (u32_bytes fisbone.headers ++ (fraction_bytes fisbone.rate
    ++ (i64_bytes fisbone.base_granule ++ (u32_bytes fisbone.preroll ++ fisbone.shift ∷ padding))))))

abbrev pub fisbone_with : ℕ → List ℕ → List ℕ → Fisbone → List ℕ
fisbone_with offset padding message fisbone = fixed_part offset padding fisbone ++ message

-- the packet as it is written: the media type is the one message field, and the padding is zero
abbrev pub fisbone_bytes : Fisbone → List ℕ
fisbone_bytes fisbone = fisbone_with message_offset (0 ∷ 0 ∷ 0 ∷ []) (content_type fisbone.media) fisbone

-- the packet as it is written with further message fields
abbrev pub fisbone_bytes_with : List NamedValue → Fisbone → List ℕ
fisbone_bytes_with fields fisbone = fisbone_with message_offset (0 ∷ 0 ∷ 0 ∷ []) (message_of fisbone.media fields) fisbone

-- each number is in its field's range, as in every fisbone that a program has
pub record IsFisbone (fisbone : Fisbone) : Type 0 where
  pub serial : fisbone.serial < 2 ^ 32
  pub headers : fisbone.headers < 2 ^ 32
  pub rate : IsFraction fisbone.rate
  pub base_granule : FitsSigned w64 fisbone.base_granule
  pub preroll : fisbone.preroll < 2 ^ 32
  pub shift : IsByte fisbone.shift
  pub media : AllByRecursion IsByte fisbone.media

-- The packet is this fisbone's. Ours: the offset and the padding may be anything, and the message fields stand from
-- byte 52 on.
pub record HoldsFisbone (packet : List ℕ) (fisbone : Fisbone) : Type 0 where
  pub offset : ℕ
  pub padding : List ℕ
  pub message : List ℕ
  pub small : offset < 2 ^ 32
  pub three : length padding ≡ 3
  pub spelled : packet ≡ fisbone_with offset padding message fisbone
  pub media : media_in message ≡ Some fisbone.media

-- Ours: what is wrong with a packet as a fisbone, the first fault in this order, if it has one.
abbrev pub fisbone_fault : List ℕ → Option SkeletonFault
fisbone_fault packet =
    if nat_lt (length packet) fixed_size then Some Length
    else if not (bytes_eq (take 8 packet) fisbone_name) then Some Name
    else if not (is_some (media_in (drop fixed_size packet))) then Some Fields
    else None
