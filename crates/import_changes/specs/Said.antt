-- What the Skeletons that are left out say of their link and its streams, and what one that is made says of them (Ogg
-- Skeleton 3.0). Ours, but for what packets hold.
use Rattle.std.specs.Prelude.{◌≡◌, ℕ, pos, Bool, true, false, not, ◌&&◌, nat_eq, nat_le, if◌then◌else◌, Option, Some, None, is_some}
use Rattle.std.specs.Prelude.{List, [], ◌∷◌, ◌++◌, length, drop, filter}
use Rattle.std.specs.Borrow.{Bor}
use Rattle.std.specs.Option.{unwrap_or}
use Rattle.std.specs.List.{AllByRecursion, AllZip, list_all}
use Rattle.ogg_command.specs.declared.command.Begin.{Begin}
use Rattle.ogg_command.specs.declared.command.SkeletonHead.{SkeletonHead}
use Rattle.ogg_command.specs.declared.command.NewStream.{NewStream}
use Rattle.chain_rules.specs.Decision.{is_positive}
use Rattle.chain_rules.specs.Limits.{most_fields}
use Rattle.skeleton3.specs.Fishead.{HoldsFishead, IsFishead}
use Rattle.skeleton3.specs.declared.fishead.Fishead.{Fishead}
use Rattle.skeleton3.specs.Fisbone.{Fisbone, HoldsFisbone, IsFisbone, fisbone_fault, fisbone_of}
use Rattle.skeleton3.specs.declared.fisbone.Fisbone.{Fisbone as LentFisbone}
use Rattle.skeleton3.specs.Fields.{NamedValue, fields_of, is_content_type, is_field, is_media_type}
use Rattle.import_commands.specs.Codecs.{codec_of, media_type_of, preroll_of, rate_of, shift_of}

-- a stream's first packet, or no bytes if it has none
abbrev pub first_of : List (List ℕ) → List ℕ
first_of [] = []
first_of (first ∷ packets) = first

-- ---- of the link
-- a `Begin` may have these times
abbrev pub is_head : Fishead → Bool
is_head fishead = is_positive fishead.presentation.1 && is_positive fishead.base.1

-- the fishead that a packet is read as, if a `Begin` may have its times
abbrev pub IsHeadIn : List ℕ → Option Fishead → Type 0
IsHeadIn packet None = (fishead : Fishead) → IsFishead fishead → HoldsFishead packet fishead → is_head fishead ≡ false
IsHeadIn packet (Some fishead) = HoldsFishead packet fishead × (is_head fishead ≡ true)

-- twenty bytes 00 say that the time of day isn't known (Skeleton 3.0, fishead)
abbrev pub is_unknown : List ℕ → Bool
is_unknown utc = list_all (nat_eq 0) utc

-- The head says what the fishead says. Without one it presents its link from 0 seconds on. If no time of day is said,
-- it is this one.
abbrev pub head_of : ℕ → List ℕ → Option Fishead → SkeletonHead
head_of serial utc None = record { serial = serial; presentation = (pos 0, pos 1000); base = (pos 0, pos 1000); utc = utc }
head_of serial utc (Some fishead) =
    record {
      serial = serial;
      presentation = fishead.presentation;
      base = fishead.base;
      utc = if is_unknown fishead.utc then utc else fishead.utc;
    }

-- the head of a Skeleton that is made at this time of day, in place of those that have these packets
pub record IsHeadSaid (utc : List ℕ) (said : List (List ℕ)) (head : SkeletonHead) : Type 0 where
  pub found : Option Fishead
  pub finds : IsHeadIn (first_of said) found
  pub is : head ≡ head_of head.serial utc found

-- ---- of a stream
-- the fisbone is of the stream with this serial, and a `Begin` may have its media type and its rate
abbrev pub is_of : ℕ → Fisbone → Bool
is_of serial fisbone =
    nat_eq fisbone.serial serial && (is_media_type fisbone.media && (is_positive fisbone.rate.0 && is_positive fisbone.rate.1))

-- the packet is read as this fisbone
pub record IsOf (serial : ℕ) (packet : List ℕ) (fisbone : Fisbone) : Type 0 where
  pub holds : HoldsFisbone packet fisbone
  pub of : is_of serial fisbone ≡ true

-- the packet is read as no such fisbone
abbrev pub IsSilent : ℕ → List ℕ → Type 0
IsSilent serial packet = (fisbone : Fisbone) → IsFisbone fisbone → HoldsFisbone packet fisbone → is_of serial fisbone ≡ false

-- the fisbone that a packet is read as, if it is such a fisbone
abbrev pub IsOfIn : ℕ → List ℕ → Option Fisbone → Type 0
IsOfIn serial packet None = IsSilent serial packet
IsOfIn serial packet (Some fisbone) = IsOf serial packet fisbone

-- the first of the packets that is read as such a fisbone
pub record IsFirstOf (serial : ℕ) (said : List (List ℕ)) (packet : List ℕ) (fisbone : Fisbone) : Type 0 where
  pub before : List (List ℕ)
  pub more : List (List ℕ)
  pub said_is : said ≡ before ++ packet ∷ more
  pub silent : AllByRecursion (IsSilent serial) before
  pub of : IsOf serial packet fisbone

abbrev pub IsFoundIn : ℕ → List (List ℕ) → Option (List ℕ × Fisbone) → Type 0
IsFoundIn serial said None = AllByRecursion (IsSilent serial) said
IsFoundIn serial said (Some (packet, fisbone)) = IsFirstOf serial said packet fisbone

abbrev pub found_of : Bor (List ℕ) × LentFisbone → List ℕ × Fisbone
found_of found = (found.0.now, fisbone_of found.1)

-- the message fields but for the media type
abbrev pub further : List NamedValue → List NamedValue
further fields = filter (λ (field : NamedValue). not (is_content_type field.0)) fields

-- all of the fields, if a `Begin` may have them
abbrev pub kept_fields : List NamedValue → List NamedValue
kept_fields fields = if list_all is_field fields && nat_le (length fields) most_fields then fields else []

abbrev pub fields_said : List ℕ → List NamedValue
fields_said packet = if is_some (fisbone_fault packet) then [] else kept_fields (further (unwrap_or (fields_of (drop 52 packet)) []))

-- a stream described as its first header says
abbrev pub described : NewStream → NewStream
described stream =
    record {
      serial = stream.serial;
      headers = stream.headers;
      media = media_type_of (codec_of (first_of stream.headers));
      fields = [];
      rate = rate_of (first_of stream.headers);
      base_granule = pos 0;
      preroll = preroll_of (codec_of (first_of stream.headers));
      shift = shift_of (first_of stream.headers);
    }

-- a stream, described as the packet says that is found, or as its first header says if none is found
abbrev pub described_as : Option (List ℕ × Fisbone) → NewStream → NewStream
described_as None stream = described stream
described_as (Some (packet, fisbone)) stream =
    record {
      serial = stream.serial;
      headers = stream.headers;
      media = fisbone.media;
      fields = fields_said packet;
      rate = fisbone.rate;
      base_granule = fisbone.base_granule;
      preroll = fisbone.preroll;
      shift = fisbone.shift;
    }

-- the stream, described in this way, with whatever serial it has now
pub record IsDescribedBy (said : List (List ℕ)) (stream now : NewStream) : Type 0 where
  pub found : Option (List ℕ × Fisbone)
  pub finds : IsFoundIn stream.serial said found
  pub is : now ≡ record (described_as found stream) { serial = now.serial }

-- ---- of both
-- These streams begin with a Skeleton that says what these packets of Skeletons say.
pub record IsSaidBy (said : List (List ℕ)) (streams : List NewStream) (now : Begin) : Type 0 where
  pub head : SkeletonHead
  pub skeleton : now.skeleton ≡ Some head
  pub utc : List ℕ
  pub head_said : IsHeadSaid utc said head
  pub described : AllZip (IsDescribedBy said) streams now.streams
