-- How long the parts of a payload are.
use Rattle.std.proofs.Common.{◌≡◌, ℕ, ◌+◌, ◌<◌, ◌≤◌, List, [], ◌∷◌, ◌++◌, length, take, get_or, sym, ap, ◌∙◌, arith, append-nil, length-append}
use Rattle.std.specs.Prelude.{ℤ, Some}
use Rattle.std.specs.List.{flat_map}
use Rattle.std.proofs.lemmas.List.{take_more}
use Rattle.std.proofs.lemmas.List.Concat.{flat_map-append}
use Rattle.std.proofs.lemmas.List.Folds.{length-flat_map-take}
use Rattle.ogg_command.specs.declared.command.Command.{Command}
use Rattle.ogg_command.specs.declared.command.Command.TheVariants.{Begin as BeginOf, Put as PutOf}
use Rattle.ogg_command.specs.declared.command.Begin.{Begin}
use Rattle.ogg_command.specs.declared.command.Put.{Put}
use Rattle.ogg_command.specs.declared.command.SkeletonHead.{SkeletonHead}
use Rattle.ogg_command.specs.declared.command.NewStream.{NewStream}
use Rattle.ogg_command.specs.declared.command.Entry.{Entry}
use Rattle.ogg_page.specs.Numbers.{u16_bytes, u32_bytes, u64_bytes, i64_bytes, fraction_bytes}
use Rattle.feed_records.specs.Record.{packet_bytes, media_bytes, skeleton_bytes, field_bytes, fields_bytes, stream_bytes, entry_bytes, payload_of, item_bytes, record_of}
use Rattle.skeleton3.specs.Fields.{NamedValue}
use Rattle.feed_records.specs.Writing.{stream_size}
use Rattle.feed_records.specs.declared.version.Version.{Version}
use Rattle.feed_records.specs.declared.version.Version.TheVariants.{Two}
use Rattle.feed_records.specs.declared.item.Record.TheVariants.{Command as CommandOf}
use Rattle.feed_records.specs.Tail.{Tail, tail_bytes, tail_of_stream, behind_bytes, behind_of_stream}
use Rattle.ogg_page.specs.Laws.NumberBytes.{length-u16_bytes, length-u32_bytes, length-u64_bytes, length-i64_bytes}
use Rattle.feed_records.specs.Laws.{stream_parts}

-- one item more
pub flat_map-more : {X : Type 0} (f : X → List ℕ) (xs : List X) (i : ℕ) (x : X) → i < length xs → x ≡ get_or xs i x → flat_map f (take (i + 1) xs) ≡ flat_map f (take i xs) ++ f x
flat_map-more f xs i x h is =
    ap (flat_map f) (take_more xs i x h ∙ ap (λ y. take i xs ++ y ∷ []) (sym is))
    ∙ flat_map-append f (take i xs) (x ∷ [])
    ∙ ap (λ l. flat_map f (take i xs) ++ l) (append-nil (f x))

pub length-flat_map-more : {X : Type 0} (f : X → List ℕ) (xs : List X) (i : ℕ) (x : X) → i < length xs → x ≡ get_or xs i x → length (flat_map f (take (i + 1) xs)) ≡ length (flat_map f (take i xs)) + length (f x)
length-flat_map-more f xs i x h is = ap length (flat_map-more f xs i x h is) ∙ length-append (flat_map f (take i xs)) (f x)

-- the length of one item is within that of all
pub length-flat_map-item : {X : Type 0} (f : X → List ℕ) (xs : List X) (i : ℕ) (x : X) → i < length xs → x ≡ get_or xs i x → length (flat_map f (take i xs)) + length (f x) ≤ length (flat_map f xs)
length-flat_map-item f xs i x h is =
    let same : length (f x) ≡ length (f (get_or xs i x)) = ap (λ y. length (f y)) is in
    omega (arith, same, length-flat_map-take f xs i x h)

pub length-packet_bytes : (packet : List ℕ) → length (packet_bytes packet) ≡ 4 + length packet
length-packet_bytes packet = omega (arith, length-append (u32_bytes (length packet)) packet, length-u32_bytes (length packet))

pub length-fraction_bytes : (fraction : ℤ × ℤ) → length (fraction_bytes fraction) ≡ 16
length-fraction_bytes fraction = omega (arith, length-append (i64_bytes fraction.0) (i64_bytes fraction.1), length-i64_bytes fraction.0, length-i64_bytes fraction.1)

pub length-entry_bytes : (entry : Entry) → length (entry_bytes entry) ≡ 16 + length entry.packet
unfolding entry_bytes
length-entry_bytes entry =
    omega (
      arith,
      length-append (u32_bytes entry.serial) (u64_bytes entry.position ++ packet_bytes entry.packet),
      length-append (u64_bytes entry.position) (packet_bytes entry.packet),
      length-u32_bytes entry.serial,
      length-u64_bytes entry.position,
      length-packet_bytes entry.packet,
    )

pub length-skeleton_bytes : (head : SkeletonHead) → length (skeleton_bytes (Some head)) ≡ 37 + length head.utc
length-skeleton_bytes head =
    omega (
      arith,
      length-append (u32_bytes head.serial) (fraction_bytes head.presentation ++ (fraction_bytes head.base ++ head.utc)),
      length-append (fraction_bytes head.presentation) (fraction_bytes head.base ++ head.utc),
      length-append (fraction_bytes head.base) head.utc,
      length-u32_bytes head.serial,
      length-fraction_bytes head.presentation,
      length-fraction_bytes head.base,
    )

length-tail_bytes : (tail : Tail) → length (tail_bytes tail) ≡ 31 + length tail.media
unfolding tail_bytes
length-tail_bytes tail =
    omega (
      arith,
      length-append (media_bytes tail.media) (fraction_bytes tail.rate ++ (i64_bytes tail.base_granule ++ (u32_bytes tail.preroll ++ tail.shift ∷ []))),
      length-append (u16_bytes (length tail.media)) tail.media,
      length-append (fraction_bytes tail.rate) (i64_bytes tail.base_granule ++ (u32_bytes tail.preroll ++ tail.shift ∷ [])),
      length-append (i64_bytes tail.base_granule) (u32_bytes tail.preroll ++ tail.shift ∷ []),
      length-append (u32_bytes tail.preroll) (tail.shift ∷ []),
      length-u16_bytes (length tail.media),
      length-fraction_bytes tail.rate,
      length-i64_bytes tail.base_granule,
      length-u32_bytes tail.preroll,
    )

pub length-field_bytes : (field : NamedValue) → length (field_bytes field) ≡ 4 + length field.0 + length field.1
length-field_bytes field =
    omega (
      arith,
      length-append (media_bytes field.0) (media_bytes field.1),
      length-append (u16_bytes (length field.0)) field.0,
      length-append (u16_bytes (length field.1)) field.1,
      length-u16_bytes (length field.0),
      length-u16_bytes (length field.1),
    )

pub length-fields_bytes : (fields : List NamedValue) → length (fields_bytes Two fields) ≡ 2 + length (flat_map field_bytes fields)
length-fields_bytes fields = omega (arith, length-append (u16_bytes (length fields)) (flat_map field_bytes fields), length-u16_bytes (length fields))

pub length-stream_bytes : (v : Version) (s : NewStream) → length (stream_bytes v s) ≡ stream_size v s
length-stream_bytes v s =
    omega (
      arith,
      ap length (stream_parts v s),
      length-append (u32_bytes s.serial) (u16_bytes (length s.headers) ++ (flat_map packet_bytes s.headers ++ behind_bytes v (behind_of_stream s))),
      length-append (u16_bytes (length s.headers)) (flat_map packet_bytes s.headers ++ behind_bytes v (behind_of_stream s)),
      length-append (flat_map packet_bytes s.headers) (behind_bytes v (behind_of_stream s)),
      length-append (tail_bytes (tail_of_stream s)) (fields_bytes v s.fields),
      length-u32_bytes s.serial,
      length-u16_bytes (length s.headers),
      length-tail_bytes (tail_of_stream s),
    )

pub length-begin : (v : Version) (begin : Begin) → length (payload_of v (BeginOf begin)) ≡ length (skeleton_bytes begin.skeleton) + 2 + length (flat_map (stream_bytes v) begin.streams)
length-begin v begin =
    omega (
      arith,
      length-append (skeleton_bytes begin.skeleton) (u16_bytes (length begin.streams) ++ flat_map (stream_bytes v) begin.streams),
      length-append (u16_bytes (length begin.streams)) (flat_map (stream_bytes v) begin.streams),
      length-u16_bytes (length begin.streams),
    )

pub length-put : (v : Version) (put : Put) → length (payload_of v (PutOf put)) ≡ 2 + length (flat_map entry_bytes put.entries)
length-put v put = omega (arith, length-append (u16_bytes (length put.entries)) (flat_map entry_bytes put.entries), length-u16_bytes (length put.entries))

pub length-record_of : (v : Version) (command : Command) → length (record_of v (CommandOf command)) ≡ 5 + length (payload_of v command)
unfolding item_bytes
length-record_of v command =
    omega (arith, length-append (u32_bytes (length (payload_of v command))) (payload_of v command), length-u32_bytes (length (payload_of v command)))
