-- The spelling of a part begins no other's.
use Rattle.std.proofs.Common.{◌≡◌, ℕ, ◌<◌, ◌^◌, List, [], ◌∷◌, ◌++◌, length, refl, sym, ap, ◌∙◌, arith, append_assoc, Bool, false, None, Some, ◌≤◌}
use Rattle.std.specs.List.{AllByRecursion, flat_map}
use Rattle.ogg_page.specs.Page.{IsByte}
use Rattle.ogg_command.specs.Command.{AreFieldBytes, IsCommand, IsNewStream, IsEntry, IsSkeletonHead, IsSkeleton}
use Rattle.ogg_command.specs.declared.command.Command.{Command}
use Rattle.ogg_command.specs.declared.command.Command.TheVariants.{Begin as BeginOf, Put as PutOf, End as EndOf}
use Rattle.ogg_command.specs.declared.command.Begin.{Begin}
use Rattle.ogg_command.specs.declared.command.Put.{Put}
use Rattle.ogg_command.specs.declared.command.NewStream.{NewStream}
use Rattle.ogg_command.specs.declared.command.Entry.{Entry}
use Rattle.ogg_page.specs.Numbers.{u16_bytes, u32_bytes, u64_bytes, i64_bytes, fraction_bytes, IsFraction}
use Rattle.feed_records.specs.Record.{packet_bytes, media_bytes, skeleton_bytes, field_bytes, fields_bytes, stream_bytes, entry_bytes, payload_of, kind_of, kind_in, payload_in, item_bytes, record_of, announcement, most_payload, FitsFields, FitsField, FitsMessage, FitsHeader, FitsStream, FitsEntry, HasItem, HasRecord, BeginsNoRecord, IsFeed}
use Rattle.skeleton3.specs.Fields.{NamedValue}
use Rattle.feed_records.specs.declared.version.Version.{Version}
use Rattle.feed_records.specs.declared.version.Version.TheVariants.{One, Two}
use Rattle.feed_records.specs.declared.item.Record.{Record as RecordOf}
use Rattle.feed_records.specs.declared.item.Record.TheVariants.{Command as CommandOf, Flush}
use Rattle.feed_records.specs.declared.item.Item.{Item}
use Rattle.feed_records.specs.declared.item.Item.TheVariants.{Announcement, Record as RecordItem}
use Rattle.feed_codec.specs.Payload.{AreMany, IsPacket, IsMedia, IsFieldOfFeed, AreFields, IsEntryOfFeed, IsStreamOfFeed, IsTail, IsBehind, IsItem, skeleton_head_bytes}
use Rattle.feed_records.specs.Tail.{tail_bytes, tail_of_stream, behind_bytes, behind_of_stream}
use Rattle.ogg_page.specs.Laws.Prefixes.{same_fronts}
use Rattle.feed_records.specs.Laws.{stream_parts}
use Rattle.feed_codec.proofs.Lists.{all_of_two}
use Rattle.ogg_page.specs.Laws.NumberBytes.{IsU16, IsU32, IsU64, IsI64, same_u16, same_u32, same_u64, same_i64, same_fraction}

-- values whose spellings begin the same bytes are one, and the same bytes follow
abbrev pub PrefixFree : {X : Type 0} → (X → Type 0) → (X → List ℕ) → Type 0
PrefixFree {X} Is spell = (a b : X) (x y : List ℕ) → Is a → Is b → spell a ++ x ≡ spell b ++ y → (a ≡ b) × (x ≡ y)

-- the same of a first part, if more parts follow the second
pub front : {X : Type 0} (Is : X → Type 0) (spell : X → List ℕ) → PrefixFree Is spell → (a b : X) (x s y : List ℕ) → Is a → Is b → spell a ++ x ≡ (spell b ++ s) ++ y → (a ≡ b) × (x ≡ s ++ y)
front Is spell free a b x s y ha hb e = free a b x (s ++ y) ha hb (e ∙ append_assoc (spell b) s y)

-- the same, if more parts follow both
pub fronts : {X : Type 0} (Is : X → Type 0) (spell : X → List ℕ) → PrefixFree Is spell → (a b : X) (r s x y : List ℕ) → Is a → Is b → (spell a ++ r) ++ x ≡ (spell b ++ s) ++ y → (a ≡ b) × (r ++ x ≡ s ++ y)
fronts Is spell free a b r s x y ha hb e = front Is spell free a b (r ++ x) s y ha hb (sym (append_assoc (spell a) r x) ∙ e)

pub same_packet : PrefixFree IsPacket packet_bytes
same_packet a b x y ha hb e =
    let sizes = fronts IsU32 u32_bytes same_u32 (length a) (length b) a b x y ha.fits hb.fits e in
    same_fronts a b x y sizes.0 sizes.1

pub same_media : PrefixFree IsMedia media_bytes
same_media a b x y ha hb e =
    let sizes = fronts IsU16 u16_bytes same_u16 (length a) (length b) a b x y ha.fits hb.fits e in
    same_fronts a b x y sizes.0 sizes.1

same_lists : {X : Type 0} (Is : X → Type 0) (spell : X → List ℕ) → PrefixFree Is spell → (cs ds : List X) (x y : List ℕ)
    → length cs ≡ length ds → AllByRecursion Is cs → AllByRecursion Is ds → flat_map spell cs ++ x ≡ flat_map spell ds ++ y → (cs ≡ ds) × (x ≡ y)
same_lists Is spell free [] [] x y l ha hb e = (refl, e)
same_lists Is spell free [] (b ∷ ds) x y l ha hb e = absurd (omega arith)
same_lists Is spell free (a ∷ cs) [] x y l ha hb e = absurd (omega arith)
same_lists Is spell free (a ∷ cs) (b ∷ ds) x y l ha hb e =
    let heads = fronts Is spell free a b (flat_map spell cs) (flat_map spell ds) x y ha.0 hb.0 e in
    let tails = same_lists Is spell free cs ds x y (omega arith) ha.1 hb.1 heads.1 in
    (λ i. heads.0 i ∷ tails.0 i, tails.1)

pub same_many : {X : Type 0} (Is : X → Type 0) (spell : X → List ℕ) → PrefixFree Is spell → (count : ℕ) → PrefixFree (AreMany Is count) (flat_map spell)
same_many Is spell free count cs ds x y ha hb e = same_lists Is spell free cs ds x y (ha.0 ∙ sym hb.0) ha.1 hb.1 e

pub entry_packet : (entry : Entry) → IsEntryOfFeed entry → IsPacket entry.packet
entry_packet entry h = record { bytes = h.numbers.packet; fits = h.fits }

pub same_entry : PrefixFree IsEntryOfFeed entry_bytes
unfolding entry_bytes
same_entry a b x y ha hb e =
    let serial = fronts IsU32 u32_bytes same_u32 a.serial b.serial (u64_bytes a.position ++ packet_bytes a.packet) (u64_bytes b.position ++ packet_bytes b.packet) x y ha.numbers.serial hb.numbers.serial e in
    let position = fronts IsU64 u64_bytes same_u64 a.position b.position (packet_bytes a.packet) (packet_bytes b.packet) x y ha.numbers.position hb.numbers.position serial.1 in
    let packet = same_packet a.packet b.packet x y (entry_packet a ha) (entry_packet b hb) position.1 in
    (λ i. record { serial = serial.0 i; position = position.0 i; packet = packet.0 i }, packet.1)

pub same_tail : PrefixFree IsTail tail_bytes
unfolding tail_bytes
same_tail a b x y ha hb e =
    let media = fronts IsMedia media_bytes same_media a.media b.media (fraction_bytes a.rate ++ (i64_bytes a.base_granule ++ (u32_bytes a.preroll ++ a.shift ∷ []))) (fraction_bytes b.rate ++ (i64_bytes b.base_granule ++ (u32_bytes b.preroll ++ b.shift ∷ []))) x y ha.media hb.media e in
    let rate = fronts IsFraction fraction_bytes same_fraction a.rate b.rate (i64_bytes a.base_granule ++ (u32_bytes a.preroll ++ a.shift ∷ [])) (i64_bytes b.base_granule ++ (u32_bytes b.preroll ++ b.shift ∷ [])) x y ha.rate hb.rate media.1 in
    let base = fronts IsI64 i64_bytes same_i64 a.base_granule b.base_granule (u32_bytes a.preroll ++ a.shift ∷ []) (u32_bytes b.preroll ++ b.shift ∷ []) x y ha.base_granule hb.base_granule rate.1 in
    let preroll = fronts IsU32 u32_bytes same_u32 a.preroll b.preroll (a.shift ∷ []) (b.shift ∷ []) x y ha.preroll hb.preroll base.1 in
    let shift : a.shift ≡ b.shift = cc preroll.1 in
    let behind : x ≡ y = cc preroll.1 in
    (λ i. record { media = media.0 i; rate = rate.0 i; base_granule = base.0 i; preroll = preroll.0 i; shift = shift i }, behind)

same_skeleton_head : PrefixFree IsSkeletonHead skeleton_head_bytes
unfolding skeleton_head_bytes
same_skeleton_head a b x y ha hb e =
    let serial = fronts IsU32 u32_bytes same_u32 a.serial b.serial (fraction_bytes a.presentation ++ (fraction_bytes a.base ++ a.utc)) (fraction_bytes b.presentation ++ (fraction_bytes b.base ++ b.utc)) x y ha.serial hb.serial e in
    let presentation = fronts IsFraction fraction_bytes same_fraction a.presentation b.presentation (fraction_bytes a.base ++ a.utc) (fraction_bytes b.base ++ b.utc) x y ha.presentation hb.presentation serial.1 in
    let base = fronts IsFraction fraction_bytes same_fraction a.base b.base a.utc b.utc x y ha.base hb.base presentation.1 in
    let utc = same_fronts a.utc b.utc x y (ha.utc_length ∙ sym hb.utc_length) base.1 in
    (λ i. record { serial = serial.0 i; presentation = presentation.0 i; base = base.0 i; utc = utc.0 i }, utc.1)

pub same_skeleton : PrefixFree IsSkeleton skeleton_bytes
unfolding skeleton_head_bytes
same_skeleton None None x y ha hb e = (refl, cc e)
same_skeleton None (Some b) x y ha hb e = absurd (cc e)
same_skeleton (Some a) None x y ha hb e = absurd (cc e)
same_skeleton (Some a) (Some b) x y ha hb e =
    let tails : skeleton_head_bytes a ++ x ≡ skeleton_head_bytes b ++ y = cc e in
    let heads = same_skeleton_head a b x y ha hb tails in
    (λ i. Some (heads.0 i), heads.1)

pub same_field : PrefixFree IsFieldOfFeed field_bytes
same_field a b x y ha hb e =
    let name = fronts IsMedia media_bytes same_media a.0 b.0 (media_bytes a.1) (media_bytes b.1) x y ha.name hb.name e in
    let value = same_media a.1 b.1 x y ha.value hb.value name.1 in
    (λ i. (name.0 i, value.0 i), value.1)

same_fields : (v : Version) → PrefixFree (AreFields v) (fields_bytes v)
same_fields One a b x y ha hb e = (ha ∙ sym hb, e)
same_fields Two a b x y ha hb e =
    let count = fronts IsU16 u16_bytes same_u16 (length a) (length b) (flat_map field_bytes a) (flat_map field_bytes b) x y ha.0 hb.0 e in
    same_many IsFieldOfFeed field_bytes same_field (length b) a b x y (count.0, ha.1) (refl, hb.1) count.1

same_behind : (v : Version) → PrefixFree (IsBehind v) (behind_bytes v)
same_behind v a b x y ha hb e =
    let tail = fronts IsTail tail_bytes same_tail a.0 b.0 (fields_bytes v a.1) (fields_bytes v b.1) x y ha.tail hb.tail e in
    let fields = same_fields v a.1 b.1 x y ha.fields hb.fields tail.1 in
    (λ i. (tail.0 i, fields.0 i), fields.1)

field_of_feed : (field : NamedValue) → AreFieldBytes field → FitsField field → IsFieldOfFeed field
field_of_feed field bytes fits = record { name = record { bytes = bytes.0; fits = fits.0 }; value = record { bytes = bytes.1; fits = fits.1 } }

fields_of_feed : (v : Version) (fields : List NamedValue) → AllByRecursion AreFieldBytes fields → FitsMessage v fields → AreFields v fields
fields_of_feed One fields bytes fits = fits
fields_of_feed Two fields bytes fits = (fits.0, all_of_two AreFieldBytes FitsField IsFieldOfFeed field_of_feed fields bytes fits.1)

pub stream_headers : (v : Version) (s : NewStream) → IsStreamOfFeed v s → AllByRecursion IsPacket s.headers
stream_headers v s h =
    all_of_two (AllByRecursion IsByte) FitsHeader IsPacket (λ p bytes fits. record { bytes = bytes; fits = fits }) s.headers h.numbers.headers h.fits.each

stream_tail : (v : Version) (s : NewStream) → IsStreamOfFeed v s → IsTail (tail_of_stream s)
stream_tail v s h =
    record {
      media = record { bytes = h.numbers.media; fits = h.fits.media };
      rate = h.numbers.rate;
      base_granule = h.numbers.base_granule;
      preroll = h.numbers.preroll;
      shift = h.numbers.shift;
    }

pub stream_behind_headers : (v : Version) (s : NewStream) → IsStreamOfFeed v s → IsBehind v (behind_of_stream s)
stream_behind_headers v s h = record { tail = stream_tail v s h; fields = fields_of_feed v s.fields h.numbers.fields h.fits.fields }

pub same_stream : (v : Version) → PrefixFree (IsStreamOfFeed v) (stream_bytes v)
same_stream v a b x y ha hb e =
    let parts = ap (λ l. l ++ x) (sym (stream_parts v a)) ∙ e ∙ ap (λ l. l ++ y) (stream_parts v b) in
    let serial = fronts IsU32 u32_bytes same_u32 a.serial b.serial
    (u16_bytes (length a.headers) ++ (flat_map packet_bytes a.headers ++ behind_bytes v (behind_of_stream a)))
    (u16_bytes (length b.headers) ++ (flat_map packet_bytes b.headers ++ behind_bytes v (behind_of_stream b))) x y ha.numbers.serial hb.numbers.serial parts in
    let count = fronts IsU16 u16_bytes same_u16 (length a.headers) (length b.headers)
    (flat_map packet_bytes a.headers ++ behind_bytes v (behind_of_stream a)) (flat_map packet_bytes b.headers ++ behind_bytes v (behind_of_stream b)) x y ha.fits.headers hb.fits.headers serial.1 in
    let headers = fronts (AreMany IsPacket (length b.headers)) (flat_map packet_bytes) (same_many IsPacket packet_bytes same_packet (length b.headers)) a.headers b.headers
    (behind_bytes v (behind_of_stream a)) (behind_bytes v (behind_of_stream b)) x y (count.0, stream_headers v a ha) (refl, stream_headers v b hb) count.1 in
    let behind = same_behind v (behind_of_stream a) (behind_of_stream b) x y (stream_behind_headers v a ha) (stream_behind_headers v b hb) headers.1 in (
      λ i. record {
        serial = serial.0 i;
        headers = headers.0 i;
        media = (behind.0 i).0.media;
        fields = (behind.0 i).1;
        rate = (behind.0 i).0.rate;
        base_granule = (behind.0 i).0.base_granule;
        preroll = (behind.0 i).0.preroll;
        shift = (behind.0 i).0.shift;
      },
      behind.1,
    )

pub command_streams : (v : Version) (begin : Begin) → IsCommand (BeginOf begin) → FitsFields v (BeginOf begin) → AllByRecursion (IsStreamOfFeed v) begin.streams
command_streams v begin h k =
    all_of_two IsNewStream (FitsStream v) (IsStreamOfFeed v) (λ s numbers fits. record { numbers = numbers; fits = fits }) begin.streams h.1 k.1

pub command_entries : (v : Version) (put : Put) → IsCommand (PutOf put) → FitsFields v (PutOf put) → AllByRecursion IsEntryOfFeed put.entries
command_entries v put h k =
    all_of_two IsEntry FitsEntry IsEntryOfFeed (λ s numbers fits. record { numbers = numbers; fits = fits }) put.entries h k.1

-- payloads of one kind
same_command : (v : Version) (a b : Command) (x y : List ℕ) → IsCommand a → FitsFields v a → IsCommand b → FitsFields v b
    → kind_of a ≡ kind_of b → payload_of v a ++ x ≡ payload_of v b ++ y → (a ≡ b) × (x ≡ y)
same_command v (BeginOf a) (BeginOf b) x y ha fa hb fb kind e =
    let skeleton = fronts IsSkeleton skeleton_bytes same_skeleton a.skeleton b.skeleton
    (u16_bytes (length a.streams) ++ flat_map (stream_bytes v) a.streams) (u16_bytes (length b.streams) ++ flat_map (stream_bytes v) b.streams) x y ha.0 hb.0 e in
    let count = fronts IsU16 u16_bytes same_u16 (length a.streams) (length b.streams) (flat_map (stream_bytes v) a.streams) (flat_map (stream_bytes v) b.streams) x y fa.0 fb.0 skeleton.1 in
    let streams = same_many (IsStreamOfFeed v) (stream_bytes v) (same_stream v) (length b.streams) a.streams b.streams x y (count.0, command_streams v a ha fa) (refl, command_streams v b hb fb) count.1 in
    (λ i. BeginOf (record { skeleton = skeleton.0 i; streams = streams.0 i }), streams.1)
same_command v (PutOf a) (PutOf b) x y ha fa hb fb kind e =
    let count = fronts IsU16 u16_bytes same_u16 (length a.entries) (length b.entries) (flat_map entry_bytes a.entries) (flat_map entry_bytes b.entries) x y fa.0 fb.0 e in
    let entries = same_many IsEntryOfFeed entry_bytes same_entry (length b.entries) a.entries b.entries x y (count.0, command_entries v a ha fa) (refl, command_entries v b hb fb) count.1 in
    (λ i. PutOf (record { entries = entries.0 i }), entries.1)
same_command v (EndOf a) (EndOf b) x y ha fa hb fb kind e =
    let serials = same_u32 a b x y ha hb e in
    (λ i. EndOf (serials.0 i), serials.1)
same_command v (BeginOf a) (PutOf b) x y ha fa hb fb kind e = absurd (omega arith)
same_command v (BeginOf a) (EndOf b) x y ha fa hb fb kind e = absurd (omega arith)
same_command v (PutOf a) (BeginOf b) x y ha fa hb fb kind e = absurd (omega arith)
same_command v (PutOf a) (EndOf b) x y ha fa hb fb kind e = absurd (omega arith)
same_command v (EndOf a) (BeginOf b) x y ha fa hb fb kind e = absurd (omega arith)
same_command v (EndOf a) (PutOf b) x y ha fa hb fb kind e = absurd (omega arith)

-- a command's kind is one of three
kind_within : (command : Command) → (1 ≤ kind_of command) × (kind_of command ≤ 3)
kind_within (BeginOf begin) = (omega arith, omega arith)
kind_within (PutOf put) = (omega arith, omega arith)
kind_within (EndOf serial) = (omega arith, omega arith)

same_payload : (v : Version) (a b : Item) (x y : List ℕ) → IsItem v a → IsItem v b → kind_in a ≡ kind_in b → payload_in v a ++ x ≡ payload_in v b ++ y → (a ≡ b) × (x ≡ y)
same_payload v Announcement Announcement x y ha hb kind e = (refl, cc e)
same_payload v Announcement (RecordItem (CommandOf b)) x y ha hb kind e = absurd (omega (arith, kind, kind_within b))
same_payload v Announcement (RecordItem Flush) x y ha hb kind e = absurd (omega (arith, kind))
same_payload v (RecordItem (CommandOf a)) Announcement x y ha hb kind e = absurd (omega (arith, kind, kind_within a))
same_payload v (RecordItem (CommandOf a)) (RecordItem (CommandOf b)) x y ha hb kind e =
    let both = same_command v a b x y ha.0 ha.1 hb.0 hb.1 kind e in
    (ap (λ (c : Command). RecordItem (CommandOf c)) both.0, both.1)
same_payload v (RecordItem (CommandOf a)) (RecordItem Flush) x y ha hb kind e = absurd (omega (arith, kind, kind_within a))
same_payload v (RecordItem Flush) Announcement x y ha hb kind e = absurd (omega (arith, kind))
same_payload v (RecordItem Flush) (RecordItem (CommandOf b)) x y ha hb kind e = absurd (omega (arith, kind, kind_within b))
same_payload v (RecordItem Flush) (RecordItem Flush) x y ha hb kind e = (refl, e)

-- what stands in a feed can be held, and its payload isn't too long
pub is_item : (first : Bool) (v : Version) (item : Item) → HasItem first v item → IsItem v item
is_item first v Announcement h = tt
is_item first v (RecordItem (CommandOf command)) h = (h.numbers, h.fits.fields)
is_item first v (RecordItem Flush) h = tt

pub payload_fits : (first : Bool) (v : Version) (item : Item) → HasItem first v item → length (payload_in v item) ≤ most_payload
payload_fits first v Announcement h = omega arith
payload_fits first v (RecordItem (CommandOf command)) h = h.fits.payload
payload_fits first v (RecordItem Flush) h = omega arith

pub same_item : (first : Bool) (v : Version) → PrefixFree (HasItem first v) (item_bytes v)
unfolding item_bytes
same_item first v a b x y ha hb e =
    let kinds : kind_in a ≡ kind_in b = cc e in
    let behind : (u32_bytes (length (payload_in v a)) ++ payload_in v a) ++ x ≡ (u32_bytes (length (payload_in v b)) ++ payload_in v b) ++ y = cc e in
    let small_a : length (payload_in v a) < 2 ^ 32 = omega (arith, payload_fits first v a ha) in
    let small_b : length (payload_in v b) < 2 ^ 32 = omega (arith, payload_fits first v b hb) in
    let sizes = fronts IsU32 u32_bytes same_u32 (length (payload_in v a)) (length (payload_in v b)) (payload_in v a) (payload_in v b) x y small_a small_b behind in
    same_payload v a b x y (is_item first v a ha) (is_item first v b hb) kinds sizes.1

pub same_record : (v : Version) → PrefixFree (HasRecord v) (record_of v)
same_record v a b x y ha hb e =
    let both = same_item false v (RecordItem a) (RecordItem b) x y ha hb e in
    (cc both.0, both.1)

same_records : (v : Version) (cs ds : List RecordOf) (x y : List ℕ) → AllByRecursion (HasRecord v) cs → AllByRecursion (HasRecord v) ds → BeginsNoRecord v x → BeginsNoRecord v y
    → flat_map (record_of v) cs ++ x ≡ flat_map (record_of v) ds ++ y → (cs ≡ ds) × (x ≡ y)
same_records v [] [] x y hc hd nx ny e = (refl, e)
same_records v [] (d ∷ ds) x y hc hd nx ny e = absurd (nx d (flat_map (record_of v) ds ++ y) hd.0 (e ∙ append_assoc (record_of v d) (flat_map (record_of v) ds) y))
same_records v (c ∷ cs) [] x y hc hd nx ny e = absurd (ny c (flat_map (record_of v) cs ++ x) hc.0 (sym e ∙ append_assoc (record_of v c) (flat_map (record_of v) cs) x))
same_records v (c ∷ cs) (d ∷ ds) x y hc hd nx ny e =
    let heads = fronts (HasRecord v) (record_of v) (same_record v) c d (flat_map (record_of v) cs) (flat_map (record_of v) ds) x y hc.0 hd.0 e in
    let tails = same_records v cs ds x y hc.1 hd.1 nx ny heads.1 in
    (λ i. heads.0 i ∷ tails.0 i, tails.1)

pub one_feed : (bytes : List ℕ) (v w : Version) (cs ds : List RecordOf) (x y : List ℕ) → IsFeed bytes v cs x → IsFeed bytes w ds y → (v ≡ w) × (cs ≡ ds) × (x ≡ y)
one_feed bytes One One cs ds x y hc hd =
    let both = same_records One cs ds x y hc.each hd.each hc.no_more hd.no_more (sym hc.whole ∙ hd.whole) in
    (refl, both.0, both.1)
one_feed bytes Two Two cs ds x y hc hd =
    let behind = same_fronts announcement announcement _ _ refl (sym hc.whole ∙ hd.whole) in
    let both = same_records Two cs ds x y hc.each hd.each hc.no_more hd.no_more behind.1 in
    (refl, both.0, both.1)
one_feed bytes One Two cs ds x y hc hd = absurd (hc.announced refl _ hd.whole)
one_feed bytes Two One cs ds x y hc hd = absurd (hd.announced refl _ hc.whole)
