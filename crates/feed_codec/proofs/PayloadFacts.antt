-- What the parts of a payload say of the whole.
use Rattle.std.proofs.Common.{rules, ◌-◌, ◌≡◌, ℕ, ◌+◌, ◌<◌, ◌≤◌, ◌^◌, List, [], ◌∷◌, ◌++◌, length, refl, sym, ap, ◌∙◌, subst, arith, append_assoc, append-nil, length-append, Option, None, Some, Bor}
use Rattle.std.specs.Prelude.{MatchOption, IsSome, Bool, ◌==◌, ℤ, FitsSigned, IsTrue}
use Rattle.std.specs.Int.{w64}
use Rattle.std.specs.List.{AllByRecursion, IsSplitAt, flat_map}
use Rattle.std.proofs.lemmas.Bool.{eqb-true}
use Rattle.std.proofs.lemmas.List.Concat.{flat_map-append}
use Rattle.ogg_page.specs.Page.{IsByte}
use Rattle.ogg_command.specs.Command.{AreFieldBytes, IsNewStream, IsEntry, IsSkeletonHead, IsSkeleton}
use Rattle.ogg_command.specs.declared.command.Command.TheVariants.{Begin as BeginOf, Put as PutOf, End as EndOf}
use Rattle.ogg_command.specs.declared.command.SkeletonHead.{SkeletonHead}
use Rattle.ogg_command.specs.declared.command.NewStream.{NewStream}
use Rattle.ogg_command.specs.declared.command.Entry.{Entry}
use Rattle.ogg_page.specs.Numbers.{u16_bytes, u32_bytes, u64_bytes, i64_bytes, fraction_bytes, IsFraction}
use Rattle.skeleton3.specs.Fields.{NamedValue}
use Rattle.feed_records.specs.declared.version.Version.{Version}
use Rattle.feed_records.specs.declared.version.Version.TheVariants.{One, Two}
use Rattle.feed_records.specs.declared.item.Record.TheVariants.{Command as CommandOf, Flush}
use Rattle.feed_records.specs.declared.item.Item.{Item}
use Rattle.feed_records.specs.declared.item.Item.TheVariants.{Announcement, Record as RecordItem}
use Rattle.feed_records.specs.Record.{packet_bytes, media_bytes, skeleton_bytes, field_bytes, fields_bytes, stream_bytes, entry_bytes, FitsField, FitsMessage, FitsHeader, FitsStream, FitsEntry}
use Rattle.feed_codec.specs.Building.{Spells, SpellsCommand}
use Rattle.feed_codec.specs.Payload.{Begins, BeginsNone, AreMany, IsPacket, IsMedia, IsFieldOfFeed, AreFields, IsEntryOfFeed, IsStreamOfFeed, IsTail, IsBehind, skeleton_head_bytes, IsPayload}
use Rattle.feed_records.specs.Tail.{Tail, tail_bytes, Behind, behind_bytes, behind_of_stream}
use Rattle.feed_codec.proofs.Lists.{all_front, all_back, all_as, split_joins}
use Rattle.ogg_page.specs.Laws.NumberBytes.{IsU16, IsU32, IsU64, same_u16, same_u32, same_u64, length-u16_bytes, length-u32_bytes, length-u64_bytes, length-i64_bytes, read_u32}
use Rattle.feed_records.specs.Laws.{stream_parts}
use Rattle.feed_codec.proofs.Spellings.{PrefixFree, front, fronts, same_packet, same_media, same_many, same_tail, same_skeleton, entry_packet, stream_headers, stream_behind_headers, command_streams, command_entries}
use Rattle.ogg_page.specs.Laws.PageBytes.{all_both}

-- bytes that begin with the spelling of some x
abbrev Stands : {X : Type 0} → (X → Type 0) → (X → List ℕ) → List ℕ → Type 0
Stands {X} Is spell bytes = (rest : List ℕ) × Begins Is spell bytes rest

-- if a part of each spelling doesn't stand where it would, no spelling does
none_from : {X Y : Type 0} (Is : X → Type 0) (spell : X → List ℕ) (Of : Y → Type 0) (part : Y → List ℕ) (bytes rest : List ℕ) →
    (Stands Is spell bytes → Stands Of part rest) → BeginsNone Of part rest → BeginsNone Is spell bytes
none_from Is spell Of part bytes rest stand none x more h e =
    let (behind, (y, is, f)) = stand (more, (x, h, e)) in
    none y behind is f

-- nor does one if there are fewer bytes than each has
none_short : {X : Type 0} (Is : X → Type 0) (spell : X → List ℕ) (least : ℕ) → ((x : X) → Is x → least ≤ length (spell x)) → (bytes : List ℕ) → length bytes < least → BeginsNone Is spell bytes
none_short Is spell least long bytes l x rest h e = omega (arith, l, ap length e, length-append (spell x) rest, long x h)

-- ---- packets and media types
-- bytes that follow their number, which is spelled by `number`
module _ (limit : ℕ) (number : ℕ → List ℕ) (free : PrefixFree (λ n. n < limit) number) (Is : List ℕ → Type 0)
    (fits : (part : List ℕ) → Is part → length part < limit) (is_one : (part : List ℕ) → AllByRecursion IsByte part → length part < limit → Is part) where
  part_cut : (bytes rest : List ℕ) (n : ℕ) → n < limit → bytes ≡ number n ++ rest → length rest < n → BeginsNone Is (λ part. number (length part) ++ part) bytes
  part_cut bytes rest n small is l part more h e =
      let sizes = front (λ k. k < limit) number free n (length part) rest part more small (fits part h) (sym is ∙ e) in
      omega (arith, l, sizes.0, ap length sizes.1, length-append part more)

  part_found : (bytes rest part more : List ℕ) (n : ℕ) → n < limit → AllByRecursion IsByte bytes → bytes ≡ number n ++ rest
      → rest ≡ part ++ more → length part ≡ n → Is part × (bytes ≡ (number (length part) ++ part) ++ more)
  part_found bytes rest part more n small all is cut l =
      let behind : AllByRecursion IsByte rest = all_back IsByte (number n) rest (subst (AllByRecursion IsByte) is all) in (
        is_one part (all_front IsByte part more (subst (AllByRecursion IsByte) cut behind)) (omega (arith, l, small)),
        is ∙ ap (λ l. number n ++ l) cut ∙ sym (append_assoc (number n) part more) ∙ ap (λ k. (number k ++ part) ++ more) (sym l),
      )

  -- the same of a cut that may fail
  part_split : (r : Option (Bor (List ℕ) × Bor (List ℕ))) (bytes rest : List ℕ) (n : ℕ) → n < limit → AllByRecursion IsByte bytes → bytes ≡ number n ++ rest
      → MatchOption r (length rest < n) (λ p. IsSplitAt rest n p.0.now p.1.now)
      → MatchOption r (BeginsNone Is (λ part. number (length part) ++ part) bytes) (λ p. Is p.0.now × (bytes ≡ (number (length p.0.now) ++ p.0.now) ++ p.1.now))
  part_split None bytes rest n small all is cut = part_cut bytes rest n small is cut
  part_split (Some p) bytes rest n small all is cut =
      part_found bytes rest p.0.now p.1.now n small all is (split_joins rest p.0.now p.1.now n cut) cut.3

pub packet_short : (bytes : List ℕ) → length bytes < 4 → BeginsNone IsPacket packet_bytes bytes
packet_short = none_short IsPacket packet_bytes 4 (λ p h. simp (length-append, length-u32_bytes) (omega arith))

pub packet_split : (r : Option (Bor (List ℕ) × Bor (List ℕ))) (bytes rest : List ℕ) (n : ℕ) → n < 2 ^ 32 → AllByRecursion IsByte bytes → bytes ≡ u32_bytes n ++ rest
    → MatchOption r (length rest < n) (λ p. IsSplitAt rest n p.0.now p.1.now)
    → MatchOption r (BeginsNone IsPacket packet_bytes bytes) (λ p. IsPacket p.0.now × (bytes ≡ packet_bytes p.0.now ++ p.1.now))
packet_split = part_split (2 ^ 32) u32_bytes same_u32 IsPacket (λ p h. h.fits) (λ p all small. record { bytes = all; fits = small })

pub media_short : (bytes : List ℕ) → length bytes < 2 → BeginsNone IsMedia media_bytes bytes
media_short = none_short IsMedia media_bytes 2 (λ p h. simp (length-append, length-u16_bytes) (omega arith))

pub media_split : (r : Option (Bor (List ℕ) × Bor (List ℕ))) (bytes rest : List ℕ) (n : ℕ) → n < 2 ^ 16 → AllByRecursion IsByte bytes → bytes ≡ u16_bytes n ++ rest
    → MatchOption r (length rest < n) (λ p. IsSplitAt rest n p.0.now p.1.now)
    → MatchOption r (BeginsNone IsMedia media_bytes bytes) (λ p. IsMedia p.0.now × (bytes ≡ media_bytes p.0.now ++ p.1.now))
media_split = part_split (2 ^ 16) u16_bytes same_u16 IsMedia (λ p h. h.fits) (λ p all small. record { bytes = all; fits = small })

-- ---- entries

pub entry_short : (bytes : List ℕ) → length bytes < 12 → BeginsNone IsEntryOfFeed entry_bytes bytes
unfolding entry_bytes
entry_short = none_short IsEntryOfFeed entry_bytes 12 (λ entry h. simp (length-append, length-u32_bytes, length-u64_bytes) (omega arith))

pub entry_cut : (bytes behind rest : List ℕ) (serial position : ℕ) → serial < 2 ^ 32 → position < 2 ^ 64 → bytes ≡ u32_bytes serial ++ behind → behind ≡ u64_bytes position ++ rest
    → BeginsNone IsPacket packet_bytes rest → BeginsNone IsEntryOfFeed entry_bytes bytes
unfolding entry_bytes
entry_cut bytes behind rest serial position hs hp is then none entry more h e =
    let first = front IsU32 u32_bytes same_u32 serial entry.serial behind (u64_bytes entry.position ++ packet_bytes entry.packet) more hs h.numbers.serial (sym is ∙ e) in
    let second = front IsU64 u64_bytes same_u64 position entry.position rest (packet_bytes entry.packet) more hp h.numbers.position (sym then ∙ first.1) in
    none entry.packet more (entry_packet entry h) second.1

pub entry_found : (bytes behind rest more packet : List ℕ) (serial position : ℕ) → serial < 2 ^ 32 → position < 2 ^ 64 → bytes ≡ u32_bytes serial ++ behind → behind ≡ u64_bytes position ++ rest
    → IsPacket packet → rest ≡ packet_bytes packet ++ more
    → IsEntryOfFeed (record { serial = serial; position = position; packet = packet }) × (bytes ≡ entry_bytes (record { serial = serial; position = position; packet = packet }) ++ more)
unfolding entry_bytes
entry_found bytes behind rest more packet serial position hs hp is then h e = (
  record {
    numbers = record { serial = hs; position = hp; packet = h.bytes };
    fits = h.fits;
  },
  is ∙ ap (λ l. u32_bytes serial ++ l) (then ∙ ap (λ l. u64_bytes position ++ l) e ∙ sym (append_assoc (u64_bytes position) (packet_bytes packet) more))
      ∙ sym (append_assoc (u32_bytes serial) (u64_bytes position ++ packet_bytes packet) more),
)

-- ---- lists of parts

none_many : {X : Type 0} (Is : X → Type 0) (spell : X → List ℕ) → PrefixFree Is spell → (xs ys : List X) (rest more : List ℕ)
    → length xs < length ys → AllByRecursion Is xs → AllByRecursion Is ys → BeginsNone Is spell rest → flat_map spell xs ++ rest ≡ flat_map spell ys ++ more → ⊥
none_many Is spell free xs [] rest more l hx hy none e = omega arith
none_many Is spell free [] (y ∷ ys) rest more l hx hy none e =
    none y (flat_map spell ys ++ more) hy.0 (e ∙ append_assoc (spell y) (flat_map spell ys) more)
none_many Is spell free (x ∷ xs) (y ∷ ys) rest more l hx hy none e =
    let heads = fronts Is spell free x y (flat_map spell xs) (flat_map spell ys) rest more hx.0 hy.0 e in
    none_many Is spell free xs ys rest more (omega arith) hx.1 hy.1 none heads.1

-- if some stand in front and no further one does, there aren't more
pub many_cut : {X : Type 0} (Is : X → Type 0) (spell : X → List ℕ) → PrefixFree Is spell → (bytes rest : List ℕ) (done count : ℕ) → done < count
    → Begins (AreMany Is done) (flat_map spell) bytes rest → BeginsNone Is spell rest → BeginsNone (AreMany Is count) (flat_map spell) bytes
many_cut Is spell free bytes rest done count l some none ys more h e =
    none_many Is spell free some.0 ys rest more (omega (arith, l, some.1.0, h.0)) some.1.1 h.1 none (sym some.2 ∙ e)

pub many_none : {X : Type 0} (Is : X → Type 0) (spell : X → List ℕ) (bytes : List ℕ) → Begins (AreMany Is 0) (flat_map spell) bytes bytes
many_none Is spell bytes = ([], (refl, tt), refl)

-- one more after them
pub built_more : {X : Type 0} (Is : X → Type 0) (spell : X → List ℕ) (bytes rest behind : List ℕ) (done : ℕ) (xs : List X) (x : X)
    → AreMany Is done xs → bytes ≡ flat_map spell xs ++ rest → Is x → rest ≡ spell x ++ behind
    → AreMany Is (done + 1) (xs ++ x ∷ []) × (bytes ≡ flat_map spell (xs ++ x ∷ []) ++ behind)
built_more Is spell bytes rest behind done xs x many e one f = (
  (omega (arith, length-append xs (x ∷ []), many.0), all_both Is xs (x ∷ []) many.1 (one, tt)),
  e ∙ ap (λ l. flat_map spell xs ++ l) (f ∙ ap (λ l. l ++ behind) (sym (append-nil (spell x))))
      ∙ sym (append_assoc (flat_map spell xs) (spell x ++ []) behind) ∙ ap (λ l. l ++ behind) (sym (flat_map-append spell xs (x ∷ []))),
)

pub many_more : {X : Type 0} (Is : X → Type 0) (spell : X → List ℕ) (bytes rest behind : List ℕ) (done : ℕ)
    → Begins (AreMany Is done) (flat_map spell) bytes rest → Begins Is spell rest behind → Begins (AreMany Is (done + 1)) (flat_map spell) bytes behind
many_more Is spell bytes rest behind done some one =
    let more = built_more Is spell bytes rest behind done some.0 one.0 some.1 some.2 one.1 one.2 in
    (some.0 ++ one.0 ∷ [], more.0, more.1)

-- if more are left, one stands in front
pub left_first : {X : Type 0} (Is : X → Type 0) (spell : X → List ℕ) (rest more : List ℕ) (done count : ℕ) → done < count
    → Begins (AreMany Is (count - done)) (flat_map spell) rest more → (behind : List ℕ) × Begins Is spell rest behind
left_first Is spell rest more done count l ([], many, e) = absurd (omega (arith, l, many.0))
left_first Is spell rest more done count l (x ∷ xs, many, e) =
    (flat_map spell xs ++ more, (x, many.1.0, e ∙ append_assoc (spell x) (flat_map spell xs) more))

pub left_stands : {X : Type 0} (Is : X → Type 0) (spell : X → List ℕ) (rest more : List ℕ) (done count : ℕ) → done < count
    → Begins (AreMany Is (count - done)) (flat_map spell) rest more → ¬ BeginsNone Is spell rest
left_stands Is spell rest more done count l some none =
    let (behind, (x, is, e)) = left_first Is spell rest more done count l some in
    none x behind is e

-- and the others follow it
pub left_behind : {X : Type 0} (Is : X → Type 0) (spell : X → List ℕ) → PrefixFree Is spell → (rest behind more : List ℕ) (done count : ℕ) (x : X) → done < count
    → Begins (AreMany Is (count - done)) (flat_map spell) rest more → Is x → rest ≡ spell x ++ behind → Begins (AreMany Is (count - (done + 1))) (flat_map spell) behind more
left_behind Is spell free rest behind more done count x l ([], many, e) one f = absurd (omega (arith, l, many.0))
left_behind Is spell free rest behind more done count x l (y ∷ ys, many, e) one f =
    let heads = front Is spell free x y behind (flat_map spell ys) more one many.1.0 (sym f ∙ e) in
    (ys, (omega (arith, l, many.0), many.1.1), heads.1)

-- there is a value if the reason for none doesn't hold
pub stands : {T : Type 0} (r : Option T) (A : Type 0) (P : T → Type 0) → MatchOption r A P → ¬ A → IsSome r
stands None A P h refuted = absurd (refuted h)
stands (Some t) A P h refuted = search rules

-- ---- Skeletons

pub head_short : (bytes : List ℕ) → length bytes < 56 → BeginsNone IsSkeletonHead skeleton_head_bytes bytes
unfolding skeleton_head_bytes
head_short = none_short IsSkeletonHead skeleton_head_bytes 56 (λ head h. simp (length-append, length-u32_bytes, length-i64_bytes, h.utc_length) (omega arith))

pub head_found : (bytes b1 b2 b3 more utc : List ℕ) (serial : ℕ) (presentation base : ℤ × ℤ)
    → serial < 2 ^ 32 → IsFraction presentation → IsFraction base → length utc ≡ 20 → AllByRecursion IsByte bytes
    → bytes ≡ u32_bytes serial ++ b1 → b1 ≡ fraction_bytes presentation ++ b2 → b2 ≡ fraction_bytes base ++ b3 → b3 ≡ utc ++ more
    → IsSkeletonHead (record { serial = serial; presentation = presentation; base = base; utc = utc })
    × (bytes ≡ skeleton_head_bytes (record { serial = serial; presentation = presentation; base = base; utc = utc }) ++ more)
unfolding skeleton_head_bytes
head_found bytes b1 b2 b3 more utc serial presentation base hs hp hb hu all e1 e2 e3 e4 =
    let a1 : AllByRecursion IsByte b1 = all_back IsByte (u32_bytes serial) b1 (subst (AllByRecursion IsByte) e1 all) in
    let a2 : AllByRecursion IsByte b2 = all_back IsByte (fraction_bytes presentation) b2 (subst (AllByRecursion IsByte) e2 a1) in
    let a3 : AllByRecursion IsByte b3 = all_back IsByte (fraction_bytes base) b3 (subst (AllByRecursion IsByte) e3 a2) in
    let a4 : AllByRecursion IsByte utc = all_front IsByte utc more (subst (AllByRecursion IsByte) e4 a3) in
    let j3 : b2 ≡ (fraction_bytes base ++ utc) ++ more = e3 ∙ ap (λ l. fraction_bytes base ++ l) e4 ∙ sym (append_assoc (fraction_bytes base) utc more) in
    let j2 : b1 ≡ (fraction_bytes presentation ++ (fraction_bytes base ++ utc)) ++ more =
    e2 ∙ ap (λ l. fraction_bytes presentation ++ l) j3 ∙ sym (append_assoc (fraction_bytes presentation) (fraction_bytes base ++ utc) more) in (
      record { serial = hs; presentation = hp; base = hb; utc = a4; utc_length = hu },
      e1 ∙ ap (λ l. u32_bytes serial ++ l) j2 ∙ sym (append_assoc (u32_bytes serial) (fraction_bytes presentation ++ (fraction_bytes base ++ utc)) more),
    )

pub skeleton_cut : (bytes rest : List ℕ) → bytes ≡ 1 ∷ rest → BeginsNone IsSkeletonHead skeleton_head_bytes rest → BeginsNone IsSkeleton skeleton_bytes bytes
unfolding skeleton_head_bytes
skeleton_cut bytes rest is none None more h e = absurd (cc (is, e))
skeleton_cut bytes rest is none (Some head) more h e =
    let behind : rest ≡ skeleton_head_bytes head ++ more = cc (is, e) in
    none head more h behind

pub skeleton_found : (bytes rest more : List ℕ) (head : SkeletonHead) → bytes ≡ 1 ∷ rest → rest ≡ skeleton_head_bytes head ++ more → bytes ≡ skeleton_bytes (Some head) ++ more
unfolding skeleton_head_bytes
skeleton_found bytes rest more head is e = is ∙ ap (λ l. 1 ∷ l) e

-- ---- what follows a stream's headers

pub tail_cut : (bytes : List ℕ) → BeginsNone IsMedia media_bytes bytes → BeginsNone IsTail tail_bytes bytes
unfolding tail_bytes
tail_cut bytes none tail more h e =
    none tail.media ((fraction_bytes tail.rate ++ (i64_bytes tail.base_granule ++ (u32_bytes tail.preroll ++ tail.shift ∷ []))) ++ more) h.media
    (e ∙ append_assoc (media_bytes tail.media) (fraction_bytes tail.rate ++ (i64_bytes tail.base_granule ++ (u32_bytes tail.preroll ++ tail.shift ∷ []))) more)

pub tail_short : (bytes rest media : List ℕ) → IsMedia media → bytes ≡ media_bytes media ++ rest → length rest < 29 → BeginsNone IsTail tail_bytes bytes
unfolding tail_bytes
tail_short bytes rest media hm is l tail more h e =
    let behind = front IsMedia media_bytes same_media media tail.media rest (fraction_bytes tail.rate ++ (i64_bytes tail.base_granule ++ (u32_bytes tail.preroll ++ tail.shift ∷ []))) more hm h.media (sym is ∙ e) in
    omega (arith, l, simp (length-append, length-i64_bytes, length-u32_bytes) at (ap length behind.1))

pub tail_found : (bytes b1 b2 b3 b4 more media : List ℕ) (rate : ℤ × ℤ) (base_granule : ℤ) (preroll shift : ℕ)
    → IsMedia media → IsFraction rate → FitsSigned w64 base_granule → preroll < 2 ^ 32 → shift < 2 ^ 8
    → bytes ≡ media_bytes media ++ b1 → b1 ≡ fraction_bytes rate ++ b2 → b2 ≡ i64_bytes base_granule ++ b3 → b3 ≡ u32_bytes preroll ++ b4 → b4 ≡ shift ∷ more
    → IsTail (record { media = media; rate = rate; base_granule = base_granule; preroll = preroll; shift = shift })
    × (bytes ≡ tail_bytes (record { media = media; rate = rate; base_granule = base_granule; preroll = preroll; shift = shift }) ++ more)
unfolding tail_bytes
tail_found bytes b1 b2 b3 b4 more media rate base_granule preroll shift hm hr hg hp hs e1 e2 e3 e4 e5 =
    let j4 : b3 ≡ (u32_bytes preroll ++ shift ∷ []) ++ more = e4 ∙ ap (λ l. u32_bytes preroll ++ l) e5 ∙ sym (append_assoc (u32_bytes preroll) (shift ∷ []) more) in
    let j3 : b2 ≡ (i64_bytes base_granule ++ (u32_bytes preroll ++ shift ∷ [])) ++ more =
    e3 ∙ ap (λ l. i64_bytes base_granule ++ l) j4 ∙ sym (append_assoc (i64_bytes base_granule) (u32_bytes preroll ++ shift ∷ []) more) in
    let j2 : b1 ≡ (fraction_bytes rate ++ (i64_bytes base_granule ++ (u32_bytes preroll ++ shift ∷ []))) ++ more =
    e2 ∙ ap (λ l. fraction_bytes rate ++ l) j3 ∙ sym (append_assoc (fraction_bytes rate) (i64_bytes base_granule ++ (u32_bytes preroll ++ shift ∷ [])) more) in (
      record { media = hm; rate = hr; base_granule = hg; preroll = hp; shift = omega (arith, hs) },
      e1 ∙ ap (λ l. media_bytes media ++ l) j2 ∙ sym (append_assoc (media_bytes media) (fraction_bytes rate ++ (i64_bytes base_granule ++ (u32_bytes preroll ++ shift ∷ []))) more),
    )

-- ---- message fields

pub value_cut : (bytes rest name : List ℕ) → IsMedia name → bytes ≡ media_bytes name ++ rest → BeginsNone IsMedia media_bytes rest → BeginsNone IsFieldOfFeed field_bytes bytes
value_cut bytes rest name hn is none field more h e =
    let behind = front IsMedia media_bytes same_media name field.0 rest (media_bytes field.1) more hn h.name (sym is ∙ e) in
    none field.1 more h.value behind.1

-- their number, and then each of them
module _ {X : Type 0} (Is : X → Type 0) (spell : X → List ℕ) (bytes more : List ℕ) (xs : List X) (e : bytes ≡ (u16_bytes (length xs) ++ flat_map spell xs) ++ more) where
  each_long : 2 ≤ length bytes
  each_long = omega (arith, simp (length-append, length-u16_bytes) at (ap length e))

  each_stand : (rest : List ℕ) (n : ℕ) → n < 2 ^ 16 → bytes ≡ u16_bytes n ++ rest → length xs < 2 ^ 16 → AllByRecursion Is xs → Begins (AreMany Is n) (flat_map spell) rest more
  each_stand rest n small is few all =
      let count = front IsU16 u16_bytes same_u16 n (length xs) rest (flat_map spell xs) more small few (sym is ∙ e) in
      (xs, (sym count.0, all), count.1)

pub fields_long : (bytes : List ℕ) → Stands (AreFields Two) (fields_bytes Two) bytes → 2 ≤ length bytes
fields_long bytes (more, (fields, h, e)) = each_long IsFieldOfFeed field_bytes bytes more fields e

pub fields_short : (bytes : List ℕ) → length bytes < 2 → BeginsNone (AreFields Two) (fields_bytes Two) bytes
fields_short bytes l fields more h e = let long = fields_long bytes (more, (fields, h, e)) in omega (arith, l, long)

pub fields_stand : (bytes rest : List ℕ) (n : ℕ) → n < 2 ^ 16 → bytes ≡ u16_bytes n ++ rest → Stands (AreFields Two) (fields_bytes Two) bytes
    → Stands (AreMany IsFieldOfFeed n) (flat_map field_bytes) rest
fields_stand bytes rest n small is (more, (fields, h, e)) = (more, each_stand IsFieldOfFeed field_bytes bytes more fields e rest n small is h.0 h.1)

fields_found : (bytes rest more : List ℕ) (n : ℕ) (fields : List NamedValue) → n < 2 ^ 16 → bytes ≡ u16_bytes n ++ rest → AreMany IsFieldOfFeed n fields → rest ≡ flat_map field_bytes fields ++ more
    → AreFields Two fields × (bytes ≡ fields_bytes Two fields ++ more)
fields_found bytes rest more n fields small is many e = (
  (omega (arith, many.0, small), many.1),
  is ∙ ap (λ k. u16_bytes k ++ rest) (sym many.0) ∙ ap (λ l. u16_bytes (length fields) ++ l) e ∙ sym (append_assoc (u16_bytes (length fields)) (flat_map field_bytes fields) more),
)

-- the same of what is left after each
pub fields_split : (r : Option (Bor (List ℕ))) (bytes rest : List ℕ) (n : ℕ) → n < 2 ^ 16 → bytes ≡ u16_bytes n ++ rest
    → MatchOption r (BeginsNone (AreMany IsFieldOfFeed n) (flat_map field_bytes) rest) (λ p. Begins (AreMany IsFieldOfFeed n) (flat_map field_bytes) rest p.now)
    → MatchOption r (BeginsNone (AreFields Two) (fields_bytes Two) bytes) (λ p. Begins (AreFields Two) (fields_bytes Two) bytes p.now)
fields_split None bytes rest n small is none =
    none_from (AreFields Two) (fields_bytes Two) (AreMany IsFieldOfFeed n) (flat_map field_bytes) bytes rest (fields_stand bytes rest n small is) none
fields_split (Some p) bytes rest n small is (fields, many, e) =
    let found = fields_found bytes rest p.now n fields small is many e in
    (fields, found.0, found.1)

-- ---- all that follows a stream's headers

pub behind_tail_stands : (v : Version) (bytes : List ℕ) → Stands (IsBehind v) (behind_bytes v) bytes → ¬ BeginsNone IsTail tail_bytes bytes
behind_tail_stands v bytes (rest, (behind, h, e)) none =
    none behind.0 (fields_bytes v behind.1 ++ rest) h.tail (e ∙ append_assoc (tail_bytes behind.0) (fields_bytes v behind.1) rest)

pub behind_fields_stand : (v : Version) (bytes rest : List ℕ) (tail : Tail) → IsTail tail → bytes ≡ tail_bytes tail ++ rest → Stands (IsBehind v) (behind_bytes v) bytes
    → Stands (AreFields v) (fields_bytes v) rest
behind_fields_stand v bytes rest tail ht is (more, (behind, h, e)) =
    let fields = front IsTail tail_bytes same_tail tail behind.0 rest (fields_bytes v behind.1) more ht h.tail (sym is ∙ e) in
    (more, (behind.1, h.fields, fields.1))

pub behind_found : (v : Version) (bytes rest more : List ℕ) (tail : Tail) (fields : List NamedValue) → IsTail tail → bytes ≡ tail_bytes tail ++ rest → AreFields v fields → rest ≡ fields_bytes v fields ++ more
    → IsBehind v (tail, fields) × (bytes ≡ behind_bytes v (tail, fields) ++ more)
behind_found v bytes rest more tail fields ht is hf then = (
  record { tail = ht; fields = hf },
  is ∙ ap (λ l. tail_bytes tail ++ l) then ∙ sym (append_assoc (tail_bytes tail) (fields_bytes v fields) more),
)

pub behind_split : (v : Version) (r : Option (Bor (List ℕ))) (bytes rest : List ℕ) (tail : Tail) → IsTail tail → bytes ≡ tail_bytes tail ++ rest
    → MatchOption r (BeginsNone (AreFields v) (fields_bytes v) rest) (λ p. Begins (AreFields v) (fields_bytes v) rest p.now)
    → MatchOption r (BeginsNone (IsBehind v) (behind_bytes v) bytes) (λ p. Begins (IsBehind v) (behind_bytes v) bytes p.now)
behind_split v None bytes rest tail ht is none =
    none_from (IsBehind v) (behind_bytes v) (AreFields v) (fields_bytes v) bytes rest (behind_fields_stand v bytes rest tail ht is) none
behind_split v (Some p) bytes rest tail ht is (fields, hf, e) =
    let found = behind_found v bytes rest p.now tail fields ht is hf e in
    ((tail, fields), found.0, found.1)

-- ---- streams

-- the serial and the number of headers in front of a stream, and what follows them
pub stream_long : (v : Version) (bytes : List ℕ) → Stands (IsStreamOfFeed v) (stream_bytes v) bytes → 6 ≤ length bytes
stream_long v bytes (rest, (s, h, e)) =
    omega (arith, simp (length-append, length-u32_bytes, length-u16_bytes) at (ap length (e ∙ ap (λ l. l ++ rest) (stream_parts v s))))

pub stream_short : (v : Version) (bytes : List ℕ) → length bytes < 6 → BeginsNone (IsStreamOfFeed v) (stream_bytes v) bytes
stream_short v bytes l s rest h e = let long = stream_long v bytes (rest, (s, h, e)) in omega (arith, l, long)

-- what follows the serial and the number of headers of a stream
stream_behind : (v : Version) (bytes b1 b2 more : List ℕ) (serial count : ℕ) (s : NewStream) → serial < 2 ^ 32 → count < 2 ^ 16 → bytes ≡ u32_bytes serial ++ b1 → b1 ≡ u16_bytes count ++ b2
    → IsStreamOfFeed v s → bytes ≡ stream_bytes v s ++ more → (count ≡ length s.headers) × (b2 ≡ (flat_map packet_bytes s.headers ++ behind_bytes v (behind_of_stream s)) ++ more)
stream_behind v bytes b1 b2 more serial count s hs hc e1 e2 h e =
    let behind : List ℕ = flat_map packet_bytes s.headers ++ behind_bytes v (behind_of_stream s) in
    let first = front IsU32 u32_bytes same_u32 serial s.serial b1 (u16_bytes (length s.headers) ++ behind) more hs h.numbers.serial (sym e1 ∙ e ∙ ap (λ l. l ++ more) (stream_parts v s)) in
    front IsU16 u16_bytes same_u16 count (length s.headers) b2 behind more hc h.fits.headers (sym e2 ∙ first.1)

pub stream_headers_stand : (v : Version) (bytes b1 b2 : List ℕ) (serial count : ℕ) → serial < 2 ^ 32 → count < 2 ^ 16 → bytes ≡ u32_bytes serial ++ b1 → b1 ≡ u16_bytes count ++ b2
    → Stands (IsStreamOfFeed v) (stream_bytes v) bytes → Stands (AreMany IsPacket count) (flat_map packet_bytes) b2
stream_headers_stand v bytes b1 b2 serial count hs hc e1 e2 (more, (s, h, e)) =
    let behind = stream_behind v bytes b1 b2 more serial count s hs hc e1 e2 h e in
    (behind_bytes v (behind_of_stream s) ++ more, (s.headers, (sym behind.0, stream_headers v s h), behind.1 ∙ append_assoc (flat_map packet_bytes s.headers) (behind_bytes v (behind_of_stream s)) more))

pub stream_behind_stands : (v : Version) (bytes b1 b2 b3 : List ℕ) (serial count : ℕ) (headers : List (List ℕ)) → serial < 2 ^ 32 → count < 2 ^ 16 → bytes ≡ u32_bytes serial ++ b1 → b1 ≡ u16_bytes count ++ b2
    → AreMany IsPacket count headers → b2 ≡ flat_map packet_bytes headers ++ b3
    → Stands (IsStreamOfFeed v) (stream_bytes v) bytes → Stands (IsBehind v) (behind_bytes v) b3
stream_behind_stands v bytes b1 b2 b3 serial count headers hs hc e1 e2 many e3 (more, (s, h, e)) =
    let behind = stream_behind v bytes b1 b2 more serial count s hs hc e1 e2 h e in
    let same = front (AreMany IsPacket count) (flat_map packet_bytes) (same_many IsPacket packet_bytes same_packet count) headers s.headers b3 (behind_bytes v (behind_of_stream s)) more
    many (sym behind.0, stream_headers v s h) (sym e3 ∙ behind.1) in
    (more, (behind_of_stream s, stream_behind_headers v s h, same.1))

pub stream_cut : (v : Version) (bytes b1 b2 : List ℕ) (serial count : ℕ) → serial < 2 ^ 32 → count < 2 ^ 16 → bytes ≡ u32_bytes serial ++ b1 → b1 ≡ u16_bytes count ++ b2
    → BeginsNone (AreMany IsPacket count) (flat_map packet_bytes) b2 → BeginsNone (IsStreamOfFeed v) (stream_bytes v) bytes
stream_cut v bytes b1 b2 serial count hs hc e1 e2 =
    none_from (IsStreamOfFeed v) (stream_bytes v) (AreMany IsPacket count) (flat_map packet_bytes) bytes b2 (stream_headers_stand v bytes b1 b2 serial count hs hc e1 e2)

-- the stream with this serial, these headers, and this after them
abbrev stream_with : ℕ → List (List ℕ) → Behind → NewStream
stream_with serial headers (tail, fields) =
    record { serial = serial; headers = headers; media = tail.media; fields = fields; rate = tail.rate; base_granule = tail.base_granule; preroll = tail.preroll; shift = tail.shift }

fields_bytes_fit : (v : Version) (fields : List NamedValue) → AreFields v fields → AllByRecursion AreFieldBytes fields × FitsMessage v fields
fields_bytes_fit One fields none = (subst (AllByRecursion AreFieldBytes) (sym none) tt, none)
fields_bytes_fit Two fields (few, all) = (
  all_as IsFieldOfFeed AreFieldBytes (λ f h. (h.name.bytes, h.value.bytes)) fields all,
  (few, all_as IsFieldOfFeed FitsField (λ f h. (h.name.fits, h.value.fits)) fields all),
)

pub stream_found : (v : Version) (bytes b1 b2 b3 more : List ℕ) (serial count : ℕ) (headers : List (List ℕ)) (tail : Behind) → serial < 2 ^ 32 → count < 2 ^ 16
    → bytes ≡ u32_bytes serial ++ b1 → b1 ≡ u16_bytes count ++ b2 → AreMany IsPacket count headers → b2 ≡ flat_map packet_bytes headers ++ b3
    → IsBehind v tail → b3 ≡ behind_bytes v tail ++ more
    → IsStreamOfFeed v (stream_with serial headers tail) × (bytes ≡ stream_bytes v (stream_with serial headers tail) ++ more)
stream_found v bytes b1 b2 b3 more serial count headers tail hs hc e1 e2 hh e3 ht e4 =
    let behind : List ℕ = flat_map packet_bytes headers ++ behind_bytes v tail in
    let j3 : b2 ≡ behind ++ more = e3 ∙ ap (λ l. flat_map packet_bytes headers ++ l) e4 ∙ sym (append_assoc (flat_map packet_bytes headers) (behind_bytes v tail) more) in
    let j2 : b1 ≡ (u16_bytes (length headers) ++ behind) ++ more =
    e2 ∙ ap (λ n. u16_bytes n ++ b2) (sym hh.0) ∙ ap (λ l. u16_bytes (length headers) ++ l) j3 ∙ sym (append_assoc (u16_bytes (length headers)) behind more) in
    let j1 : bytes ≡ (u32_bytes serial ++ (u16_bytes (length headers) ++ behind)) ++ more =
    e1 ∙ ap (λ l. u32_bytes serial ++ l) j2 ∙ sym (append_assoc (u32_bytes serial) (u16_bytes (length headers) ++ behind) more) in (
      record {
        numbers = record {
          serial = hs;
          headers = all_as IsPacket (AllByRecursion IsByte) (λ p h. h.bytes) headers hh.1;
          media = ht.tail.media.bytes;
          fields = (fields_bytes_fit v tail.1 ht.fields).0;
          rate = ht.tail.rate;
          base_granule = ht.tail.base_granule;
          preroll = ht.tail.preroll;
          shift = ht.tail.shift;
        };
        fits = record {
          headers = omega (arith, hh.0, hc);
          each = all_as IsPacket FitsHeader (λ p h. h.fits) headers hh.1;
          media = ht.tail.media.fits;
          fields = (fields_bytes_fit v tail.1 ht.fields).1;
        };
      },
      j1 ∙ ap (λ l. l ++ more) (sym (stream_parts v (stream_with serial headers tail))),
    )

pub stream_split : (v : Version) (r : Option (Bor (List ℕ))) (bytes b1 b2 b3 : List ℕ) (serial count : ℕ) → serial < 2 ^ 32 → count < 2 ^ 16 → bytes ≡ u32_bytes serial ++ b1 → b1 ≡ u16_bytes count ++ b2
    → Begins (AreMany IsPacket count) (flat_map packet_bytes) b2 b3
    → MatchOption r (BeginsNone (IsBehind v) (behind_bytes v) b3) (λ p. Begins (IsBehind v) (behind_bytes v) b3 p.now)
    → MatchOption r (BeginsNone (IsStreamOfFeed v) (stream_bytes v) bytes) (λ p. Begins (IsStreamOfFeed v) (stream_bytes v) bytes p.now)
stream_split v None bytes b1 b2 b3 serial count hs hc e1 e2 (headers, many, e3) none =
    none_from (IsStreamOfFeed v) (stream_bytes v) (IsBehind v) (behind_bytes v) bytes b3 (stream_behind_stands v bytes b1 b2 b3 serial count headers hs hc e1 e2 many e3) none
stream_split v (Some p) bytes b1 b2 b3 serial count hs hc e1 e2 (headers, many, e3) (behind, hb, e4) =
    let found = stream_found v bytes b1 b2 b3 p.now serial count headers behind hs hc e1 e2 many e3 hb e4 in
    (stream_with serial headers behind, found.0, found.1)

-- ---- payloads

-- what follows the Skeleton of a begin
pub begin_behind : (v : Version) (payload rest : List ℕ) (skeleton : Option SkeletonHead) → IsSkeleton skeleton → payload ≡ skeleton_bytes skeleton ++ rest → IsPayload v 1 payload
    → (streams : List NewStream) × AllByRecursion (IsStreamOfFeed v) streams × (length streams < 2 ^ 16) × (rest ≡ u16_bytes (length streams) ++ flat_map (stream_bytes v) streams)
begin_behind v payload rest skeleton hs is (RecordItem (CommandOf (BeginOf begin)), h, kind, e) =
    let behind = same_skeleton skeleton begin.skeleton rest (u16_bytes (length begin.streams) ++ flat_map (stream_bytes v) begin.streams) hs h.0.0 (sym is ∙ sym e) in
    (begin.streams, command_streams v begin h.0 h.1, h.1.0, behind.1)
begin_behind v payload rest skeleton hs is (RecordItem (CommandOf (PutOf put)), h, kind, e) = absurd (omega (arith, kind))
begin_behind v payload rest skeleton hs is (RecordItem (CommandOf (EndOf serial)), h, kind, e) = absurd (omega (arith, kind))
begin_behind v payload rest skeleton hs is (RecordItem Flush, h, kind, e) = absurd (omega (arith, kind))
begin_behind v payload rest skeleton hs is (Announcement, h, kind, e) = absurd (omega (arith, kind))

pub put_behind : (v : Version) (payload : List ℕ) → IsPayload v 2 payload
    → (entries : List Entry) × AllByRecursion IsEntryOfFeed entries × (length entries < 2 ^ 16) × (payload ≡ u16_bytes (length entries) ++ flat_map entry_bytes entries)
put_behind v payload (RecordItem (CommandOf (PutOf put)), h, kind, e) = (put.entries, command_entries v put h.0 h.1, h.1.0, sym e)
put_behind v payload (RecordItem (CommandOf (BeginOf begin)), h, kind, e) = absurd (omega (arith, kind))
put_behind v payload (RecordItem (CommandOf (EndOf serial)), h, kind, e) = absurd (omega (arith, kind))
put_behind v payload (RecordItem Flush, h, kind, e) = absurd (omega (arith, kind))
put_behind v payload (Announcement, h, kind, e) = absurd (omega (arith, kind))

-- their number, and then each of them, up to the end
abbrev pub Counted : {X : Type 0} → (X → Type 0) → (X → List ℕ) → List ℕ → Type 0
Counted {X} Is spell bytes = (xs : List X) × AllByRecursion Is xs × (length xs < 2 ^ 16) × (bytes ≡ u16_bytes (length xs) ++ flat_map spell xs)

pub counted_long : {X : Type 0} (Is : X → Type 0) (spell : X → List ℕ) (bytes : List ℕ) → Counted Is spell bytes → 2 ≤ length bytes
counted_long Is spell bytes (xs, all, fits, e) = each_long Is spell bytes [] xs (e ∙ sym (append-nil (u16_bytes (length xs) ++ flat_map spell xs)))

pub counted_short : {X : Type 0} (Is : X → Type 0) (spell : X → List ℕ) (bytes : List ℕ) → length bytes < 2 → ¬ Counted Is spell bytes
counted_short Is spell bytes l counted = let long = counted_long Is spell bytes counted in omega (arith, l, long)

pub counted_stand : {X : Type 0} (Is : X → Type 0) (spell : X → List ℕ) (bytes rest : List ℕ) (n : ℕ) → n < 2 ^ 16 → bytes ≡ u16_bytes n ++ rest → Counted Is spell bytes
    → Begins (AreMany Is n) (flat_map spell) rest []
counted_stand Is spell bytes rest n small is (xs, all, fits, e) =
    each_stand Is spell bytes [] xs (e ∙ sym (append-nil (u16_bytes (length xs) ++ flat_map spell xs))) rest n small is fits all

pub counted_cut : {X : Type 0} (Is : X → Type 0) (spell : X → List ℕ) (bytes rest : List ℕ) (n : ℕ) → n < 2 ^ 16 → bytes ≡ u16_bytes n ++ rest
    → BeginsNone (AreMany Is n) (flat_map spell) rest → ¬ Counted Is spell bytes
counted_cut Is spell bytes rest n small is none counted =
    let (xs, many, e) = counted_stand Is spell bytes rest n small is counted in
    none xs [] many e

pub counted_whole : {X : Type 0} (Is : X → Type 0) (spell : X → List ℕ) → PrefixFree Is spell → (bytes rest more : List ℕ) (n : ℕ) → n < 2 ^ 16 → bytes ≡ u16_bytes n ++ rest
    → Begins (AreMany Is n) (flat_map spell) rest more → Counted Is spell bytes → more ≡ []
counted_whole Is spell free bytes rest more n small is some counted =
    let (xs, many, e) = counted_stand Is spell bytes rest n small is counted in
    let lists = same_many Is spell free n some.0 xs more [] some.1 many (sym some.2 ∙ e) in
    lists.1

pub counted_found : {X : Type 0} (Is : X → Type 0) (spell : X → List ℕ) (bytes rest : List ℕ) (n : ℕ) (xs : List X) → bytes ≡ u16_bytes n ++ rest
    → AreMany Is n xs → rest ≡ flat_map spell xs → bytes ≡ u16_bytes (length xs) ++ flat_map spell xs
counted_found Is spell bytes rest n xs is many e = is ∙ ap (λ l. u16_bytes n ++ l) e ∙ ap (λ k. u16_bytes k ++ flat_map spell xs) (sym many.0)

-- what was made of these parts is what the payload spells
pub put_spelled : (v : Version) (payload : List ℕ) (n : ℕ) (entries : List Entry) → n < 2 ^ 16 → AreMany IsEntryOfFeed n entries → payload ≡ u16_bytes (length entries) ++ flat_map entry_bytes entries
    → SpellsCommand v payload (PutOf (record { entries = entries }))
put_spelled v payload n entries small many e = record {
  held = (
    all_as IsEntryOfFeed IsEntry (λ p h. h.numbers) entries many.1,
    (omega (arith, many.0, small), all_as IsEntryOfFeed FitsEntry (λ p h. h.fits) entries many.1),
  );
  kind_is = refl;
  payload_is = sym e;
}

pub begin_spelled : (v : Version) (payload rest : List ℕ) (n : ℕ) (skeleton : Option SkeletonHead) (streams : List NewStream) → n < 2 ^ 16 → IsSkeleton skeleton → payload ≡ skeleton_bytes skeleton ++ rest
    → AreMany (IsStreamOfFeed v) n streams → rest ≡ u16_bytes (length streams) ++ flat_map (stream_bytes v) streams
    → SpellsCommand v payload (BeginOf (record { skeleton = skeleton; streams = streams }))
begin_spelled v payload rest n skeleton streams small hs is many e = record {
  held = (
    (hs, all_as (IsStreamOfFeed v) IsNewStream (λ p h. h.numbers) streams many.1),
    (omega (arith, many.0, small), all_as (IsStreamOfFeed v) (FitsStream v) (λ p h. h.fits) streams many.1),
  );
  kind_is = refl;
  payload_is = sym (is ∙ ap (λ l. skeleton_bytes skeleton ++ l) e);
}

-- so it is a payload
is_spelled : (v : Version) (kind : ℕ) (payload : List ℕ) (item : Item) → Spells v kind payload item → IsPayload v kind payload
is_spelled v kind payload item spells = (item, spells.held, spells.kind_is, spells.payload_is)

pub put_found : (v : Version) (payload : List ℕ) (n : ℕ) (entries : List Entry) → n < 2 ^ 16 → AreMany IsEntryOfFeed n entries → payload ≡ u16_bytes (length entries) ++ flat_map entry_bytes entries
    → IsPayload v 2 payload
put_found v payload n entries small many e =
    is_spelled v 2 payload (RecordItem (CommandOf (PutOf (record { entries = entries })))) (put_spelled v payload n entries small many e)

pub begin_found : (v : Version) (payload rest : List ℕ) (n : ℕ) (skeleton : Option SkeletonHead) (streams : List NewStream) → n < 2 ^ 16 → IsSkeleton skeleton → payload ≡ skeleton_bytes skeleton ++ rest
    → AreMany (IsStreamOfFeed v) n streams → rest ≡ u16_bytes (length streams) ++ flat_map (stream_bytes v) streams → IsPayload v 1 payload
begin_found v payload rest n skeleton streams small hs is many e =
    is_spelled v 1 payload (RecordItem (CommandOf (BeginOf (record { skeleton = skeleton; streams = streams })))) (begin_spelled v payload rest n skeleton streams small hs is many e)

pub end_found : (v : Version) (payload : List ℕ) → length payload ≡ 4 → AllByRecursion IsByte payload → IsPayload v 3 payload
end_found v payload l all =
    let serial = read_u32 payload l all in
    (RecordItem (CommandOf (EndOf serial.0)), (serial.1, tt), refl, serial.2)

pub end_behind : (v : Version) (payload : List ℕ) → IsPayload v 3 payload → length payload ≡ 4
end_behind v payload (RecordItem (CommandOf (BeginOf begin)), h, kind, e) = absurd (omega (arith, kind))
end_behind v payload (RecordItem (CommandOf (PutOf put)), h, kind, e) = absurd (omega (arith, kind))
end_behind v payload (RecordItem (CommandOf (EndOf serial)), h, kind, e) = ap length (sym e) ∙ length-u32_bytes serial
end_behind v payload (RecordItem Flush, h, kind, e) = absurd (omega (arith, kind))
end_behind v payload (Announcement, h, kind, e) = absurd (omega (arith, kind))

pub flush_behind : (v : Version) (payload : List ℕ) → IsPayload v 4 payload → payload ≡ []
flush_behind v payload (RecordItem (CommandOf (BeginOf begin)), h, kind, e) = absurd (omega (arith, kind))
flush_behind v payload (RecordItem (CommandOf (PutOf put)), h, kind, e) = absurd (omega (arith, kind))
flush_behind v payload (RecordItem (CommandOf (EndOf serial)), h, kind, e) = absurd (omega (arith, kind))
flush_behind v payload (RecordItem Flush, h, kind, e) = sym e
flush_behind v payload (Announcement, h, kind, e) = absurd (omega (arith, kind))

pub is_nothing : (xs : List ℕ) (b : Bool) → b ≡ (length xs == 0) → IsTrue b → xs ≡ []
is_nothing [] b e t = refl
is_nothing (x ∷ xs) b e t = absurd (omega (arith, eqb-true (length (x ∷ xs)) 0 (sym e ∙ t)))

pub nothing_is : (xs : List ℕ) (b : Bool) → b ≡ (length xs == 0) → xs ≡ [] → IsTrue b
nothing_is xs b e none = e ∙ ap (λ l. length l == 0) none
