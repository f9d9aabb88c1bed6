-- What reading a record says of the reader's bytes.
use Rattle.std.proofs.Common.{◌≡◌, ◌≢◌, ℕ, ◌+◌, ◌<◌, ◌≤◌, List, [], ◌∷◌, ◌++◌, ◌⊎◌, inl, inr, length, refl, sym, ap, ◌∙◌, subst, arith, append_assoc, append-nil, length-append, Bool, Option, None, Some, true, false}
use Rattle.std.specs.Prelude.{nat_lt, Result, Ok, Err, IfOk, IfErr, IfSome, IfNone, if◌then◌else◌, drop}
use Rattle.std.proofs.lemmas.Bool.{lt-ltb, le-ltb}
use Rattle.std.proofs.lemmas.List.{drop_at}
use Rattle.std.specs.Io.KnownBytes.{Consumes, Keeps, IsAtEnd, prepend_known}
use Rattle.std.specs.Io.BufRead.{DropsConsumable}
use Rattle.std.proofs.KnownBytes.{Consumes-nil, Consumes-trans}
use Rattle.ogg_command.specs.declared.command.Command.TheVariants.{Begin as BeginOf, Put as PutOf, End as EndOf}
use Rattle.ogg_page.specs.Numbers.{u32_bytes}
use Rattle.feed_records.specs.declared.version.Version.{Version}
use Rattle.feed_records.specs.declared.version.Version.TheVariants.{One, Two}
use Rattle.feed_records.specs.declared.item.Record.{Record as RecordOf}
use Rattle.feed_records.specs.declared.item.Record.TheVariants.{Command as CommandOf, Flush}
use Rattle.feed_records.specs.declared.item.Item.{Item}
use Rattle.feed_records.specs.declared.item.Item.TheVariants.{Announcement, Record as RecordItem}
use Rattle.feed_records.specs.Record.{HasItem, HasRecord, announcement, item_bytes, kind_in, most_payload, payload_in, record_of}
use Rattle.feed_codec.specs.RecordKind.{number_of}
use Rattle.feed_codec.specs.Room.{FeedRoom}
use Rattle.feed_codec.specs.Building.{Makes, Spells}
use Rattle.feed_codec.specs.Feed.{Continues, FeedState, GivesEnd, GivesRecord, HasFault, HasFaultAt, HasItemFault, TakesHead, TakesItemPart, TakesWhereMemoryEnds, front_of, head_fault, is_kind, payload_length}
use Rattle.feed_codec.specs.Reading.{BeginsWithPut, HasHeadFault, HasPayload, IsHead, IsShort, head_bytes, put_head}
use Rattle.feed_codec.specs.Payload.{IsItem, IsPayload}
use Rattle.feed_codec.specs.declared.head.Head.{Head}
use Rattle.feed_codec.specs.declared.head.RecordKind.{RecordKind}
use Rattle.feed_codec.specs.declared.head.RecordKind.TheVariants.{Announcement as AnnouncementKind, Begin, Put, End, Flush as FlushKind}
use Rattle.feed_replies.specs.declared.fault.FeedFault.{FeedFault}
use Rattle.feed_replies.specs.declared.fault.FeedFault.TheVariants.{Truncated, Form, Read, Memory}
use Rattle.ogg_page.specs.Laws.Prefixes.{same_fronts}
use Rattle.ogg_page.specs.Laws.NumberBytes.{same_u32, length-u32_bytes}
use Rattle.feed_codec.proofs.HeadFacts.{head_is_fine, length_field}
use Rattle.feed_codec.proofs.Spellings.{is_item, payload_fits}

kind_with : (item : Item) → (kind : RecordKind) × (number_of kind ≡ kind_in item)
kind_with Announcement = (AnnouncementKind, refl)
kind_with (RecordItem (CommandOf (BeginOf begin))) = (Begin, refl)
kind_with (RecordItem (CommandOf (PutOf put))) = (Put, refl)
kind_with (RecordItem (CommandOf (EndOf serial))) = (End, refl)
kind_with (RecordItem Flush) = (FlushKind, refl)

-- an item that may stand there has a kind that may stand there
kind_allowed : (first : Bool) (v : Version) (item : Item) → HasItem first v item → is_kind first (kind_in item) ≡ true
kind_allowed true v Announcement h = refl
kind_allowed false v Announcement h = cc h
kind_allowed true v (RecordItem (CommandOf (BeginOf begin))) h = refl
kind_allowed true v (RecordItem (CommandOf (PutOf put))) h = refl
kind_allowed true v (RecordItem (CommandOf (EndOf serial))) h = refl
kind_allowed true v (RecordItem Flush) h = refl
kind_allowed false v (RecordItem (CommandOf (BeginOf begin))) h = refl
kind_allowed false v (RecordItem (CommandOf (PutOf put))) h = refl
kind_allowed false v (RecordItem (CommandOf (EndOf serial))) h = refl
kind_allowed false v (RecordItem Flush) h = refl

-- an item in its three parts, with what follows
record_parts : (v : Version) (item : Item) (rest : List ℕ) → item_bytes v item ++ rest ≡ kind_in item ∷ (u32_bytes (length (payload_in v item)) ++ (payload_in v item ++ rest))
unfolding item_bytes
record_parts v item rest = ap (λ l. kind_in item ∷ l) (append_assoc (u32_bytes (length (payload_in v item))) (payload_in v item) rest)

record_is_fine : (first : Bool) (v : Version) (item : Item) (rest : List ℕ) → HasItem first v item → head_fault first (item_bytes v item ++ rest) ≡ None
record_is_fine first v item rest h =
    let (kind, named) = kind_with item in
    ap (head_fault first) (record_parts v item rest ∙ ap (λ k. k ∷ (u32_bytes (length (payload_in v item)) ++ (payload_in v item ++ rest))) (sym named))
    ∙ head_is_fine first kind (length (payload_in v item)) (payload_in v item ++ rest) (ap (is_kind first) named ∙ kind_allowed first v item h) (payload_fits first v item h)

pub fault_of_head : (first : Bool) (v : Version) (known : Option (List ℕ)) (fault : FeedFault) → HasHeadFault first known fault → HasItemFault first v known fault
fault_of_head first v None fault h = tt
fault_of_head first v (Some bytes) fault (some, found) = (
  some,
  λ item rest h e. let fine = record_is_fine first v item rest h in let both = sym found ∙ ap (head_fault first) e ∙ fine in cc both,
  rw found refl,
)

-- the record that begins these bytes has this head
record_at : (first : Bool) (v : Version) (kind : RecordKind) (n : ℕ) (behind : List ℕ) (item : Item) (rest : List ℕ) → n ≤ most_payload → HasItem first v item
    → number_of kind ∷ (u32_bytes n ++ behind) ≡ item_bytes v item ++ rest → (kind_in item ≡ number_of kind) × (n ≡ length (payload_in v item)) × (behind ≡ payload_in v item ++ rest)
record_at first v kind n behind item rest fits h e =
    let whole = e ∙ record_parts v item rest in
    let kinds : number_of kind ≡ kind_in item = cc whole in
    let tails : u32_bytes n ++ behind ≡ u32_bytes (length (payload_in v item)) ++ (payload_in v item ++ rest) = cc whole in
    let sizes = same_u32 n (length (payload_in v item)) behind (payload_in v item ++ rest) (omega (arith, fits)) (omega (arith, payload_fits first v item h)) tails in
    (sym kinds, sizes.0, sizes.1)

short_record : (first : Bool) (v : Version) (kind : RecordKind) (n : ℕ) (behind : List ℕ) → is_kind first (number_of kind) ≡ true → n ≤ most_payload → length behind < n → HasFaultAt first v (number_of kind ∷ (u32_bytes n ++ behind)) Truncated
short_record first v kind n behind named fits short =
    let bytes : List ℕ = number_of kind ∷ (u32_bytes n ++ behind) in
    let fine : head_fault first bytes ≡ None = head_is_fine first kind n behind named fits in
    let size : payload_length bytes ≡ n = length_field (number_of kind) n behind (omega (arith, fits)) in
    let cut : nat_lt (length bytes) (5 + payload_length bytes) ≡ true =
    lt-ltb (length bytes) (5 + payload_length bytes) (omega (arith, size, short, length-append (u32_bytes n) behind, length-u32_bytes n)) in (
      (λ e. cc e),
      (λ item rest h e. let found = record_at first v kind n behind item rest fits h e in omega (arith, short, found.1, ap length found.2, length-append (payload_in v item) rest)),
      rw (fine, cut) refl,
    )

bad_record : (first : Bool) (v : Version) (kind : RecordKind) (n : ℕ) (payload more : List ℕ) → is_kind first (number_of kind) ≡ true → n ≤ most_payload → length payload ≡ n → ¬ IsPayload v (number_of kind) payload
    → HasFaultAt first v (number_of kind ∷ (u32_bytes n ++ (payload ++ more))) Form
bad_record first v kind n payload more named fits whole bad =
    let bytes : List ℕ = number_of kind ∷ (u32_bytes n ++ (payload ++ more)) in
    let fine : head_fault first bytes ≡ None = head_is_fine first kind n (payload ++ more) named fits in
    let size : payload_length bytes ≡ n = length_field (number_of kind) n (payload ++ more) (omega (arith, fits)) in
    let long : nat_lt (length bytes) (5 + payload_length bytes) ≡ false =
    le-ltb (length bytes) (5 + payload_length bytes) (omega (arith, size, whole, length-append (u32_bytes n) (payload ++ more), length-append payload more, length-u32_bytes n)) in (
      (λ e. cc e),
      (λ item rest h e.
          let found = record_at first v kind n (payload ++ more) item rest fits h e in
          let same = same_fronts payload (payload_in v item) more rest (whole ∙ found.1) found.2 in
          bad (item, is_item first v item h, found.0, sym same.0)),
      rw (fine, long) refl,
    )

short_payload : (first : Bool) (v : Version) (old new : Option (List ℕ)) (head : Head) → IsHead first head → Consumes old new (head_bytes head) → IsShort new head.length → HasItemFault first v old Truncated
short_payload first v None new head is c short = tt
short_payload first v (Some bytes) None head is c short = absurd c
short_payload first v (Some bytes) (Some behind) head is c short =
    subst (λ l. HasFaultAt first v l Truncated) (sym c) (short_record first v head.kind head.length behind is.kind is.fits short)

pub bad_payload : (first : Bool) (v : Version) (old mid new : Option (List ℕ)) (head : Head) (payload : List ℕ) → IsHead first head → Consumes old mid (head_bytes head) → Consumes mid new payload
    → length payload ≡ head.length → ¬ IsPayload v (number_of head.kind) payload → HasItemFault first v old Form
bad_payload first v None mid new head payload is c d whole bad = tt
bad_payload first v (Some bytes) None new head payload is c d whole bad = absurd c
bad_payload first v (Some bytes) (Some behind) None head payload is c d whole bad = absurd d
bad_payload first v (Some bytes) (Some behind) (Some more) head payload is c d whole bad =
    subst (λ l. HasFaultAt first v l Form) (sym (c ∙ ap (λ l. head_bytes head ++ l) d)) (bad_record first v head.kind head.length payload more is.kind is.fits whole bad)

-- an item that was read may stand at its place
has_item : (first : Bool) (v : Version) (item : Item) (kind : RecordKind) → is_kind first (number_of kind) ≡ true → kind_in item ≡ number_of kind → IsItem v item → length (payload_in v item) ≤ most_payload
    → HasItem first v item
has_item true v Announcement kind named same is fits = refl
has_item false v Announcement kind named same is fits = cc (named, same)
has_item first v (RecordItem (CommandOf command)) kind named same is fits = record { numbers = is.0; fits = record { fields = is.1; payload = fits } }
has_item first v (RecordItem Flush) kind named same is fits = tt

-- what the payload spells was taken with its head
item_read : (first : Bool) (v : Version) (old new : Option (List ℕ)) (head : Head) (payload : List ℕ) (item : Item) → HasPayload first v head payload → Consumes old new (head_bytes head ++ payload)
    → Spells v (number_of head.kind) payload item → HasItem first v item × Consumes old new (item_bytes v item)
unfolding item_bytes
item_read first v old new head payload item has c spells =
    let size : length (payload_in v item) ≡ head.length = ap length spells.payload_is ∙ has.whole in
    let record_is : head_bytes head ++ payload ≡ item_bytes v item =
    ap (λ k. k ∷ (u32_bytes head.length ++ payload)) (sym spells.kind_is)
    ∙ ap (λ n. kind_in item ∷ (u32_bytes n ++ payload)) (sym size)
    ∙ ap (λ l. kind_in item ∷ (u32_bytes (length (payload_in v item)) ++ l)) (sym spells.payload_is) in (
      has_item first v item head.kind has.is_head.kind spells.kind_is spells.held (omega (arith, size, has.is_head.fits)),
      subst (Consumes old new) record_is c,
    )

-- ---- what is made of a payload

-- the record that is made was read
pub record_made : (room : ℕ) (rooms : List ℕ) (first : Bool) (v : Version) (old new : Option (List ℕ)) (head : Head) (payload : List ℕ) (r : Result (Option RecordOf) FeedFault)
    → HasPayload first v head payload → Consumes old new (head_bytes head ++ payload) → Makes room rooms v (number_of head.kind) payload r
    → IfOk r (λ found. IfSome found (λ given. HasRecord v given × Consumes old new (record_of v given)))
record_made room rooms first v old new head payload (Ok None) has c made = absurd made
record_made room rooms first v old new head payload (Ok (Some given)) has c made = item_read first v old new head payload (RecordItem given) has c made
record_made room rooms first v old new head payload (Err fault) has c made = tt

-- or what it spells lacks room, and was taken
pub none_made : (room : FeedRoom) (first : Bool) (v : Version) (old new : Option (List ℕ)) (head : Head) (payload : List ℕ) (r : Result (Option RecordOf) FeedFault)
    → HasPayload first v head payload → Consumes old new (head_bytes head ++ payload) → Makes room.entries room.packets v (number_of head.kind) payload r
    → IfErr r (λ fault. fault ≡ Memory → TakesItemPart room first v old new)
none_made room first v old new head payload (Ok found) has c made = tt
none_made room first v old new head payload (Err fault) has c (memory, (item, spells, lacks)) =
    λ same. let read = item_read first v old new head payload item has c spells in inr (item, read.0, lacks, read.1)

-- there is a record, or memory was refused
pub makes_no_end : (P : Type 0) (room : ℕ) (rooms : List ℕ) (v : Version) (kind : ℕ) (payload : List ℕ) (r : Result (Option RecordOf) FeedFault) → Makes room rooms v kind payload r
    → IfOk r (λ found. IfNone found P)
makes_no_end P room rooms v kind payload (Ok None) made = absurd made
makes_no_end P room rooms v kind payload (Ok (Some given)) made = tt
makes_no_end P room rooms v kind payload (Err fault) made = tt

pub makes_no_fault : (P : FeedFault → Type 0) (room : ℕ) (rooms : List ℕ) (v : Version) (kind : ℕ) (payload : List ℕ) (r : Result (Option RecordOf) FeedFault) → Makes room rooms v kind payload r
    → IfErr r (λ fault. fault ≢ Read → fault ≢ Memory → P fault)
makes_no_fault P room rooms v kind payload (Ok found) made = tt
makes_no_fault P room rooms v kind payload (Err fault) made = λ read memory. absurd (memory made.0)

-- what spells an announcement is one
announcement_spelled : (v : Version) (payload : List ℕ) → IsPayload v 0 payload → Spells v 0 payload Announcement
announcement_spelled v payload (Announcement, held, kind, spelled) = record { held = held; kind_is = kind; payload_is = spelled }
announcement_spelled v payload (RecordItem (CommandOf (BeginOf begin)), held, kind, spelled) = absurd (omega (arith, kind))
announcement_spelled v payload (RecordItem (CommandOf (PutOf put)), held, kind, spelled) = absurd (omega (arith, kind))
announcement_spelled v payload (RecordItem (CommandOf (EndOf serial)), held, kind, spelled) = absurd (omega (arith, kind))
announcement_spelled v payload (RecordItem Flush, held, kind, spelled) = absurd (omega (arith, kind))

pub announcement_read : (first : Bool) (old new : Option (List ℕ)) (head : Head) (payload : List ℕ) → HasPayload first One head payload → head.kind ≡ AnnouncementKind
    → Consumes old new (head_bytes head ++ payload) → Consumes old new announcement
announcement_read first old new head payload has announced c =
    let number : number_of head.kind ≡ 0 = ap number_of announced in
    let spells : Spells One 0 payload Announcement = announcement_spelled One payload (subst (λ k. IsPayload One k payload) number has.spelled) in
    let read = item_read first One old new head payload Announcement has c (subst (λ k. Spells One k payload Announcement) (sym number) spells) in
    read.1

-- ---- a put at hand

-- a head of a put, and its payload after it
pub put_begins : (v : Version) (bytes front behind payload rest : List ℕ) (head : Head) → bytes ≡ front ++ behind → IsHead false head → front ≡ head_bytes head → head.kind ≡ Put
    → behind ≡ payload ++ rest → length payload ≡ head.length → IsPayload v 2 payload → BeginsWithPut v bytes payload
put_begins v bytes front behind payload rest head cut is front_is named behind_is long spelled =
    let same : front ≡ head_bytes (put_head payload) =
    front_is ∙ ap (λ k. number_of k ∷ u32_bytes head.length) named ∙ ap (λ n. 2 ∷ u32_bytes n) (sym long) in
    record {
      put = record { is_head = record { kind = refl; fits = omega (arith, long, is.fits) }; whole = refl; spelled = spelled };
      rest = rest;
      front = cut ∙ ap (λ l. l ++ behind) same ∙ ap (λ l. head_bytes (put_head payload) ++ l) behind_is ∙ sym (append_assoc (head_bytes (put_head payload)) payload rest);
    }

-- what was in the buffer of a reader and is consumed stood at its front
pub buffer_consumed : (unknown : Bool) (inner new : Option (List ℕ)) (buffer front rest : List ℕ) (n : ℕ) → buffer ≡ front ++ rest → length front ≡ n
    → DropsConsumable (if unknown then None else prepend_known buffer inner) new (Some (length buffer)) n
    → Consumes (if unknown then None else prepend_known buffer inner) new front
buffer_consumed true inner new buffer front rest n whole long drops = tt
buffer_consumed false None new buffer front rest n whole long drops = tt
buffer_consumed false (Some xs) new buffer front rest n whole long drops =
    let left : new ≡ Some (drop n (buffer ++ xs)) = drops (omega (arith, ap length whole, length-append front rest, long)) in
    let all : buffer ++ xs ≡ front ++ (rest ++ xs) = ap (λ l. l ++ xs) whole ∙ append_assoc front rest xs in
    let behind : drop n (buffer ++ xs) ≡ rest ++ xs = ap (drop n) all ∙ drop_at front (rest ++ xs) n long in
    subst (λ o. Consumes (Some (buffer ++ xs)) o front) (sym left) (all ∙ ap (λ l. front ++ l) (sym behind))

pub put_consumed : (unknown : Bool) (inner new : Option (List ℕ)) (buffer payload : List ℕ) (v : Version) (n : ℕ) → BeginsWithPut v buffer payload → n ≡ 5 + length payload
    → DropsConsumable (if unknown then None else prepend_known buffer inner) new (Some (length buffer)) n
    → Consumes (if unknown then None else prepend_known buffer inner) new (head_bytes (put_head payload) ++ payload)
put_consumed unknown inner new buffer payload v n begins whole drops =
    buffer_consumed unknown inner new buffer (head_bytes (put_head payload) ++ payload) begins.rest n begins.front
    (omega (arith, whole, length-append (u32_bytes (length payload)) payload, length-u32_bytes (length payload))) drops

-- memory was refused when a payload was to be read
no_payload : (room : ℕ) (first : Bool) (old new : Option (List ℕ)) (head : Head) → IsHead first head → Consumes old new (head_bytes head)
    → room < head.length → TakesHead room first old new
no_payload room first old new head is c short =
    let whole : number_of head.kind ∷ (u32_bytes head.length ++ []) ≡ head_bytes head = ap (λ l. number_of head.kind ∷ l) (append-nil (u32_bytes head.length)) in
    let size : payload_length (head_bytes head) ≡ head.length =
    ap payload_length (sym whole) ∙ length_field (number_of head.kind) head.length [] (omega (arith, is.fits)) in (
      head_bytes head,
      omega (arith, length-u32_bytes head.length),
      ap (λ l. head_fault first (number_of head.kind ∷ l)) (sym (append-nil (u32_bytes head.length))) ∙ head_is_fine first head.kind head.length [] is.kind is.fits,
      omega (arith, short, size),
      c,
    )

-- why a payload wasn't read
abbrev PayloadFault : FeedFault → Type 0 → Type 0 → Type 0 → Type 0
PayloadFault fault Untouched Small Short = (fault ≡ Read) ⊎ ((fault ≡ Memory) × Untouched × Small) ⊎ ((fault ≡ Truncated) × Short)

pub payload_fault : (first : Bool) (v : Version) (old mid : Option (List ℕ)) (head : Head) (fault : FeedFault) (Untouched Small : Type 0) → IsHead first head → Consumes old mid (head_bytes head)
    → fault ≢ Read → fault ≢ Memory → PayloadFault fault Untouched Small (IsShort mid head.length) → HasItemFault first v old fault
payload_fault first v old mid head fault Untouched Small is c read memory (inl same) = absurd (read same)
payload_fault first v old mid head fault Untouched Small is c read memory (inr (inl (same, stays, small))) = absurd (memory same)
payload_fault first v old mid head fault Untouched Small is c read memory (inr (inr (same, short))) = subst (HasItemFault first v old) (sym same) (short_payload first v old mid head is c short)

pub payload_memory : (room : ℕ) (first : Bool) (old mid new : Option (List ℕ)) (head : Head) (fault : FeedFault) (Untouched : Type 0) → IsHead first head
    → Consumes old mid (head_bytes head) → (Untouched → new ≡ mid) → fault ≡ Memory
    → PayloadFault fault Untouched (room < head.length) (IsShort mid head.length) → TakesHead room first old new
payload_memory room first old mid new head fault Untouched is c same memory (inl found) = let both = sym found ∙ memory in absurd (cc both)
payload_memory room first old mid new head fault Untouched is c same memory (inr (inl (found, untouched, small))) =
    no_payload room first old new head is (subst (λ m. Consumes old m (head_bytes head)) (sym (same untouched)) c) small
payload_memory room first old mid new head fault Untouched is c same memory (inr (inr (found, short))) = let both = sym found ∙ memory in absurd (cc both)

-- a feed that has read its announcement has as much room for a payload as before, or more
later_room : (was now entries : ℕ) (packets : List ℕ) (first : Bool) (v : Version) (old new : Option (List ℕ)) → was ≤ now
    → TakesItemPart (record { payload = now; entries = entries; packets = packets }) first v old new → TakesItemPart (record { payload = was; entries = entries; packets = packets }) first v old new
later_room was now entries packets first v old new grows (inl (head, long, fine, short, c)) = inl (head, long, fine, omega (arith, grows, short), c)
later_room was now entries packets first v old new grows (inr taken) = inr taken

pub memory_behind_announcement : (was now entries : ℕ) (packets : List ℕ) (before left behind : Option (List ℕ)) (r : Result (Option RecordOf) FeedFault) → Consumes before left announcement
    → was ≤ now → IfErr r (λ fault. fault ≡ Memory → TakesItemPart (record { payload = now; entries = entries; packets = packets }) false Two left behind)
    → IfErr r (λ fault. fault ≡ Memory → TakesWhereMemoryEnds (record { payload = was; entries = entries; packets = packets }) None before behind)
memory_behind_announcement was now entries packets before left behind (Ok found) read grows full = tt
memory_behind_announcement was now entries packets before left behind (Err fault) read grows full =
    λ memory. inr (left, read, later_room was now entries packets false Two left behind grows (full memory))

pub fault_behind_announcement : (before left : Option (List ℕ)) (r : Result (Option RecordOf) FeedFault) → Consumes before left announcement
    → IfErr r (λ fault. fault ≢ Read → fault ≢ Memory → HasItemFault false Two left fault)
    → IfErr r (λ fault. fault ≢ Read → fault ≢ Memory → HasFault None before fault)
fault_behind_announcement before left (Ok found) c has = tt
fault_behind_announcement None left (Err fault) c has = λ read memory. tt
fault_behind_announcement (Some bytes) None (Err fault) c has = absurd c
fault_behind_announcement (Some bytes) (Some rest) (Err fault) c has = λ read memory. inr (rest, c, has read memory)

-- ---- the answers of a feed

-- a record that was read after what stands in front of it
pub gives_behind : (known : Option Version) (v : Version) (before left behind : Option (List ℕ)) (r : Result (Option RecordOf) FeedFault) → Continues known v → Consumes before left (front_of known v)
    → IfOk r (λ found. IfSome found (λ given. HasRecord v given × Consumes left behind (record_of v given)))
    → IfOk r (λ found. IfSome found (λ given. GivesRecord known (Some v) before behind given))
gives_behind known v before left behind (Ok None) same c read = tt
gives_behind known v before left behind (Ok (Some given)) same c read =
    record { version = v; is_record = read.0; continues = same; known = refl; read = Consumes-trans before left behind (front_of known v) (record_of v given) c read.1 }
gives_behind known v before left behind (Err fault) same c read = tt

-- a record that was at hand, in a feed that is read on
pub gives_at_hand : (was now : FeedState) (v : Version) (old new : Option (List ℕ)) (r : Result (Option RecordOf) FeedFault) → was.outcome ≡ None → now.outcome ≡ None → was.version ≡ Some v → now.version ≡ Some v
    → IfOk r (λ found. IfSome found (λ given. HasRecord v given × Consumes old new (record_of v given)))
    → IfOk r (λ found. IfSome found (λ given. (was.outcome ≡ None) × (now.outcome ≡ None) × GivesRecord was.version now.version old new given))
gives_at_hand was now v old new (Ok None) going goes_on known same read = tt
gives_at_hand was now v old new (Ok (Some given)) going goes_on known same read = (
  going,
  goes_on,
  rw (known, same) (record { version = v; is_record = read.0; continues = refl; known = refl; read = read.1 }),
)
gives_at_hand was now v old new (Err fault) going goes_on known same read = tt

pub end_behind_announcement : (before left behind : Option (List ℕ)) (r : Result (Option RecordOf) FeedFault) → Consumes before left announcement
    → IfOk r (λ found. IfNone found (IsAtEnd left × Keeps left behind)) → IfOk r (λ found. IfNone found (GivesEnd None before behind))
end_behind_announcement before left behind (Ok None) c (end, kept) = record { version = Two; left = left; read = c; end = end; kept = kept }
end_behind_announcement before left behind (Ok (Some given)) c ends = tt
end_behind_announcement before left behind (Err fault) c ends = tt

pub end_here : (before behind : Option (List ℕ)) → IsAtEnd before × Keeps before behind → GivesEnd None before behind
end_here before behind (end, kept) = record { version = One; left = before; read = Consumes-nil before; end = end; kept = kept }
