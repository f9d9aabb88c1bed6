-- A packet that goes on from page to page.
use Rattle.std.proofs.Common.{◌≡◌, ◌≢◌, ℕ, ◌+◌, ◌-◌, ◌≤◌, Bool, true, false, List, [], ◌∷◌, ◌++◌, length, take, refl, sym, ◌∙◌, ap, arith, append_assoc, length-append, append-nil}
use Rattle.std.specs.Prelude.{nat_eq, if◌then◌else◌}
use Rattle.std.specs.List.{AllByRecursion}
use Rattle.std.proofs.lemmas.Grind.{flat_map-append}
use Rattle.std.proofs.lemmas.List.{take_at, length-take}
use Rattle.ogg_page.specs.Page.{Page, IsPage, page_bytes, page_size, bytes_of_pages}
use Rattle.ogg_page.specs.Pages.{FoundPage, found_in, located}
use Rattle.ogg_page.specs.Laws.ReadAgain.{length-page_bytes}
use Rattle.ogg_page.specs.Laws.Found.{found-nothing, found-pages}
use Rattle.packet_view.specs.Packets.{Part, PacketParts, PacketsLeft, with_part, joined_parts, is_some_part, body_place, after_packets, packets_from}
use Rattle.packet_view.specs.Front.{front_size, packets_left, parts_left, position_behind, EndsPacket, GoesOnBehind}
use Rattle.packet_view.specs.Walking.{packets_at, parts_in, IsPlaceWith, Reaches}
use Rattle.packet_view.specs.Packet.{parts_of}
use Rattle.packet_view.specs.declared.place.Behind.{Behind}
use Rattle.packet_view.specs.declared.place.Place.{Place}
use Rattle.packet_view.specs.declared.unread.Unread.{Unread}
use Rattle.ogg_page.specs.PageLaws.{pages_both}

-- ---- parts

with_part-append : (parts : List Part) (place : ℕ) (bytes : List ℕ) → with_part parts place bytes ≡ parts ++ with_part [] place bytes
with_part-append parts place [] = sym (append-nil parts)
with_part-append parts place (byte ∷ bytes) = refl

pub joined-with_part : (parts : List Part) (place : ℕ) (bytes : List ℕ) → joined_parts (with_part parts place bytes) ≡ joined_parts parts ++ bytes
joined-with_part parts place [] = sym (append-nil (joined_parts parts))
joined-with_part parts place (byte ∷ bytes) =
    flat_map-append (λ (part : Part). part.bytes) parts (record { place = place; bytes = byte ∷ bytes } ∷ [])
    ∙ ap (λ l. joined_parts parts ++ l) (append-nil (byte ∷ bytes))

pub some_first : (place : ℕ) (first : List ℕ) (more : List Part) → first ≢ [] → is_some_part (with_part [] place first ++ more) ≡ true
some_first place [] more some = absurd (some refl)
some_first place (byte ∷ first) more some = refl

-- ---- pages

pub with_more : (b : Bool) (part before behind : List Part) → (if b then part ++ (before ++ behind) else before ++ behind) ≡ (if b then part ++ before else before) ++ behind
with_more true part before behind = sym (append_assoc part before behind)
with_more false part before behind = refl

parts_append : (serial start : ℕ) (a b : List Page) →
    parts_in serial (located start (a ++ b)) ≡ parts_in serial (located start a) ++ parts_in serial (located (start + length (bytes_of_pages a)) b)
unfolding parts_in
parts_append serial start [] b = ap (λ n. parts_in serial (located n b)) (let none : start ≡ start + 0 = omega arith in none)
parts_append serial start (p ∷ a) b =
    let place : (start + page_size p) + length (bytes_of_pages a) ≡ start + length (page_bytes p ++ bytes_of_pages a) =
    omega (arith, length-append (page_bytes p) (bytes_of_pages a), length-page_bytes p) in
    let first : List Part = with_part [] (body_place start p) (take (front_size p.lacing) p.body) in
    let before : List Part = parts_in serial (located (start + page_size p) a) in
    ap (λ l. if nat_eq p.serial serial then first ++ l else l) (parts_append serial (start + page_size p) a b)
    ∙ with_more (nat_eq p.serial serial) first before (parts_in serial (located ((start + page_size p) + length (bytes_of_pages a)) b))
    ∙ ap (λ n. (if nat_eq p.serial serial then first ++ before else before) ++ parts_in serial (located n b)) place

-- the parts in bytes that are whole pages
pub parts-pages : (serial offset : ℕ) (pages : List Page) (bytes : List ℕ) → AllByRecursion IsPage pages → bytes ≡ bytes_of_pages pages →
    parts_in serial (found_in offset bytes) ≡ parts_in serial (located offset pages)
parts-pages serial offset pages bytes are e =
    ap (λ l. parts_in serial (found_in offset l)) (e ∙ sym (append-nil (bytes_of_pages pages)))
    ∙ ap (parts_in serial) (found-pages offset pages [] are ∙ ap (λ l. located offset pages ++ l) (found-nothing (offset + length (bytes_of_pages pages))) ∙ append-nil (located offset pages))

-- ---- a packet that is unfinished

abbrev pub opened : ℕ → Place → List ℕ → List Page → List Part
opened serial from first pages = with_part [] from.unread.place first ++ parts_in serial (located from.offset pages)

-- the pages up to this place have these parts of it
pub record Opened (serial : ℕ) (from place : Place) (first : List ℕ) (len : ℕ) : Type 0 where
  pub pages : List Page
  pub are_pages : AllByRecursion IsPage pages
  pub joined : from.rest.now ≡ bytes_of_pages pages ++ place.rest.now
  pub size : place.offset ≡ from.offset + length (bytes_of_pages pages)
  pub same : packets_from serial from.behind (with_part [] from.unread.place first) (found_in from.offset from.rest.now)
      ≡ packets_from serial place.behind (opened serial from first pages) (found_in place.offset place.rest.now)
  pub counted : len ≡ length (joined_parts (opened serial from first pages))
  pub fits : from.unread.place + len ≤ place.offset

pub opens : (serial : ℕ) (from : Place) (first : List ℕ) → from.unread.place + length first ≤ from.offset → Opened serial from from first (length first)
unfolding parts_in
opens serial from first fits =
    let none : with_part [] from.unread.place first ++ [] ≡ with_part [] from.unread.place first = append-nil (with_part [] from.unread.place first) in
    record {
      pages = [];
      are_pages = tt;
      joined = refl;
      size = omega arith;
      same = ap (λ l. packets_from serial from.behind l (found_in from.offset from.rest.now)) (sym none);
      counted = sym (ap (λ l. length (joined_parts l)) none ∙ ap length (joined-with_part [] from.unread.place first));
      fits = fits;
    }

-- the pages up to the stream's next page, and the part in that page
pub record Grown (serial : ℕ) (from next : Place) (first piece : List ℕ) (parts : List Part) : Type 0 where
  pub pages : List Page
  pub are_pages : AllByRecursion IsPage pages
  pub joined : from.rest.now ≡ bytes_of_pages pages ++ next.rest.now
  pub size : next.offset ≡ from.offset + length (bytes_of_pages pages)
  pub parts_are : opened serial from first pages ≡ with_part parts next.unread.place piece

pub grows : (serial : ℕ) (from place next : Place) (first piece : List ℕ) (len : ℕ) (so_far : Opened serial from place first len) → Reaches serial place.offset place.rest.now next →
    piece ≡ take (front_size next.unread.lacing.now) next.unread.body.now → Grown serial from next first piece (opened serial from first so_far.pages)
grows serial from place next first piece len so_far reach front =
    let bytes : bytes_of_pages (so_far.pages ++ reach.pages) ≡ bytes_of_pages so_far.pages ++ bytes_of_pages reach.pages = flat_map-append page_bytes so_far.pages reach.pages in
    let before : List Part = opened serial from first so_far.pages in
    record {
      pages = so_far.pages ++ reach.pages;
      are_pages = pages_both so_far.pages reach.pages so_far.are_pages reach.are_pages;
      joined = so_far.joined ∙ ap (λ l. bytes_of_pages so_far.pages ++ l) reach.joined ∙ sym (append_assoc (bytes_of_pages so_far.pages) (bytes_of_pages reach.pages) next.rest.now) ∙ ap (λ l. l ++ next.rest.now) (sym bytes);
      size = omega (arith, so_far.size, reach.size, ap length bytes, length-append (bytes_of_pages so_far.pages) (bytes_of_pages reach.pages));
      parts_are =
          ap (λ l. with_part [] from.unread.place first ++ l) (parts_append serial from.offset so_far.pages reach.pages)
          ∙ sym (append_assoc (with_part [] from.unread.place first) (parts_in serial (located from.offset so_far.pages)) (parts_in serial (located (from.offset + length (bytes_of_pages so_far.pages)) reach.pages)))
          ∙ ap (λ n. before ++ parts_in serial (located n reach.pages)) (sym so_far.size)
          ∙ ap (λ l. before ++ l) reach.parts
          ∙ ap (λ l. before ++ with_part [] next.unread.place l) (sym front)
          ∙ sym (with_part-append before next.unread.place piece);
    }

pub counted_more : (serial : ℕ) (from place next : Place) (first piece : List ℕ) (len : ℕ) (so_far : Opened serial from place first len) (g : Grown serial from next first piece (opened serial from first so_far.pages)) →
    len + length piece ≡ length (joined_parts (opened serial from first g.pages))
counted_more serial from place next first piece len so_far g =
    sym (ap (λ l. length (joined_parts l)) g.parts_are ∙ ap length (joined-with_part (opened serial from first so_far.pages) next.unread.place piece)
    ∙ length-append (joined_parts (opened serial from first so_far.pages)) piece ∙ ap (λ n. n + length piece) (sym so_far.counted))

-- the packet goes on after the next page
pub goes_on : (serial : ℕ) (from place next : Place) (first piece : List ℕ) (len : ℕ) (so_far : Opened serial from place first len) → Reaches serial place.offset place.rest.now next →
    GoesOnBehind next.unread piece → packets_from serial place.behind (opened serial from first so_far.pages) (found_in place.offset place.rest.now) ≡ packets_at serial next (opened serial from first so_far.pages) →
    Opened serial from next first (len + length piece)
goes_on serial from place next first piece len so_far reach on leads =
    let g : Grown serial from next first piece (opened serial from first so_far.pages) = grows serial from place next first piece len so_far reach on.front in
    let before : List Part = opened serial from first so_far.pages in
    record {
      pages = g.pages;
      are_pages = g.are_pages;
      joined = g.joined;
      size = g.size;
      same = so_far.same ∙ leads
          ∙ ap (λ l. after_packets l (packets_from serial next.behind (parts_left next.unread before) (found_in next.offset next.rest.now))) (on.packets before)
          ∙ ap (λ l. packets_from serial next.behind l (found_in next.offset next.rest.now)) (on.behind before ∙ sym g.parts_are);
      counted = counted_more serial from place next first piece len so_far g;
      fits = omega (arith, so_far.fits, reach.later, next.before, ap length on.front, length-take (front_size next.unread.lacing.now) next.unread.body.now);
    }

abbrev ended_packet : List Part → Unread → PacketParts
ended_packet parts left = record { parts = parts; position = position_behind left }

-- the packets from a place with these parts on
abbrev packets_with : ℕ → Behind → Unread → ℕ → List ℕ → PacketsLeft
packets_with serial behind unread offset rest = after_packets (packets_left unread []) (packets_from serial behind (parts_left unread []) (found_in offset rest))

new_place : (serial : ℕ) (place new : Place) (left : Unread) → IsPlaceWith place left new → packets_at serial new [] ≡ packets_with serial place.behind left place.offset place.rest.now
new_place serial place new left with =
    ap (λ b. packets_with serial b new.unread new.offset new.rest.now) with.behind
    ∙ ap (λ u. packets_with serial place.behind u new.offset new.rest.now) with.unread
    ∙ ap (λ o. packets_with serial place.behind left o new.rest.now) with.offset
    ∙ ap (λ r. packets_with serial place.behind left place.offset r.now) with.rest

-- the packet ends in the next page
pub ends : (serial : ℕ) (from place next new : Place) (first piece more : List ℕ) (len : ℕ) (left : Unread) (so_far : Opened serial from place first len) (g : Grown serial from next first piece (opened serial from first so_far.pages)) →
    EndsPacket next.unread piece left → IsPlaceWith next left new → more ≡ bytes_of_pages g.pages →
    packets_from serial place.behind (opened serial from first so_far.pages) (found_in place.offset place.rest.now) ≡ packets_at serial next (opened serial from first so_far.pages) →
    packets_from serial from.behind (with_part [] from.unread.place first) (found_in from.offset from.rest.now)
    ≡ after_packets (record { parts = parts_of from.unread.place first serial from.offset more; position = position_behind left } ∷ []) (packets_at serial new [])
ends serial from place next new first piece more len left so_far g end with e leads =
    let before : List Part = opened serial from first so_far.pages in
    let found : List FoundPage = found_in next.offset next.rest.now in
    let parts_are : with_part before next.unread.place piece ≡ parts_of from.unread.place first serial from.offset more =
    sym g.parts_are ∙ ap (λ l. with_part [] from.unread.place first ++ l) (sym (parts-pages serial from.offset g.pages more g.are_pages e)) in
    so_far.same ∙ leads
    ∙ ap (λ l. after_packets l (packets_from serial next.behind (parts_left next.unread before) found)) (end.packets before)
    ∙ ap (λ l. after_packets (ended_packet (with_part before next.unread.place piece) left ∷ packets_left left []) (packets_from serial next.behind l found)) (end.behind before)
    ∙ ap (λ l. after_packets (ended_packet l left ∷ []) (packets_with serial next.behind left next.offset next.rest.now)) parts_are
    ∙ ap (after_packets (ended_packet (parts_of from.unread.place first serial from.offset more) left ∷ [])) (sym (new_place serial next new left with))

-- no pages, no parts
pub no_parts : (place : ℕ) (first : List ℕ) (serial offset : ℕ) (more : List ℕ) → more ≡ [] → parts_of place first serial offset more ≡ with_part [] place first
unfolding parts_in
no_parts place first serial offset more e =
    ap (λ l. with_part [] place first ++ parts_in serial (found_in offset l)) e
    ∙ ap (λ l. with_part [] place first ++ parts_in serial l) (found-nothing offset)
    ∙ append-nil (with_part [] place first)

-- the pages after the one in which the packet begins, up to the one in which it ends
pub pages_between : (serial : ℕ) (from next : Place) (first piece : List ℕ) (parts : List Part) (g : Grown serial from next first piece parts) (more : List ℕ) →
    more ≡ take (length from.rest.now - length next.rest.now) from.rest.now → more ≡ bytes_of_pages g.pages
pages_between serial from next first piece parts g more e =
    let size : length (bytes_of_pages g.pages) ≡ length from.rest.now - length next.rest.now = omega (arith, ap length g.joined, length-append (bytes_of_pages g.pages) next.rest.now) in
    e ∙ ap (take (length from.rest.now - length next.rest.now)) g.joined ∙ take_at (bytes_of_pages g.pages) next.rest.now (length from.rest.now - length next.rest.now) size

pub packet_parts : (serial : ℕ) (from : Place) (first : List ℕ) (pages : List Page) (more : List ℕ) → AllByRecursion IsPage pages → more ≡ bytes_of_pages pages →
    opened serial from first pages ≡ parts_of from.unread.place first serial from.offset more
packet_parts serial from first pages more are e = ap (λ l. with_part [] from.unread.place first ++ l) (sym (parts-pages serial from.offset pages more are e))

-- no packet is unfinished after a page without lacing values
pub closed : (serial : ℕ) (place : Place) (piece : List ℕ) → GoesOnBehind place.unread piece → piece ≡ [] →
    packets_at serial place [] ≡ packets_from serial place.behind [] (found_in place.offset place.rest.now)
closed serial place piece on e =
    ap (λ l. after_packets l (packets_from serial place.behind (parts_left place.unread []) (found_in place.offset place.rest.now))) (on.packets [])
    ∙ ap (λ l. packets_from serial place.behind l (found_in place.offset place.rest.now)) (on.behind [] ∙ ap (with_part [] place.unread.place) e)
