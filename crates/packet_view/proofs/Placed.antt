-- The parts of a stream's packets are in the source, one after the other.
use Rattle.std.proofs.Common.{◌≡◌, ℕ, ◌+◌, ◌≤◌, ◌<◌, Bool, true, false, List, [], ◌∷◌, ◌++◌, length, take, drop, sum, refl, sym, ◌∙◌, ap, subst, arith, append_assoc, length-append, Option, Some, None, Ok, Err, Result}
use Rattle.std.specs.Prelude.{nat_eq}
use Rattle.std.specs.List.{AllByRecursion}
use Rattle.std.proofs.lemmas.Bool.{eqb-true}
use Rattle.std.proofs.lemmas.List.{drop-drop, drop_at, take-append-le, drop-append-le, length-take-le, length-drop}
use Rattle.std.proofs.lemmas.List.Concat.{flat_map-append}
use Rattle.std.proofs.lemmas.List.Sums.{sum_by-cons}
use Rattle.ogg_page.specs.Page.{Page, IsPage, AreBytes, fixed_part, page_bytes, bytes_with, bytes_of_pages, page_size}
use Rattle.page_checksum.specs.Checksum.{checksum_of}
use Rattle.ogg_page.specs.Reading.{page_at}
use Rattle.ogg_page.specs.Pages.{FoundPage, found_in, located, fault_of, fault_at}
use Rattle.ogg_page.specs.declared.fault.PageFault.{PageFault}
use Rattle.ogg_page.specs.Laws.ReadAgain.{length-page_bytes}
use Rattle.ogg_page.specs.Laws.Walk.{FoundFrom}
use Rattle.ogg_page.specs.Laws.Found.{all_found}
use Rattle.packet_view.specs.Packets.{Part, PacketParts, PacketsLeft, with_part, is_some_part, misplaced, body_place, behind_page, position_in, packets_in, parts_behind, packets_from, packets_of}
use Rattle.packet_view.specs.Placed.{IsAtItsPlace, AreInOrder, parts_of_all}
use Rattle.packet_view.specs.declared.place.Behind.{Behind}
use Rattle.packet_view.specs.declared.fault.ViewFault.{ViewFault}
use Rattle.packet_view.proofs.Fronts.{pick_false}
use Rattle.packet_view.proofs.Walks.{ended_in, begun_behind, pick_true, by_place, from-page}

-- the same, up to this place
abbrev AreInOrderUpTo : List ℕ → ℕ → List Part → ℕ → Type 0
AreInOrderUpTo source from [] to = from ≤ to
AreInOrderUpTo source from (part ∷ parts) to =
    (from ≤ part.place) × (0 < length part.bytes) × IsAtItsPlace source part × AreInOrderUpTo source (part.place + length part.bytes) parts to

from_before : (source : List ℕ) (before from to : ℕ) (parts : List Part) → before ≤ from → AreInOrderUpTo source from parts to → AreInOrderUpTo source before parts to
from_before source before from to [] le h = omega (arith, le, h)
from_before source before from to (part ∷ parts) le (a, b, c, d) = (omega (arith, le, a), b, c, d)

up_to_later : (source : List ℕ) (from to later : ℕ) (parts : List Part) → to ≤ later → AreInOrderUpTo source from parts to → AreInOrderUpTo source from parts later
up_to_later source from to later [] le h = omega (arith, le, h)
up_to_later source from to later (part ∷ parts) le (a, b, c, d) = (a, b, c, up_to_later source (part.place + length part.bytes) to later parts le d)

joined : (source : List ℕ) (from middle to : ℕ) (xs ys : List Part) → AreInOrderUpTo source from xs middle → AreInOrderUpTo source middle ys to → AreInOrderUpTo source from (xs ++ ys) to
joined source from middle to [] ys h g = from_before source from middle to ys h g
joined source from middle to (part ∷ parts) ys (a, b, c, d) g = (a, b, c, joined source (part.place + length part.bytes) middle to parts ys d g)

-- the place at which the first of these end and the others begin
record Parted (source : List ℕ) (from : ℕ) (xs ys : List Part) (to : ℕ) : Type 0 where
  pub middle : ℕ
  pub first : AreInOrderUpTo source from xs middle
  pub others : AreInOrderUpTo source middle ys to

parted : (source : List ℕ) (from to : ℕ) (xs ys : List Part) → AreInOrderUpTo source from (xs ++ ys) to → Parted source from xs ys to
parted source from to [] ys h = record { middle = from; first = omega arith; others = h }
parted source from to (part ∷ parts) ys (a, b, c, d) =
    let p : Parted source (part.place + length part.bytes) parts ys to = parted source (part.place + length part.bytes) to parts ys d in
    record { middle = p.middle; first = (a, b, c, p.first); others = p.others }

followed : (source : List ℕ) (from middle : ℕ) (xs ys : List Part) → AreInOrderUpTo source from xs middle → AreInOrder source middle ys → AreInOrder source from (xs ++ ys)
followed source from middle [] [] h g = tt
followed source from middle [] (part ∷ parts) h (a, b, c, d) = (omega (arith, h, a), b, c, d)
followed source from middle (part ∷ parts) ys (a, b, c, d) g = (a, b, c, followed source (part.place + length part.bytes) middle parts ys d g)

-- one part more
pushed : (source : List ℕ) (from place to : ℕ) (parts : List Part) (bytes : List ℕ) → AreInOrderUpTo source from parts place →
    take (length bytes) (drop place source) ≡ bytes → place + length bytes ≤ to → AreInOrderUpTo source from (with_part parts place bytes) to
pushed source from place to parts [] h at le = up_to_later source from place to parts (omega (arith, le)) h
pushed source from place to parts (byte ∷ bytes) h at le = joined source from place to parts _ h (omega arith, omega arith, at, le)

front_at : (source body behind : List ℕ) (place size : ℕ) → drop place source ≡ body ++ behind → size ≤ length body →
    take (length (take size body)) (drop place source) ≡ take size body
front_at source body behind place size at le =
    ap (λ n. take n (drop place source)) (length-take-le size body le) ∙ ap (take size) at ∙ take-append-le size body behind le

-- the parts of the packets that end in a page, and then those of the packet that goes on
abbrev all_parts : Option ℕ → List Part → ℕ → ℕ → List ℕ → List ℕ → List Part
all_parts position parts place size lacing body =
    parts_of_all (packets_in position parts place size lacing body) ++ parts_behind parts place size lacing body

in_page : (lacing : List ℕ) (source : List ℕ) (from place size : ℕ) (position : Option ℕ) (parts : List Part) (body behind : List ℕ) → drop place source ≡ body ++ behind →
    size + sum lacing ≤ length body → AreInOrderUpTo source from parts place →
    AreInOrderUpTo source from (all_parts position parts place size lacing body) (place + length body)
unfolding packets_in parts_behind
in_page [] source from place size position parts body behind at le h =
    let few : size ≤ length body = omega (arith, le) in
    pushed source from place (place + length body) parts (take size body) h (front_at source body behind place size at few) (omega (arith, few, length-take-le size body few))
in_page (value ∷ lacing) source from place size position parts body behind at le h =
    by_cases (nat_eq value 255) refl
    (λ full. in_page lacing source from place (size + 255) position parts body behind at (omega (arith, le, sum_by-cons (λ x. x) value lacing, full)) h)
    (in_page lacing source next next 0 position [] rest behind at_next (omega (arith, few, length-drop (size + value) body, enough)) (omega arith))
  where
    next : ℕ
    next = place + (size + value)

    rest : List ℕ
    rest = drop (size + value) body

    enough : size + value + sum lacing ≤ length body
    enough = omega (arith, le, sum_by-cons (λ x. x) value lacing)

    few : size + value ≤ length body
    few = omega (arith, enough)

    at_next : drop next source ≡ rest ++ behind
    at_next = sym (drop-drop (size + value) place source) ∙ ap (drop (size + value)) at ∙ drop-append-le (size + value) body behind few

    by_cases : (t : Bool) → nat_eq value 255 ≡ t →
        (value ≡ 255 → AreInOrderUpTo source from (all_parts position parts place (size + 255) lacing body) (place + length body)) →
        AreInOrderUpTo source next (all_parts position [] next 0 lacing rest) (next + length rest) →
        AreInOrderUpTo source from (all_parts position parts place size (value ∷ lacing) body) (place + length body)
    by_cases true t goes_on ends =
        subst (λ (l : List Part). AreInOrderUpTo source from l (place + length body))
        (ap (λ l. parts_of_all l ++ parts_behind parts place (size + 255) lacing body) (sym (pick_true (nat_eq value 255) _ _ t))
        ∙ ap (λ l. parts_of_all (packets_in position parts place size (value ∷ lacing) body) ++ l) (sym (pick_true (nat_eq value 255) _ _ t)))
        (goes_on (eqb-true value 255 t))
    by_cases false t goes_on ends =
        let piece : List ℕ = take (size + value) body in
        let ended : AreInOrderUpTo source from (with_part parts place piece) next =
        pushed source from place next parts piece h (front_at source body behind place (size + value) at few) (omega (arith, length-take-le (size + value) body few)) in
        let all : AreInOrderUpTo source from (with_part parts place piece ++ all_parts position [] next 0 lacing rest) (next + length rest) =
        joined source from next (next + length rest) (with_part parts place piece) (all_parts position [] next 0 lacing rest) ended ends in
        let end : next + length rest ≡ place + length body = omega (arith, few, length-drop (size + value) body) in
        let same : with_part parts place piece ++ all_parts position [] next 0 lacing rest ≡ all_parts position parts place size (value ∷ lacing) body =
        sym (append_assoc (with_part parts place piece) (parts_of_all (packets_in position [] next 0 lacing rest)) (parts_behind [] next 0 lacing rest))
        ∙ ap (λ l. parts_of_all l ++ parts_behind [] next 0 lacing rest) (sym (pick_false (nat_eq value 255) _ _ t))
        ∙ ap (λ l. parts_of_all (packets_in position parts place size (value ∷ lacing) body) ++ l) (sym (pick_false (nat_eq value 255) _ _ t)) in
        subst (λ (l : List Part). AreInOrderUpTo source from l (place + length body)) same
        (subst (λ n. AreInOrderUpTo source from (with_part parts place piece ++ all_parts position [] next 0 lacing rest) n) end all)

-- ---- from page to page

-- the bytes of each page stand in the source at its offset
abbrev AllAt : List ℕ → ℕ → List FoundPage → Type 0
AllAt source from [] = Unit {0}
AllAt source from (Ok at ∷ found) = (from ≤ at.0) × IsPage at.1 × ((behind : List ℕ) × (drop at.0 source ≡ page_bytes at.1 ++ behind)) × AllAt source (at.0 + page_size at.1) found
AllAt source from (Err fault ∷ found) = Unit {0}

fault_is_at : (source : List ℕ) (from offset : ℕ) (rest : List ℕ) → AllAt source from (fault_at offset rest)
fault_is_at source from offset [] = tt
fault_is_at source from offset (byte ∷ rest) = by_read (page_at (byte ∷ rest))
  where
    by_read : (read : Result Page PageFault) → AllAt source from (fault_of offset read)
    by_read (Ok page) = tt
    by_read (Err fault) = tt

located_at : (pages : List Page) (source : List ℕ) (offset : ℕ) (rest : List ℕ) (behind : List FoundPage) → AllByRecursion IsPage pages →
    drop offset source ≡ bytes_of_pages pages ++ rest → AllAt source (offset + length (bytes_of_pages pages)) behind → AllAt source offset (located offset pages ++ behind)
located_at [] source offset rest behind are at all = subst (λ n. AllAt source n behind) (let e : offset + 0 ≡ offset = omega arith in e) all
located_at (page ∷ pages) source offset rest behind are at all =
    let split : drop offset source ≡ page_bytes page ++ (bytes_of_pages pages ++ rest) = at ∙ append_assoc (page_bytes page) (bytes_of_pages pages) rest in
    let size : length (page_bytes page) ≡ page_size page = length-page_bytes page in
    let next : drop (offset + page_size page) source ≡ bytes_of_pages pages ++ rest =
    sym (drop-drop (page_size page) offset source) ∙ ap (drop (page_size page)) split ∙ drop_at (page_bytes page) (bytes_of_pages pages ++ rest) (page_size page) size in
    let end : offset + length (bytes_of_pages (page ∷ pages)) ≡ (offset + page_size page) + length (bytes_of_pages pages) =
    omega (arith, size, length-append (page_bytes page) (bytes_of_pages pages)) in (
      omega arith,
      are.0,
      (bytes_of_pages pages ++ rest, split),
      located_at pages source (offset + page_size page) rest behind are.1 next (subst (λ n. AllAt source n behind) end all),
    )

-- a page's body is at its place
body_at : (source : List ℕ) (offset : ℕ) (page : Page) (behind : List ℕ) → drop offset source ≡ page_bytes page ++ behind → drop (body_place offset page) source ≡ page.body ++ behind
unfolding page_bytes fixed_part
body_at source offset page behind at =
    let front : List ℕ = fixed_part (checksum_of (bytes_with 0 page)) page ++ page.lacing in
    let size : length front ≡ 27 + length page.lacing = length-append (fixed_part (checksum_of (bytes_with 0 page)) page) page.lacing in
    let place : offset + 27 + length page.lacing ≡ offset + (27 + length page.lacing) = omega arith in
    ap (λ n. drop n source) place
    ∙ sym (drop-drop (27 + length page.lacing) offset source)
    ∙ ap (drop (27 + length page.lacing)) (at ∙ append_assoc front page.body behind)
    ∙ drop_at front (page.body ++ behind) (27 + length page.lacing) size

-- a page of the stream that was found, and what is found after it
one_page : (serial : ℕ) (behind : Behind) (parts : List Part) (source : List ℕ) (from to : ℕ) (at : ℕ × Page) (found : List FoundPage) (t : Bool) → nat_eq at.1.serial serial ≡ t →
    AllAt source to (Ok at ∷ found) → AreInOrderUpTo source from parts to →
    (AreInOrderUpTo source from parts (at.0 + page_size at.1) → AreInOrder source from (parts_of_all (packets_from serial behind parts found).packets)) →
    ((middle : ℕ) → AreInOrderUpTo source middle (begun_behind parts at) (at.0 + page_size at.1) →
    AreInOrder source middle (parts_of_all (packets_from serial (behind_page at.1) (begun_behind parts at) found).packets)) →
    AreInOrder source from (parts_of_all (packets_from serial behind parts (Ok at ∷ found)).packets)
unfolding packets_from
one_page serial behind parts source from to at found true t (le, is, (after, split), all) h other its =
    let ended : List PacketParts = ended_in parts at in
    let goes_on : List Part = begun_behind parts at in
    let later : PacketsLeft = packets_from serial (behind_page at.1) goes_on found in
    let end : body_place at.0 at.1 + length at.1.body ≡ at.0 + page_size at.1 = omega arith in
    let here : Parted source from (parts_of_all ended) goes_on (at.0 + page_size at.1) =
    parted source from (at.0 + page_size at.1) (parts_of_all ended) goes_on
    (subst (λ n. AreInOrderUpTo source from (parts_of_all ended ++ goes_on) n) end
    (in_page at.1.lacing source from (body_place at.0 at.1) 0 (position_in at.1) parts at.1.body after (body_at source at.0 at.1 after split) (omega (arith, is.whole))
    (up_to_later source from to (body_place at.0 at.1) parts (omega (arith, le)) h))) in
    let both : AreInOrder source from (parts_of_all (ended ++ later.packets)) =
    subst (λ (l : List Part). AreInOrder source from l) (sym (flat_map-append (λ (p : PacketParts). p.parts) ended later.packets))
    (followed source from here.middle (parts_of_all ended) (parts_of_all later.packets) here.first (its here.middle here.others)) in
    subst (λ (l : PacketsLeft). AreInOrder source from (parts_of_all l.packets)) (sym (from-page serial behind parts at.0 at.1 found t))
    (by_fault (misplaced behind (is_some_part parts) at.0 at.1) both)
  where
    by_fault : (m : Option ViewFault) → AreInOrder source from (parts_of_all (ended_in parts at ++ (packets_from serial (behind_page at.1) (begun_behind parts at) found).packets)) →
        AreInOrder source from (parts_of_all (by_place serial parts at.0 at.1 found m).packets)
    by_fault (Some fault) both = tt
    by_fault None both = both
one_page serial behind parts source from to at found false t (le, is, (after, split), all) h other its =
    subst (λ (l : PacketsLeft). AreInOrder source from (parts_of_all l.packets)) (sym (pick_false (nat_eq at.1.serial serial) _ _ t))
    (other (up_to_later source from to (at.0 + page_size at.1) parts (omega (arith, le)) h))

in_order : (found : List FoundPage) (serial : ℕ) (behind : Behind) (parts : List Part) (source : List ℕ) (from to : ℕ) → AllAt source to found →
    AreInOrderUpTo source from parts to → AreInOrder source from (parts_of_all (packets_from serial behind parts found).packets)
unfolding packets_from
in_order [] serial behind parts source from to all h = tt
in_order (Err fault ∷ found) serial behind parts source from to all h = tt
in_order (Ok at ∷ found) serial behind parts source from to all h =
    one_page serial behind parts source from to at found (nat_eq at.1.serial serial) refl all h
    (λ later. in_order found serial behind parts source from (at.0 + page_size at.1) all.3 later)
    (λ middle later. in_order found serial (behind_page at.1) (begun_behind parts at) source middle (at.0 + page_size at.1) all.3 later)

pub all_in_order : (serial : ℕ) (bytes : List ℕ) → AreBytes bytes → AreInOrder bytes 0 (parts_of_all (packets_of serial bytes).packets)
all_in_order serial bytes are =
    let found : FoundFrom (record { offset = 0; bytes = bytes }) (found_in 0 bytes) = all_found (length bytes) 0 bytes are (omega arith) in
    let faults : List FoundPage = fault_at (0 + length (bytes_of_pages found.pages)) found.rest in
    let all : AllAt bytes 0 (found_in 0 bytes) =
    subst (λ (l : List FoundPage). AllAt bytes 0 l) (sym found.all)
    (located_at found.pages bytes 0 found.rest faults found.begins.are_pages found.begins.joined (fault_is_at bytes (0 + length (bytes_of_pages found.pages)) (0 + length (bytes_of_pages found.pages)) found.rest)) in
    in_order (found_in 0 bytes) serial (record { number = None; ended = false }) [] bytes 0 0 all (omega arith)
