-- A page has one part of a packet at most.
use Rattle.std.proofs.Common.{◌≡◌, ℕ, ◌+◌, ◌≤◌, Bool, true, false, List, [], ◌∷◌, ◌++◌, inl, inr, length, take, drop, sum, refl, sym, subst, arith, append_assoc, Option, Some, None, Ok, Err}
use Rattle.std.specs.Prelude.{nat_eq}
use Rattle.std.specs.List.{AllByRecursion}
use Rattle.std.proofs.lemmas.Bool.{eqb-true}
use Rattle.std.proofs.lemmas.List.{length-drop, length-take-le}
use Rattle.std.proofs.lemmas.List.Sums.{sum_by-cons}
use Rattle.ogg_page.specs.Page.{Page, IsPage, AreBytes}
use Rattle.ogg_page.specs.Pages.{FoundPage, found_in}
use Rattle.ogg_page.specs.Laws.PageBytes.{all_both}
use Rattle.packet_view.specs.Packets.{Part, PacketParts, PacketsLeft, with_part, is_some_part, misplaced, body_place, behind_page, position_in, packets_in, parts_behind, packets_from, packets_of}
use Rattle.packet_view.specs.Apart.{LiesIn, LieApart, pages_found}
use Rattle.packet_view.specs.declared.place.Behind.{Behind}
use Rattle.packet_view.specs.declared.fault.ViewFault.{ViewFault}
use Rattle.packet_view.proofs.AllHeld.{AllFound, all_are_pages}
use Rattle.packet_view.proofs.Fronts.{pick_false}
use Rattle.packet_view.proofs.Walks.{ended_in, begun_behind, pick_true, by_place, from-page}

none_apart : (serial : ℕ) (pages : List (ℕ × Page)) → LieApart serial pages []
none_apart serial [] = tt
none_apart serial (at ∷ pages) = tt

-- more pages follow
more_pages : (serial : ℕ) (pages more : List (ℕ × Page)) (parts : List Part) → LieApart serial pages parts → LieApart serial (pages ++ more) parts
more_pages serial [] more [] h = none_apart serial more
more_pages serial [] more (part ∷ parts) h = absurd h
more_pages serial (at ∷ pages) more [] h = tt
more_pages serial (at ∷ pages) more (part ∷ parts) (inl (lies, h)) = inl (lies, more_pages serial pages more parts h)
more_pages serial (at ∷ pages) more (part ∷ parts) (inr h) = inr (more_pages serial pages more (part ∷ parts) h)

-- one more part, in one more page
one_more : (serial : ℕ) (pages : List (ℕ × Page)) (at : ℕ × Page) (parts : List Part) (part : Part) → LiesIn serial at part → LieApart serial pages parts →
    LieApart serial (pages ++ at ∷ []) (parts ++ part ∷ [])
one_more serial [] at [] part lies h = inl (lies, tt)
one_more serial [] at (p ∷ parts) part lies h = absurd h
one_more serial (a ∷ pages) at [] part lies h = inr (one_more serial pages at [] part lies (none_apart serial pages))
one_more serial (a ∷ pages) at (p ∷ parts) part lies (inl (first, h)) = inl (first, one_more serial pages at parts part lies h)
one_more serial (a ∷ pages) at (p ∷ parts) part lies (inr h) = inr (one_more serial pages at (p ∷ parts) part lies h)

-- these bytes of the additional page, if there are any
pushed : (serial : ℕ) (pages : List (ℕ × Page)) (at : ℕ × Page) (parts : List Part) (place : ℕ) (bytes : List ℕ) → at.1.serial ≡ serial → body_place at.0 at.1 ≤ place →
    place + length bytes ≤ body_place at.0 at.1 + length at.1.body → LieApart serial pages parts → LieApart serial (pages ++ at ∷ []) (with_part parts place bytes)
pushed serial pages at parts place [] its from to h = more_pages serial pages (at ∷ []) parts h
pushed serial pages at parts place (byte ∷ bytes) its from to h =
    one_more serial pages at parts (record { place = place; bytes = byte ∷ bytes }) (record { its = its; from = from; to = to }) h

-- ---- a page

abbrev AllApart : ℕ → List (ℕ × Page) → List PacketParts → Type 0
AllApart serial pages packets = AllByRecursion (λ (packet : PacketParts). LieApart serial pages packet.parts) packets

-- the packets that end in a page, and the one that goes on after it
abbrev ApartIn : ℕ → List (ℕ × Page) → List PacketParts → List Part → Type 0
ApartIn serial pages packets behind = AllApart serial pages packets × LieApart serial pages behind

in_page : (lacing : List ℕ) (serial : ℕ) (earlier : List (ℕ × Page)) (at : ℕ × Page) (position : Option ℕ) (parts : List Part) (place size : ℕ) (body : List ℕ) →
    at.1.serial ≡ serial → body_place at.0 at.1 ≤ place → place + length body ≡ body_place at.0 at.1 + length at.1.body → size + sum lacing ≤ length body →
    LieApart serial earlier parts →
    ApartIn serial (earlier ++ at ∷ []) (packets_in position parts place size lacing body) (parts_behind parts place size lacing body)
unfolding packets_in parts_behind
in_page [] serial earlier at position parts place size body its from end le h =
    let few : size ≤ length body = omega (arith, le) in
    (tt, pushed serial earlier at parts place (take size body) its from (omega (arith, end, few, length-take-le size body few)) h)
in_page (value ∷ lacing) serial earlier at position parts place size body its from end le h =
    by_cases (nat_eq value 255) refl
    (λ full. in_page lacing serial earlier at position parts place (size + 255) body its from end (omega (arith, le, sum_by-cons (λ x. x) value lacing, full)) h)
    (in_page lacing serial earlier at position [] (place + (size + value)) 0 (drop (size + value) body) its (omega (arith, from))
    (omega (arith, end, few, length-drop (size + value) body)) (omega (arith, enough, length-drop (size + value) body)) (none_apart serial earlier))
  where
    enough : size + value + sum lacing ≤ length body
    enough = omega (arith, le, sum_by-cons (λ x. x) value lacing)

    few : size + value ≤ length body
    few = omega (arith, enough)

    by_cases : (t : Bool) → nat_eq value 255 ≡ t →
        (value ≡ 255 → ApartIn serial (earlier ++ at ∷ []) (packets_in position parts place (size + 255) lacing body) (parts_behind parts place (size + 255) lacing body)) →
        ApartIn serial (earlier ++ at ∷ []) (packets_in position [] (place + (size + value)) 0 lacing (drop (size + value) body))
        (parts_behind [] (place + (size + value)) 0 lacing (drop (size + value) body)) →
        ApartIn serial (earlier ++ at ∷ []) (packets_in position parts place size (value ∷ lacing) body) (parts_behind parts place size (value ∷ lacing) body)
    by_cases true t goes_on ends =
        let h = goes_on (eqb-true value 255 t) in (
          subst (λ (l : List PacketParts). AllApart serial (earlier ++ at ∷ []) l) (sym (pick_true (nat_eq value 255) _ _ t)) h.0,
          subst (λ (l : List Part). LieApart serial (earlier ++ at ∷ []) l) (sym (pick_true (nat_eq value 255) _ _ t)) h.1,
        )
    by_cases false t goes_on ends =
        let here : LieApart serial (earlier ++ at ∷ []) (with_part parts place (take (size + value) body)) =
        pushed serial earlier at parts place (take (size + value) body) its from (omega (arith, end, few, length-take-le (size + value) body few)) h in (
          subst (λ (l : List PacketParts). AllApart serial (earlier ++ at ∷ []) l) (sym (pick_false (nat_eq value 255) _ _ t)) (here, ends.0),
          subst (λ (l : List Part). LieApart serial (earlier ++ at ∷ []) l) (sym (pick_false (nat_eq value 255) _ _ t)) ends.1,
        )

-- ---- from page to page

weaker : (serial : ℕ) (pages more : List (ℕ × Page)) (packets : List PacketParts) → AllApart serial pages packets → AllApart serial (pages ++ more) packets
weaker serial pages more [] all = tt
weaker serial pages more (packet ∷ packets) (h, all) = (more_pages serial pages more packet.parts h, weaker serial pages more packets all)

one_page : (serial : ℕ) (behind : Behind) (parts : List Part) (earlier : List (ℕ × Page)) (at : ℕ × Page) (found : List FoundPage) (t : Bool) → nat_eq at.1.serial serial ≡ t →
    IsPage at.1 → LieApart serial earlier parts →
    (LieApart serial (earlier ++ at ∷ []) parts → AllApart serial ((earlier ++ at ∷ []) ++ pages_found found) (packets_from serial behind parts found).packets) →
    (LieApart serial (earlier ++ at ∷ []) (begun_behind parts at) →
    AllApart serial ((earlier ++ at ∷ []) ++ pages_found found) (packets_from serial (behind_page at.1) (begun_behind parts at) found).packets) →
    AllApart serial (earlier ++ at ∷ pages_found found) (packets_from serial behind parts (Ok at ∷ found)).packets
unfolding packets_from
one_page serial behind parts earlier at found true t is h other its =
    let later : PacketsLeft = packets_from serial (behind_page at.1) (begun_behind parts at) found in
    let here = in_page at.1.lacing serial earlier at (position_in at.1) parts (body_place at.0 at.1) 0 at.1.body (eqb-true at.1.serial serial t) (omega arith) refl (omega (arith, is.whole)) h in
    let both : AllApart serial ((earlier ++ at ∷ []) ++ pages_found found) (ended_in parts at ++ later.packets) =
    all_both (λ (packet : PacketParts). LieApart serial ((earlier ++ at ∷ []) ++ pages_found found) packet.parts) (ended_in parts at) later.packets
    (weaker serial (earlier ++ at ∷ []) (pages_found found) (ended_in parts at) here.0) (its here.1) in
    let all : AllApart serial (earlier ++ at ∷ pages_found found) (ended_in parts at ++ later.packets) =
    subst (λ (l : List (ℕ × Page)). AllApart serial l (ended_in parts at ++ later.packets)) (append_assoc earlier (at ∷ []) (pages_found found)) both in
    subst (λ (l : PacketsLeft). AllApart serial (earlier ++ at ∷ pages_found found) l.packets) (sym (from-page serial behind parts at.0 at.1 found t))
    (by_fault (misplaced behind (is_some_part parts) at.0 at.1) all)
  where
    by_fault : (m : Option ViewFault) →
        AllApart serial (earlier ++ at ∷ pages_found found) (ended_in parts at ++ (packets_from serial (behind_page at.1) (begun_behind parts at) found).packets) →
        AllApart serial (earlier ++ at ∷ pages_found found) (by_place serial parts at.0 at.1 found m).packets
    by_fault (Some fault) all = tt
    by_fault None all = all
one_page serial behind parts earlier at found false t is h other its =
    let all : AllApart serial (earlier ++ at ∷ pages_found found) (packets_from serial behind parts found).packets =
    subst (λ (l : List (ℕ × Page)). AllApart serial l (packets_from serial behind parts found).packets) (append_assoc earlier (at ∷ []) (pages_found found))
    (other (more_pages serial earlier (at ∷ []) parts h)) in
    subst (λ (l : PacketsLeft). AllApart serial (earlier ++ at ∷ pages_found found) l.packets) (sym (pick_false (nat_eq at.1.serial serial) _ _ t)) all

apart : (found : List FoundPage) (serial : ℕ) (behind : Behind) (parts : List Part) (earlier : List (ℕ × Page)) → AllFound found → LieApart serial earlier parts →
    AllApart serial (earlier ++ pages_found found) (packets_from serial behind parts found).packets
unfolding packets_from
apart [] serial behind parts earlier all h = tt
apart (Err fault ∷ found) serial behind parts earlier all h = tt
apart (Ok at ∷ found) serial behind parts earlier all h =
    one_page serial behind parts earlier at found (nat_eq at.1.serial serial) refl all.0 h
    (λ later. apart found serial behind parts (earlier ++ at ∷ []) all.1 later)
    (λ later. apart found serial (behind_page at.1) (begun_behind parts at) (earlier ++ at ∷ []) all.1 later)

pub all_apart : (serial : ℕ) (bytes : List ℕ) → AreBytes bytes → AllApart serial (pages_found (found_in 0 bytes)) (packets_of serial bytes).packets
all_apart serial bytes are =
    apart (found_in 0 bytes) serial (record { number = None; ended = false }) [] [] (all_are_pages 0 bytes are) tt
