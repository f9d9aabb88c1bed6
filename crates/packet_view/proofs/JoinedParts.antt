-- The parts of a stream, joined from first to last, are its packets.
use Rattle.std.proofs.Common.{◌≡◌, ℕ, zero, suc, ◌+◌, ◌<◌, Bool, true, false, not, List, [], ◌∷◌, ◌++◌, length, take, drop, sum, map, refl, sym, ◌∙◌, ap, subst, arith, Option, Some, None, Ok, Err}
use Rattle.std.specs.Prelude.{nat_eq, if◌then◌else◌}
use Rattle.std.proofs.lemmas.Bool.{eqb-true, false≢true}
use Rattle.std.proofs.lemmas.List.{map-append, length-drop}
use Rattle.std.proofs.lemmas.List.Sums.{sum_by-cons}
use Rattle.ogg_page.specs.Page.{Page, AreBytes}
use Rattle.ogg_page.specs.Pages.{FoundPage, found_in}
use Rattle.ogg_page.specs.Window.{LentAt}
use Rattle.packet_view.specs.Packets.{Part, PacketParts, PacketsLeft, joined_parts, with_part, ends_packet, is_some_part, misplaced, body_place, behind_page, position_in, no_packet, packets_in, parts_behind, packets_from}
use Rattle.packet_view.specs.StreamParts.{PagePart, PartsLeft, page_parts, goes_on, no_part, parts_from, at_start, packets_joined, joined_packet, AreMarked, AreTheirParts}
use Rattle.packet_view.specs.declared.place.Behind.{Behind}
use Rattle.packet_view.specs.declared.fault.ViewFault.{ViewFault}
use Rattle.packet_view.proofs.Fronts.{pick_false}
use Rattle.packet_view.proofs.Walks.{by_place as packets_by_place, from-page}
use Rattle.packet_view.proofs.Opened.{joined-with_part}
use Rattle.packet_view.proofs.PageHolds.{some_pushed}
use Rattle.packet_view.proofs.AllHeld.{AllFound, all_are_pages}
use Rattle.packet_view.proofs.Cuts.{part_of}
use Rattle.packet_view.proofs.Reaches.{by_place, parts-page, parts-other}

-- ---- the packets of a page

-- the bytes to which a part is joined
begun : (parts : List Part) (first : Bool) (before : List ℕ) → first ≡ not (is_some_part parts) → before ≡ joined_parts parts → (if first then [] else before) ≡ joined_parts parts
begun [] true before e is = refl
begun [] false before e is = is
begun (part ∷ parts) true before e is = absurd (cc)
begun (part ∷ parts) false before e is = is

-- the end of a page
end_joins : (b : Bool) (size place : ℕ) (parts : List Part) (first : Bool) (before body : List ℕ) (more : List PagePart) → nat_eq size 0 ≡ b → first ≡ not (is_some_part parts) → before ≡ joined_parts parts →
    packets_joined before ((if b then [] else part_of (take size body) first false None ∷ []) ++ more) ≡ packets_joined (joined_parts (with_part parts place (take size body))) more
unfolding packets_joined
end_joins true size place parts first before body more e marked is =
    let none : size ≡ 0 = eqb-true size 0 e in
    ap (λ l. packets_joined l more) is ∙ ap (λ n. packets_joined (joined_parts (with_part parts place (take n body))) more) (sym none)
end_joins false size place parts first before body more e marked is =
    ap (λ l. packets_joined (l ++ take size body) more) (begun parts first before marked is) ∙ ap (λ l. packets_joined l more) (sym (joined-with_part parts place (take size body)))

-- one lacing value
value_joins : (b : Bool) (before bytes : List ℕ) (first : Bool) (position : Option ℕ) (same other more : List PagePart) (packets later : List PacketParts) (packet : PacketParts) (behind after : List Part) →
    packets_joined before (same ++ more) ≡ map joined_packet packets ++ packets_joined (joined_parts behind) more →
    packets_joined [] (other ++ more) ≡ map joined_packet later ++ packets_joined (joined_parts after) more →
    (if first then [] else before) ++ bytes ≡ joined_parts packet.parts → position ≡ packet.position →
    packets_joined before ((if b then same else part_of bytes first true position ∷ other) ++ more)
    ≡ map joined_packet (if b then packets else packet ∷ later) ++ packets_joined (joined_parts (if b then behind else after)) more
unfolding packets_joined
value_joins true before bytes first position same other more packets later packet behind after goes ends text where_ = goes
value_joins false before bytes first position same other more packets later packet behind after goes ends text where_ =
    ap (λ l. (l, position) ∷ packets_joined [] (other ++ more)) text
    ∙ ap (λ p. (joined_parts packet.parts, p) ∷ packets_joined [] (other ++ more)) where_
    ∙ ap (λ l. joined_packet packet ∷ l) ends

page_joins : (lacing body : List ℕ) (size place : ℕ) (position : Option ℕ) (parts : List Part) (first : Bool) (before : List ℕ) (more : List PagePart) → first ≡ not (is_some_part parts) → before ≡ joined_parts parts →
    packets_joined before (page_parts position first size lacing body ++ more)
    ≡ map joined_packet (packets_in position parts place size lacing body) ++ packets_joined (joined_parts (parts_behind parts place size lacing body)) more
unfolding page_parts packets_in parts_behind
page_joins [] body size place position parts first before more marked is = end_joins (nat_eq size 0) size place parts first before body more refl marked is
page_joins (value ∷ lacing) body size place position parts first before more marked is =
    value_joins (nat_eq value 255) before (take (size + value) body) first (if ends_packet lacing then None else position) _ _ more _ _
    (record { parts = with_part parts place (take (size + value) body); position = if ends_packet lacing then None else position }) _ _
    (page_joins lacing body (size + 255) place position parts first before more marked is)
    (page_joins lacing (drop (size + value) body) 0 (place + (size + value)) position [] true [] more refl refl)
    (ap (λ l. l ++ take (size + value) body) (begun parts first before marked is) ∙ sym (joined-with_part parts place (take (size + value) body))) refl

-- ---- whether a packet goes on

some_taken : (n : ℕ) (body : List ℕ) (parts : List Part) (place : ℕ) → 0 < n → 0 < length body → is_some_part (with_part parts place (take n body)) ≡ true
some_taken zero body parts place some long = absurd (omega arith)
some_taken (suc n) [] parts place some long = absurd (omega arith)
some_taken (suc n) (byte ∷ body) parts place some long = some_pushed parts _

either : (b u : Bool) (lacing : List ℕ) (behind after : List Part) → (b ≡ true → goes_on true lacing ≡ is_some_part behind) → (b ≡ false → goes_on false lacing ≡ is_some_part after) →
    goes_on b lacing ≡ is_some_part (if b then behind else after)
either true u lacing behind after goes ends = goes refl
either false u lacing behind after goes ends = ends refl

goes_same : (lacing body : List ℕ) (size place : ℕ) (parts : List Part) (unfinished : Bool) → size + sum lacing ≡ length body → is_some_part (with_part parts place (take size body)) ≡ unfinished →
    goes_on unfinished lacing ≡ is_some_part (parts_behind parts place size lacing body)
unfolding goes_on parts_behind
goes_same [] body size place parts unfinished whole e = sym e
goes_same (value ∷ lacing) body size place parts unfinished whole e =
    let added : sum (value ∷ lacing) ≡ value + sum lacing = sum_by-cons (λ x. x) value lacing in
    either (nat_eq value 255) unfinished lacing _ _
    (λ full.
    let is : value ≡ 255 = eqb-true value 255 full in
    goes_same lacing body (size + 255) place parts true (omega (arith, whole, added, is)) (some_taken (size + 255) body parts place (omega arith) (omega (arith, whole, added, is))))
    (λ ends. goes_same lacing (drop (size + value) body) 0 (place + (size + value)) [] false (omega (arith, whole, added, length-drop (size + value) body)) refl)

-- ---- which parts begin a packet

end_marked : (b : Bool) (size : ℕ) (first unfinished : Bool) (bytes : List ℕ) (more : List PagePart) → (b ≡ true → first ≡ not unfinished) → (b ≡ false → unfinished ≡ true) → AreMarked (not unfinished) more →
    AreMarked first ((if b then [] else part_of bytes first false None ∷ []) ++ more)
end_marked true size first unfinished bytes more none some are = subst (λ (u : Bool). AreMarked u more) (sym (none refl)) are
end_marked false size first unfinished bytes more none some are = (refl, subst (λ (u : Bool). AreMarked (not u) more) (some refl) are)

value_marked : (b : Bool) (first : Bool) (bytes : List ℕ) (position : Option ℕ) (same other more : List PagePart) → (b ≡ true → AreMarked first (same ++ more)) → (b ≡ false → AreMarked true (other ++ more)) →
    AreMarked first ((if b then same else part_of bytes first true position ∷ other) ++ more)
value_marked true first bytes position same other more goes ends = goes refl
value_marked false first bytes position same other more goes ends = (refl, ends refl)

page_marked : (lacing body : List ℕ) (size : ℕ) (position : Option ℕ) (first unfinished : Bool) (more : List PagePart) → (nat_eq size 0 ≡ true → first ≡ not unfinished) → (nat_eq size 0 ≡ false → unfinished ≡ true) →
    AreMarked (not (goes_on unfinished lacing)) more → AreMarked first (page_parts position first size lacing body ++ more)
unfolding page_parts goes_on
page_marked [] body size position first unfinished more none some are = end_marked (nat_eq size 0) size first unfinished (take size body) more none some are
page_marked (value ∷ lacing) body size position first unfinished more none some are =
    value_marked (nat_eq value 255) first (take (size + value) body) (if ends_packet lacing then None else position) _ _ more
    (λ full. page_marked lacing body (size + 255) position first true more (λ e. absurd (no_zero size (eqb-true (size + 255) 0 e))) (λ e. refl) (subst (λ (b : Bool). AreMarked (not (goes_on b lacing)) more) full are))
    (λ ends. page_marked lacing (drop (size + value) body) 0 position true false more (λ e. refl) (λ e. absurd (false≢true (sym e))) (subst (λ (b : Bool). AreMarked (not (goes_on b lacing)) more) ends are))
  where
    no_zero : (n : ℕ) → n + 255 ≡ 0 → ⊥
    no_zero n e = omega arith

-- ---- all pages

record Joins (before : List ℕ) (begins : Bool) (packets : PacketsLeft) (parts : PartsLeft) : Type 0 where
  pub joined : packets_joined before parts.parts ≡ map joined_packet packets.packets
  pub marked : AreMarked begins parts.parts
  pub fault : parts.fault ≡ packets.fault

none_joins : (before : List ℕ) (begins : Bool) (f g : Option ViewFault) → g ≡ f → Joins before begins (no_packet f) (no_part g)
unfolding packets_joined
none_joins before begins f g e = record { joined = refl; marked = tt; fault = e }

abbrev behind_it : List Part → LentAt → List Part
behind_it parts at = parts_behind parts (body_place at.0 at.1) 0 at.1.lacing at.1.body

by_misplaced : (serial : ℕ) (parts : List Part) (at : LentAt) (found : List FoundPage) →
    Joins (joined_parts (behind_it parts at)) (not (goes_on (is_some_part parts) at.1.lacing)) (packets_from serial (behind_page at.1) (behind_it parts at) found)
    (parts_from serial (behind_page at.1) (goes_on (is_some_part parts) at.1.lacing) found) →
    (m : Option ViewFault) → Joins (joined_parts parts) (not (is_some_part parts)) (packets_by_place serial parts at.0 at.1 found m) (by_place serial (is_some_part parts) at.1 found m)
by_misplaced serial parts at found later (Some fault) = none_joins (joined_parts parts) (not (is_some_part parts)) (Some fault) (Some fault) refl
by_misplaced serial parts at found later None =
    let page : Page = at.1 in
    let place : ℕ = body_place at.0 page in
    let more : List PagePart = (parts_from serial (behind_page page) (goes_on (is_some_part parts) page.lacing) found).parts in
    let ended : List PacketParts = packets_in (position_in page) parts place 0 page.lacing page.body in
    record {
      joined = page_joins page.lacing page.body 0 place (position_in page) parts (not (is_some_part parts)) (joined_parts parts) more refl refl
          ∙ ap (λ l. map joined_packet ended ++ l) later.joined
          ∙ sym (map-append joined_packet ended (packets_from serial (behind_page page) (behind_it parts at) found).packets);
      marked = page_marked page.lacing page.body 0 (position_in page) (not (is_some_part parts)) (is_some_part parts) more (λ e. refl) (λ e. absurd (false≢true (sym e))) later.marked;
      fault = later.fault;
    }

by_serial : (t : Bool) (serial : ℕ) (behind : Behind) (parts : List Part) (at : LentAt) (found : List FoundPage) → nat_eq at.1.serial serial ≡ t →
    Joins (joined_parts parts) (not (is_some_part parts)) (packets_from serial behind parts found) (parts_from serial behind (is_some_part parts) found) →
    Joins (joined_parts (behind_it parts at)) (not (goes_on (is_some_part parts) at.1.lacing)) (packets_from serial (behind_page at.1) (behind_it parts at) found)
    (parts_from serial (behind_page at.1) (goes_on (is_some_part parts) at.1.lacing) found) →
    Joins (joined_parts parts) (not (is_some_part parts)) (packets_from serial behind parts (Ok at ∷ found)) (parts_from serial behind (is_some_part parts) (Ok at ∷ found))
unfolding packets_from
by_serial true serial behind parts at found t passed later =
    let u : Bool = is_some_part parts in
    let m : Option ViewFault = misplaced behind u at.0 at.1 in
    subst (λ (l : PacketsLeft). Joins (joined_parts parts) (not u) l (parts_from serial behind u (Ok at ∷ found))) (sym (from-page serial behind parts at.0 at.1 found t))
    (subst (λ (l : PartsLeft). Joins (joined_parts parts) (not u) (packets_by_place serial parts at.0 at.1 found m) l) (sym (parts-page serial behind u at found m t refl))
    (by_misplaced serial parts at found later m))
by_serial false serial behind parts at found t passed later =
    let u : Bool = is_some_part parts in
    subst (λ (l : PacketsLeft). Joins (joined_parts parts) (not u) l (parts_from serial behind u (Ok at ∷ found))) (sym (pick_false (nat_eq at.1.serial serial) _ _ t))
    (subst (λ (l : PartsLeft). Joins (joined_parts parts) (not u) (packets_from serial behind parts found) l) (sym (parts-other serial behind u at found t)) passed)

all_join : (found : List FoundPage) (serial : ℕ) (behind : Behind) (parts : List Part) → AllFound found →
    Joins (joined_parts parts) (not (is_some_part parts)) (packets_from serial behind parts found) (parts_from serial behind (is_some_part parts) found)
unfolding packets_from parts_from
all_join [] serial behind parts all = none_joins (joined_parts parts) (not (is_some_part parts)) _ _ refl
all_join (Err fault ∷ found) serial behind parts all = none_joins (joined_parts parts) (not (is_some_part parts)) _ _ refl
all_join (Ok at ∷ found) serial behind parts all =
    let goes : goes_on (is_some_part parts) at.1.lacing ≡ is_some_part (behind_it parts at) =
    goes_same at.1.lacing at.1.body 0 (body_place at.0 at.1) parts (is_some_part parts) (omega (arith, all.0.whole)) refl in
    by_serial (nat_eq at.1.serial serial) serial behind parts at found refl (all_join found serial behind parts all.1)
    (subst (λ (u : Bool). Joins (joined_parts (behind_it parts at)) (not u) (packets_from serial (behind_page at.1) (behind_it parts at) found) (parts_from serial (behind_page at.1) u found)) (sym goes)
    (all_join found serial (behind_page at.1) (behind_it parts at) all.1))

pub are_joined : (serial offset : ℕ) (bytes : List ℕ) → AreBytes bytes →
    AreTheirParts (packets_from serial at_start [] (found_in offset bytes)) (parts_from serial at_start false (found_in offset bytes))
are_joined serial offset bytes small =
    let all = all_join (found_in offset bytes) serial at_start [] (all_are_pages offset bytes small) in
    record { joined = all.joined; marked = all.marked; fault = all.fault }
