-- The packets are those that the stream's pages before the first page at fault hold.
use Rattle.std.proofs.Common.{◌≡◌, ◌≢◌, ℕ, zero, suc, ◌+◌, ◌-◌, Bool, true, false, not, List, [], ◌∷◌, ◌++◌, length, map, refl, sym, ◌∙◌, ap, subst, arith, append_assoc, append-nil, Option, Some, None, Ok, Err, Result}
use Rattle.std.specs.Prelude.{nat_eq, if◌then◌else◌, replicate, slice_index, ◌||◌}
use Rattle.std.specs.List.{AllByRecursion, flat_map, concat, list_any}
use Rattle.std.proofs.lemmas.Bool.{false≢true, eqb-true, ne_eqb}
use Rattle.std.proofs.lemmas.List.{get_or-replicate, map-append, length-replicate}
use Rattle.std.proofs.lemmas.List.Concat.{flat_map-append}
use Rattle.std.proofs.lemmas.List.Sums.{fold-append}
use Rattle.std.proofs.lemmas.List.Folds.{list_any-append}
use Rattle.ogg_page.specs.Page.{Page, IsPage, AreBytes, bytes_of_pages, page_size}
use Rattle.ogg_page.specs.Reading.{page_at}
use Rattle.ogg_page.specs.Pages.{FoundPage, found_in, located, fault_of, fault_at}
use Rattle.ogg_page.specs.declared.fault.PageFault.{PageFault}
use Rattle.ogg_page.specs.Lacing.{lace, ends_open}
use Rattle.ogg_page.specs.LogicalStream.{HoldsPackets, EachBehind, joined_lacing, joined_bodies, number_behind, is_continued, is_last}
use Rattle.ogg_page.specs.Laws.Walk.{FoundFrom}
use Rattle.ogg_page.specs.Laws.Found.{all_found}
use Rattle.packet_view.specs.Packets.{Part, PacketParts, PacketsLeft, joined_parts, is_some_part, is_other_number, differ, misplaced, body_place, behind_page, position_in, no_packet, after_packets, packets_from, packets_of}
use Rattle.packet_view.specs.Held.{found_page, pages_of_stream, FitsInOrder, number_after, behind_pages, IsFaultBehind, AreHeld, positions_of}
use Rattle.packet_view.specs.declared.place.Behind.{Behind}
use Rattle.packet_view.specs.declared.fault.ViewFault.{ViewFault}
use Rattle.packet_view.specs.declared.fault.ViewFault.TheVariants.{Sequence, Continued, AfterEos, Unfinished}
use Rattle.packet_view.proofs.Fronts.{pick_false}
use Rattle.packet_view.proofs.Walks.{begun_behind, ended_in, pick_true, by_place, from-page}
use Rattle.packet_view.proofs.Positions.{positions_in}
use Rattle.packet_view.proofs.PageHolds.{texts, Cuts, cuts}
use Rattle.ogg_page.specs.StreamLaws.{ends_open-laces, ends_open-append, concat-append}
use Rattle.std.proofs.Math.Bool.{or-false}

-- ---- whether a packet goes on

ends_open-full : (n : ℕ) → ends_open (replicate n 255) ≡ not (nat_eq n 0)
ends_open-full zero = refl
ends_open-full (suc n) =
    let full : ℕ = 255 in
    let at : length (replicate (suc n) full) - 1 ≡ n = omega (arith, length-replicate (suc n) full) in
    ap (λ v. nat_eq v 255) (ap (λ i. slice_index (replicate (suc n) 255) i) at ∙ get_or-replicate (suc n) n 255 0 (omega arith)) ∙ sym (ap not (ne_eqb (suc n) 0 (λ e. omega arith)))

goes_on_behind : (pages : List Page) (packets : List (List ℕ)) (segments : ℕ) (rest : List ℕ) → HoldsPackets pages packets segments rest → ends_open (joined_lacing pages) ≡ not (nat_eq segments 0)
goes_on_behind pages packets segments rest h =
    ap ends_open h.lacing ∙ ends_open-append (flat_map lace packets) (replicate segments 255) (ends_open-laces packets) ∙ ends_open-full segments

-- ---- another page

holds_more : (pages : List Page) (page : Page) (before : List (List ℕ)) (segments : ℕ) (parts : List Part) (packets : List PacketParts) (behind : List Part) →
    HoldsPackets pages before segments (joined_parts parts) → (c : Cuts segments (joined_parts parts) page.lacing page.body packets behind) →
    HoldsPackets (pages ++ page ∷ []) (before ++ texts packets) c.left (joined_parts behind)
holds_more pages page before segments parts packets behind h c = record {
  lacing =
      flat_map-append (λ (p : Page). p.lacing) pages (page ∷ [])
      ∙ ap (λ l. joined_lacing pages ++ l) (append-nil page.lacing)
      ∙ ap (λ l. l ++ page.lacing) h.lacing
      ∙ append_assoc (flat_map lace before) (replicate segments 255) page.lacing
      ∙ ap (λ l. flat_map lace before ++ l) c.values
      ∙ sym (append_assoc (flat_map lace before) (flat_map lace (texts packets)) (replicate c.left 255))
      ∙ ap (λ l. l ++ replicate c.left 255) (sym (flat_map-append lace before (texts packets)));
  bodies =
      flat_map-append (λ (p : Page). p.body) pages (page ∷ [])
      ∙ ap (λ l. joined_bodies pages ++ l) (append-nil page.body)
      ∙ ap (λ l. l ++ page.body) h.bodies
      ∙ append_assoc (concat before) (joined_parts parts) page.body
      ∙ ap (λ l. concat before ++ l) c.bytes
      ∙ sym (append_assoc (concat before) (concat (texts packets)) (joined_parts behind))
      ∙ ap (λ l. l ++ joined_parts behind) (sym (concat-append before (texts packets)));
  rest_size = c.size;
}

guard_none : (b : Bool) (f : ViewFault) (x : Option ViewFault) → (if b then Some f else x) ≡ None → (b ≡ false) × (x ≡ None)
guard_none true f x e = (cc, cc)
guard_none false f x e = (refl, e)

same_flag : (a b : Bool) → differ a b ≡ false → a ≡ b
same_flag true true e = refl
same_flag true false e = absurd (cc)
same_flag false true e = absurd (cc)
same_flag false false e = refl

right_number : (before : List Page) (sequence : ℕ) → is_other_number (number_after before) sequence ≡ false → before ≢ [] → sequence ≡ number_behind before
right_number [] sequence e some = absurd (some refl)
right_number (page ∷ pages) sequence e some = by_cases (nat_eq sequence (number_behind (page ∷ pages))) refl
  where
    by_cases : (t : Bool) → nat_eq sequence (number_behind (page ∷ pages)) ≡ t → sequence ≡ number_behind (page ∷ pages)
    by_cases true t = eqb-true sequence (number_behind (page ∷ pages)) t
    by_cases false t = absurd (false≢true (sym e ∙ ap not t))

fits : (before : List Page) (unfinished : Bool) (offset : ℕ) (page : Page) → ends_open (joined_lacing before) ≡ unfinished → misplaced (behind_pages before) unfinished offset page ≡ None → FitsInOrder before page
fits before unfinished offset page e m =
    let a = guard_none (list_any is_last before) (AfterEos offset) _ m in
    let b = guard_none (is_other_number (number_after before) page.sequence) (Sequence offset) _ a.1 in
    let d = guard_none (differ (is_continued page) unfinished) (Continued offset) _ b.1 in
    record {
      continued = same_flag (is_continued page) unfinished d.0 ∙ sym e;
      sequence = right_number before page.sequence b.0;
      last = a.0;
    }

number_pushed : (before : List Page) (page : Page) → number_after (before ++ page ∷ []) ≡ Some (page.sequence + 1)
number_pushed [] page = refl
number_pushed (p ∷ pages) page = ap (λ n. let some : Option ℕ = Some n in some) (fold-append (λ (found : ℕ) (q : Page). q.sequence + 1) 0 (p ∷ pages) (page ∷ []))

abbrev behind_of : Option ℕ → Bool → Behind
behind_of number ended = record { number = number; ended = ended }

behind_pushed : (before : List Page) (page : Page) → list_any is_last before ≡ false → behind_page page ≡ behind_pages (before ++ page ∷ [])
behind_pushed before page last =
    let ended : list_any is_last (before ++ page ∷ []) ≡ is_last page = list_any-append is_last before (page ∷ []) ∙ ap (λ b. b || (is_last page || false)) last ∙ or-false (is_last page) in
    ap (λ n. behind_of n (is_last page)) (sym (number_pushed before page)) ∙ ap (behind_of (number_after (before ++ page ∷ []))) (sym ended)

-- ---- all that is found

-- what is found is pages
abbrev pub AllFound : List FoundPage → Type 0
AllFound [] = Unit {0}
AllFound (Ok at ∷ found) = IsPage at.1 × AllFound found
AllFound (Err fault ∷ found) = Unit {0}

read_found : (offset : ℕ) (read : Result Page PageFault) → AllFound (fault_of offset read)
read_found offset (Ok page) = tt
read_found offset (Err fault) = tt

fault_found : (offset : ℕ) (rest : List ℕ) → AllFound (fault_at offset rest)
fault_found offset [] = tt
fault_found offset (byte ∷ rest) = read_found offset (page_at (byte ∷ rest))

located_found : (offset : ℕ) (pages : List Page) (behind : List FoundPage) → AllByRecursion IsPage pages → AllFound behind → AllFound (located offset pages ++ behind)
located_found offset [] behind are all = all
located_found offset (page ∷ pages) behind are all = (are.0, located_found (offset + page_size page) pages behind are.1 all)

-- the packets after earlier pages of the stream, which hold those before
record HeldFrom (serial : ℕ) (earlier : List Page) (before : List (List ℕ)) (found : List FoundPage) (left : PacketsLeft) : Type 0 where
  pub good : List (ℕ × Page)
  pub rest : List FoundPage
  pub split : found ≡ map found_page good ++ rest
  pub segments : ℕ
  pub unfinished : List ℕ
  pub holds : HoldsPackets (earlier ++ pages_of_stream serial good) (before ++ texts left.packets) segments unfinished
  pub positions : map (λ (packet : PacketParts). packet.position) left.packets ≡ flat_map positions_of (pages_of_stream serial good)
  pub fit : EachBehind FitsInOrder earlier (pages_of_stream serial good)
  pub fault : IsFaultBehind serial (earlier ++ pages_of_stream serial good) segments rest left.fault

stops : (serial : ℕ) (earlier : List Page) (before : List (List ℕ)) (segments : ℕ) (unfinished : List ℕ) (rest : List FoundPage) (fault : Option ViewFault) →
    HoldsPackets earlier before segments unfinished → IsFaultBehind serial earlier segments rest fault → HeldFrom serial earlier before rest (no_packet fault)
stops serial earlier before segments unfinished rest fault holds is = record {
  good = [];
  rest = rest;
  split = refl;
  segments = segments;
  unfinished = unfinished;
  holds = subst (λ (l : List Page). HoldsPackets l (before ++ []) segments unfinished) (sym (append-nil earlier))
      (subst (λ (l : List (List ℕ)). HoldsPackets earlier l segments unfinished) (sym (append-nil before)) holds);
  positions = refl;
  fit = tt;
  fault = subst (λ (l : List Page). IsFaultBehind serial l segments rest fault) (sym (append-nil earlier)) is;
}

passes : (serial : ℕ) (earlier : List Page) (before : List (List ℕ)) (at : ℕ × Page) (found : List FoundPage) (left : PacketsLeft) → nat_eq at.1.serial serial ≡ false →
    HeldFrom serial earlier before found left → HeldFrom serial earlier before (Ok at ∷ found) left
passes serial earlier before at found left other h =
    let same : pages_of_stream serial (at ∷ h.good) ≡ pages_of_stream serial h.good = pick_false (nat_eq at.1.serial serial) _ _ other in
    record {
      good = at ∷ h.good;
      rest = h.rest;
      split = ap (λ l. found_page at ∷ l) h.split;
      segments = h.segments;
      unfinished = h.unfinished;
      holds = subst (λ (l : List Page). HoldsPackets (earlier ++ l) (before ++ texts left.packets) h.segments h.unfinished) (sym same) h.holds;
      positions = h.positions ∙ ap (λ (l : List Page). flat_map positions_of l) (sym same);
      fit = subst (λ (l : List Page). EachBehind FitsInOrder earlier l) (sym same) h.fit;
      fault = subst (λ (l : List Page). IsFaultBehind serial (earlier ++ l) h.segments h.rest left.fault) (sym same) h.fault;
    }

adds : (serial : ℕ) (earlier : List Page) (before : List (List ℕ)) (at : ℕ × Page) (found : List FoundPage) (packets : List PacketParts) (left : PacketsLeft) → nat_eq at.1.serial serial ≡ true →
    map (λ (packet : PacketParts). packet.position) packets ≡ positions_of at.1 → FitsInOrder earlier at.1 →
    HeldFrom serial (earlier ++ at.1 ∷ []) (before ++ texts packets) found left → HeldFrom serial earlier before (Ok at ∷ found) (after_packets packets left)
adds serial earlier before at found packets left its positions fit h =
    let mine : List Page = pages_of_stream serial h.good in
    let same : pages_of_stream serial (at ∷ h.good) ≡ at.1 ∷ mine = pick_true (nat_eq at.1.serial serial) _ _ its in
    let pages : (earlier ++ at.1 ∷ []) ++ mine ≡ earlier ++ pages_of_stream serial (at ∷ h.good) = append_assoc earlier (at.1 ∷ []) mine ∙ ap (λ l. earlier ++ l) (sym same) in
    let all : (before ++ texts packets) ++ texts left.packets ≡ before ++ texts (packets ++ left.packets) =
    append_assoc before (texts packets) (texts left.packets) ∙ ap (λ l. before ++ l) (sym (map-append (λ (p : PacketParts). joined_parts p.parts) packets left.packets)) in
    record {
      good = at ∷ h.good;
      rest = h.rest;
      split = ap (λ l. found_page at ∷ l) h.split;
      segments = h.segments;
      unfinished = h.unfinished;
      holds = subst (λ (l : List Page). HoldsPackets l (before ++ texts (packets ++ left.packets)) h.segments h.unfinished) pages
          (subst (λ (l : List (List ℕ)). HoldsPackets ((earlier ++ at.1 ∷ []) ++ mine) l h.segments h.unfinished) all h.holds);
      positions =
          map-append (λ (packet : PacketParts). packet.position) packets left.packets
          ∙ ap (λ l. l ++ map (λ (packet : PacketParts). packet.position) left.packets) positions
          ∙ ap (λ l. positions_of at.1 ++ l) h.positions
          ∙ ap (λ (l : List Page). flat_map positions_of l) (sym same);
      fit = subst (λ (l : List Page). EachBehind FitsInOrder earlier l) (sym same) (fit, h.fit);
      fault = subst (λ (l : List Page). IsFaultBehind serial l h.segments h.rest left.fault) pages h.fault;
    }

turned : (s t : Bool) (x y : Option ViewFault) → s ≡ not t → (if s then x else y) ≡ (if t then y else x)
turned true true x y e = absurd (cc)
turned true false x y e = refl
turned false true x y e = refl
turned false false x y e = absurd (cc)

-- a page of the stream, misplaced or not
by_misplaced : (serial : ℕ) (behind : Behind) (parts : List Part) (earlier : List Page) (before : List (List ℕ)) (segments : ℕ) (at : ℕ × Page) (found : List FoundPage) → IsPage at.1 →
    HoldsPackets earlier before segments (joined_parts parts) → behind ≡ behind_pages earlier → is_some_part parts ≡ not (nat_eq segments 0) → nat_eq at.1.serial serial ≡ true →
    ((left : ℕ) → HoldsPackets (earlier ++ at.1 ∷ []) (before ++ texts (ended_in parts at)) left (joined_parts (begun_behind parts at)) → behind_page at.1 ≡ behind_pages (earlier ++ at.1 ∷ []) →
    is_some_part (begun_behind parts at) ≡ not (nat_eq left 0) →
    HeldFrom serial (earlier ++ at.1 ∷ []) (before ++ texts (ended_in parts at)) found (packets_from serial (behind_page at.1) (begun_behind parts at) found)) →
    (m : Option ViewFault) → misplaced behind (is_some_part parts) at.0 at.1 ≡ m → HeldFrom serial earlier before (Ok at ∷ found) (by_place serial parts at.0 at.1 found m)
by_misplaced serial behind parts earlier before segments at found is holds b some its later (Some fault) m =
    let same : misplaced behind (is_some_part parts) at.0 at.1 ≡ misplaced (behind_pages earlier) (not (nat_eq segments 0)) at.0 at.1 =
    ap (λ l. misplaced l (is_some_part parts) at.0 at.1) b ∙ ap (λ u. misplaced (behind_pages earlier) u at.0 at.1) some in
    stops serial earlier before segments (joined_parts parts) (Ok at ∷ found) (Some fault) holds (its, sym m ∙ same, refl)
by_misplaced serial behind parts earlier before segments at found is holds b some its later None m =
    let same : misplaced behind (is_some_part parts) at.0 at.1 ≡ misplaced (behind_pages earlier) (not (nat_eq segments 0)) at.0 at.1 =
    ap (λ l. misplaced l (is_some_part parts) at.0 at.1) b ∙ ap (λ u. misplaced (behind_pages earlier) u at.0 at.1) some in
    let fit : FitsInOrder earlier at.1 = fits earlier (not (nat_eq segments 0)) at.0 at.1 (goes_on_behind earlier before segments (joined_parts parts) holds) (sym same ∙ m) in
    let c : Cuts segments (joined_parts parts) at.1.lacing at.1.body (ended_in parts at) (begun_behind parts at) =
    cuts at.1.lacing segments 0 0 segments (body_place at.0 at.1) (position_in at.1) parts at.1.body is.lacing (omega (arith, is.whole)) (omega arith) (omega arith) holds.rest_size some in
    adds serial earlier before at found (ended_in parts at) (packets_from serial (behind_page at.1) (begun_behind parts at) found) its
    (positions_in at.1.lacing (position_in at.1) parts (body_place at.0 at.1) 0 at.1.body) fit
    (later c.left (holds_more earlier at.1 before segments parts (ended_in parts at) (begun_behind parts at) holds c) (behind_pushed earlier at.1 fit.last) c.some)

by_serial : (serial : ℕ) (earlier : List Page) (before : List (List ℕ)) (behind : Behind) (parts : List Part) (at : ℕ × Page) (found : List FoundPage) (t : Bool) → nat_eq at.1.serial serial ≡ t →
    HeldFrom serial earlier before found (packets_from serial behind parts found) →
    (nat_eq at.1.serial serial ≡ true → HeldFrom serial earlier before (Ok at ∷ found) (by_place serial parts at.0 at.1 found (misplaced behind (is_some_part parts) at.0 at.1))) →
    HeldFrom serial earlier before (Ok at ∷ found) (packets_from serial behind parts (Ok at ∷ found))
unfolding packets_from
by_serial serial earlier before behind parts at found true t other its =
    subst (λ (l : PacketsLeft). HeldFrom serial earlier before (Ok at ∷ found) l) (sym (from-page serial behind parts at.0 at.1 found t)) (its t)
by_serial serial earlier before behind parts at found false t other its =
    subst (λ (l : PacketsLeft). HeldFrom serial earlier before (Ok at ∷ found) l) (sym (pick_false (nat_eq at.1.serial serial) _ _ t)) (passes serial earlier before at found _ t other)

held_from : (found : List FoundPage) (serial : ℕ) (behind : Behind) (parts : List Part) (earlier : List Page) (before : List (List ℕ)) (segments : ℕ) → AllFound found →
    HoldsPackets earlier before segments (joined_parts parts) → behind ≡ behind_pages earlier → is_some_part parts ≡ not (nat_eq segments 0) →
    HeldFrom serial earlier before found (packets_from serial behind parts found)
unfolding packets_from
held_from [] serial behind parts earlier before segments all holds b some =
    stops serial earlier before segments (joined_parts parts) [] _ holds (turned (is_some_part parts) (nat_eq segments 0) (Some Unfinished) None some)
held_from (Err fault ∷ found) serial behind parts earlier before segments all holds b some =
    stops serial earlier before segments (joined_parts parts) (Err fault ∷ found) _ holds refl
held_from (Ok at ∷ found) serial behind parts earlier before segments all holds b some =
    by_serial serial earlier before behind parts at found (nat_eq at.1.serial serial) refl
    (held_from found serial behind parts earlier before segments all.1 holds b some)
    (λ its. by_misplaced serial behind parts earlier before segments at found all.0 holds b some its
    (λ left h p s. held_from found serial (behind_page at.1) (begun_behind parts at) (earlier ++ at.1 ∷ []) (before ++ texts (ended_in parts at)) left all.1 h p s)
    (misplaced behind (is_some_part parts) at.0 at.1) refl)

pub all_are_pages : (offset : ℕ) (bytes : List ℕ) → AreBytes bytes → AllFound (found_in offset bytes)
all_are_pages offset bytes are =
    let found : FoundFrom (record { offset = offset; bytes = bytes }) (found_in offset bytes) = all_found (length bytes) offset bytes are (omega arith) in
    subst (λ (l : List FoundPage). AllFound l) (sym found.all)
    (located_found offset found.pages (fault_at (offset + length (bytes_of_pages found.pages)) found.rest) found.begins.are_pages (fault_found (offset + length (bytes_of_pages found.pages)) found.rest))

pub all_held : (serial : ℕ) (bytes : List ℕ) → AreBytes bytes → AreHeld serial (found_in 0 bytes) (packets_of serial bytes)
all_held serial bytes are =
    let h : HeldFrom serial [] [] (found_in 0 bytes) (packets_of serial bytes) =
    held_from (found_in 0 bytes) serial (record { number = None; ended = false }) [] [] [] 0 (all_are_pages 0 bytes are) (record { lacing = refl; bodies = refl; rest_size = refl }) refl refl in
    record { good = h.good; rest = h.rest; split = h.split; segments = h.segments; unfinished = h.unfinished; holds = h.holds; positions = h.positions; fit = h.fit; fault = h.fault }
