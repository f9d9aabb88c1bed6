-- The commands of links add up to what the links hold.
use Rattle.std.proofs.Common.{◌≡◌, ℕ, zero, suc, ◌+◌, ◌-◌, Bool, true, false, cond, List, [], ◌∷◌, ◌++◌, length, map, take, drop, refl, sym, ◌∙◌, ap, subst, arith, append_assoc, append-nil, eq-eqb, inl, inr, None, fold, take_all, drop-drop}
use Rattle.std.specs.Prelude.{nat_eq, ◌||◌}
use Rattle.std.specs.List.{AllByRecursion, AllZip, IsDistinct, flat_map, list_any}
use Rattle.std.proofs.lemmas.List.Concat.{flat_map-append}
use Rattle.std.proofs.lemmas.List.Sums.{fold-append}
use Rattle.std.proofs.lemmas.List.Elements.{filter-append}
use Rattle.std.proofs.lemmas.Bool.{ne_eqb, cases_Bool, cases_eq, cond-true, cond-false}
use Rattle.ogg_page.specs.Page.{Page}
use Rattle.ogg_page.specs.Lacing.{lace}
use Rattle.ogg_page.specs.LogicalStream.{joined_lacing, is_last}
use Rattle.packetiser.specs.Run.{packets_ended}
use Rattle.link_chain.specs.Links.{IsLink, AreLinks, pages_with, serials_of, has_ended}
use Rattle.chain_rules.specs.Recording.{Stream, Recording, HoldsStream, HoldsLink, HoldsLinks, with_packet, with_end, add, after, begun, begun_link}
use Rattle.ogg_command.specs.declared.command.Command.TheVariants.{End as EndOf}
use Rattle.ogg_command.specs.declared.command.Entry.{Entry}
use Rattle.link_chain.specs.Laws.Grow.{ended_both, all_weaker}
use Rattle.import_commands.specs.Laws.{after_put, ended_app, ended_packets}
use Rattle.import_commands.specs.Commands.{packets_of, ended_in, page_packets, entry_of, put_of, end_of, page_commands, pages_commands, new_stream, link_commands, commands_of}
use Rattle.std.proofs.Math.Bool.{or-false}
use Rattle.link_chain.specs.Laws.LastLink.{last_changed}
use Rattle.link_chain.specs.Laws.StateBehind.{map-map}

-- ---- lists
pub map_alike : {A B : Type 0} (f g : A → B) (xs : List A) → AllByRecursion (λ x. f x ≡ g x) xs → map f xs ≡ map g xs
map_alike f g [] h = refl
map_alike f g (x ∷ xs) h = ap (λ y. y ∷ map f xs) h.0 ∙ ap (λ l. g x ∷ l) (map_alike f g xs h.1)

pub map_self : {A : Type 0} (f : A → A) (xs : List A) → AllByRecursion (λ x. f x ≡ x) xs → map f xs ≡ xs
map_self f [] h = refl
map_self f (x ∷ xs) h = ap (λ y. y ∷ map f xs) h.0 ∙ ap (λ l. x ∷ l) (map_self f xs h.1)

pub every : {A : Type 0} (P : A → Type 0) → ((x : A) → P x) → (xs : List A) → AllByRecursion P xs
every P h [] = tt
every P h (x ∷ xs) = (h x, every P h xs)

pub dropped_take : {A : Type 0} (k n : ℕ) (xs : List A) → drop k (take n xs) ≡ take (n - k) (drop k xs)
dropped_take zero n xs = ap (λ m. take m xs) (less n)
  where
    less : (n : ℕ) → n ≡ n - 0
    less n = omega arith
dropped_take (suc k) zero xs = none (0 - suc k) (nothing k)
  where
    nothing : (k : ℕ) → 0 - suc k ≡ 0
    nothing k = omega arith

    none : (m : ℕ) → m ≡ 0 → [] ≡ take m (drop (suc k) xs)
    none m e = sym (ap (λ m. take m (drop (suc k) xs)) e)
dropped_take (suc k) (suc n) [] = sym (take_all (suc n - suc k) [] (omega arith))
dropped_take (suc k) (suc n) (x ∷ xs) = dropped_take k n xs ∙ ap (λ m. take m (drop k xs)) (less n k)
  where
    less : (n k : ℕ) → n - k ≡ suc n - suc k
    less n k = omega arith

taken_on : {A : Type 0} (m j : ℕ) (xs : List A) → take m xs ++ take j (drop m xs) ≡ take (m + j) xs
taken_on zero j xs = ap (λ k. take k xs) (start j)
  where
    start : (j : ℕ) → j ≡ 0 + j
    start j = omega arith
taken_on (suc m) j [] = take_all j [] (omega arith) ∙ sym (take_all (suc m + j) [] (omega arith))
taken_on (suc m) j (x ∷ xs) = ap (λ l. x ∷ l) (taken_on m j xs) ∙ ap (λ k. take k (x ∷ xs)) (next m j)
  where
    next : (m j : ℕ) → suc (m + j) ≡ suc m + j
    next m j = omega arith

-- the number of packets that are taken, with the headers and with those after them
sum_is : (h a n : ℕ) → (a + (h - a)) + (n - (h - a)) ≡ (a + n) + (h - (a + n))
sum_is h a n = omega arith

next_packets : (h a n : ℕ) (packets : List (List ℕ)) →
    take (a + (h - a)) packets ++ drop (h - a) (take n (drop a packets)) ≡ take ((a + n) + (h - (a + n))) packets
next_packets h a n packets =
    ap (λ l. take (a + (h - a)) packets ++ l) (dropped_take (h - a) n (drop a packets) ∙ ap (take (n - (h - a))) (drop-drop (h - a) a packets))
    ∙ taken_on (a + (h - a)) (n - (h - a)) packets
    ∙ ap (λ m. take m packets) (sum_is h a n)

ended_held : (pages : List Page) (serial : ℕ) (stream : Stream) → HoldsStream pages serial stream → ended_in pages serial ≡ length stream.packets
ended_held pages serial stream h =
    ap packets_ended (h.packets.lacing ∙ append-nil (flat_map lace stream.packets)) ∙ ended_packets stream.packets

-- the pages of a stream in one more page
own_one : (serial : ℕ) (page : Page) → page.serial ≡ serial → pages_with serial (page ∷ []) ≡ page ∷ []
own_one serial page e = cond-true (nat_eq page.serial serial) (page ∷ []) [] (eq-eqb page.serial serial e)

other_one : (serial : ℕ) (page : Page) → (page.serial ≡ serial → ⊥) → pages_with serial (page ∷ []) ≡ []
other_one serial page ne = cond-false (nat_eq page.serial serial) (page ∷ []) [] (ne_eqb page.serial serial ne)

pub ended_more : (before : List Page) (page : Page) (serial : ℕ) → ended_in (before ++ page ∷ []) serial ≡ ended_in before serial + ended_in (page ∷ []) serial
ended_more before page serial =
    ap (λ l. packets_ended (joined_lacing l)) (filter-append (λ (p : Page). nat_eq p.serial serial) before (page ∷ []))
    ∙ ap packets_ended (flat_map-append (λ (p : Page). p.lacing) (pages_with serial before) (pages_with serial (page ∷ [])))
    ∙ ended_app (joined_lacing (pages_with serial before)) (joined_lacing (pages_with serial (page ∷ [])))

pub ended_here : (serial : ℕ) (page : Page) → page.serial ≡ serial → ended_in (page ∷ []) serial ≡ packets_ended page.lacing
ended_here serial page e = ap (λ l. packets_ended (joined_lacing l)) (own_one serial page e) ∙ ap packets_ended (append-nil page.lacing)

ended_elsewhere : (serial : ℕ) (page : Page) → (page.serial ≡ serial → ⊥) → ended_in (page ∷ []) serial ≡ 0
ended_elsewhere serial page ne = ap (λ l. packets_ended (joined_lacing l)) (other_one serial page ne)

-- ---- one stream, after pages: its headers, and its packets that have ended
abbrev pub behind : (ℕ → ℕ) → List Page → Stream → Stream
behind headers before stream =
    record {
      serial = stream.serial;
      packets = take (ended_in before stream.serial + (headers stream.serial - ended_in before stream.serial)) stream.packets;
      ended = has_ended before stream.serial;
    }

abbrev pub stream_of : ℕ → List (List ℕ) → Bool → Stream
stream_of serial packets ended = record { serial = serial; packets = packets; ended = ended }

abbrev pub grow : Stream → Entry → Stream
grow stream entry = cond (nat_eq stream.serial entry.serial) (record stream { packets = stream.packets ++ entry.packet ∷ [] }) stream

abbrev end_at : ℕ → Stream → Stream
end_at serial stream = cond (nat_eq stream.serial serial) (record stream { ended = true }) stream

abbrev pub end_by : Page → Stream → Stream
end_by page stream = cond (is_last page) (end_at page.serial stream) stream

pub folded : (f : Stream → Stream) (entries : List Entry) (streams : List Stream) → fold with_packet (map f streams) entries ≡ map (λ stream. fold grow (f stream) entries) streams
folded f [] streams = refl
folded f (entry ∷ entries) streams =
    ap (λ l. fold with_packet l entries) (map-map (λ (s : Stream). grow s entry) f streams)
    ∙ folded (λ stream. grow (f stream) entry) entries streams

grown_here : (page : Page) (packets : List (List ℕ)) (serial : ℕ) (had : List (List ℕ)) (ended : Bool) → page.serial ≡ serial →
    fold grow (stream_of serial had ended) (map (entry_of page) packets) ≡ stream_of serial (had ++ packets) ended
grown_here page [] serial had ended e = ap (λ l. stream_of serial l ended) (sym (append-nil had))
grown_here page (packet ∷ packets) serial had ended e =
    ap (λ s. fold grow s (map (entry_of page) packets))
    (cond-true (nat_eq serial page.serial) (stream_of serial (had ++ packet ∷ []) ended) (stream_of serial had ended) (eq-eqb serial page.serial (sym e)))
    ∙ grown_here page packets serial (had ++ packet ∷ []) ended e
    ∙ ap (λ l. stream_of serial l ended) (append_assoc had (packet ∷ []) packets)

grown_elsewhere : (page : Page) (packets : List (List ℕ)) (serial : ℕ) (had : List (List ℕ)) (ended : Bool) → (page.serial ≡ serial → ⊥) →
    fold grow (stream_of serial had ended) (map (entry_of page) packets) ≡ stream_of serial had ended
grown_elsewhere page [] serial had ended ne = refl
grown_elsewhere page (packet ∷ packets) serial had ended ne =
    ap (λ s. fold grow s (map (entry_of page) packets))
    (cond-false (nat_eq serial page.serial) (stream_of serial (had ++ packet ∷ []) ended) (stream_of serial had ended) (ne_eqb serial page.serial (λ e. ne (sym e))))
    ∙ grown_elsewhere page packets serial had ended ne

-- the page's stream ends if the page is its last
ends_here : (page : Page) (serial : ℕ) (packets : List (List ℕ)) (ended : Bool) → page.serial ≡ serial →
    end_by page (stream_of serial packets ended) ≡ stream_of serial packets (ended || (is_last page || false))
ends_here page serial packets ended e =
    elim (cases_Bool (is_last page)) [
      | inl last ↦
          cond-true (is_last page) (end_at page.serial (stream_of serial packets ended)) (stream_of serial packets ended) last
          ∙ cond-true (nat_eq serial page.serial) (stream_of serial packets true) (stream_of serial packets ended) (eq-eqb serial page.serial (sym e))
          ∙ ap (stream_of serial packets) (sym (both ended (is_last page) last))
      | inr not_last ↦
          cond-false (is_last page) (end_at page.serial (stream_of serial packets ended)) (stream_of serial packets ended) not_last
          ∙ ap (stream_of serial packets) (sym (same ended (is_last page) not_last))
    ]
  where
    both : (a b : Bool) → b ≡ true → (a || (b || false)) ≡ true
    both true b e = refl
    both false true e = refl
    both false false e = cc

    same : (a b : Bool) → b ≡ false → (a || (b || false)) ≡ a
    same true b e = refl
    same false true e = cc
    same false false e = refl

ends_elsewhere : (page : Page) (serial : ℕ) (packets : List (List ℕ)) (ended : Bool) → (page.serial ≡ serial → ⊥) →
    end_by page (stream_of serial packets ended) ≡ stream_of serial packets ended
ends_elsewhere page serial packets ended ne = by_case (is_last page)
  where
    not_here : end_at page.serial (stream_of serial packets ended) ≡ stream_of serial packets ended
    not_here = cond-false (nat_eq serial page.serial) (stream_of serial packets true) (stream_of serial packets ended) (ne_eqb serial page.serial (λ e. ne (sym e)))

    by_case : (b : Bool) → cond b (end_at page.serial (stream_of serial packets ended)) (stream_of serial packets ended) ≡ stream_of serial packets ended
    by_case true = not_here
    by_case false = refl

-- one more page
abbrev pub IsFound : List Stream → Stream → Type 0
IsFound streams stream = packets_of streams stream.serial ≡ stream.packets

pub one_page : (headers : ℕ → ℕ) (streams : List Stream) (before : List Page) (page : Page) (stream : Stream) → IsFound streams stream →
    end_by page (fold grow (behind headers before stream) (map (entry_of page) (page_packets headers streams before page))) ≡ behind headers (before ++ page ∷ []) stream
one_page headers streams before page stream found =
    let serial : ℕ = stream.serial in
    let a : ℕ = ended_in before serial in
    let h : ℕ = headers serial in
    let had : List (List ℕ) = take (a + (h - a)) stream.packets in
    let ended : Bool = has_ended before serial in
    let at : ℕ → List (List ℕ) = λ e. take (e + (h - e)) stream.packets in
    let ended_is : has_ended (before ++ page ∷ []) serial ≡ (ended || list_any is_last (pages_with serial (page ∷ []))) = ended_both serial before (page ∷ []) in
    elim (cases_eq page.serial serial) [
      | inl same ↦
          let n : ℕ = packets_ended page.lacing in
          let packets : List (List ℕ) = drop (h - a) (take n (drop a stream.packets)) in
          let packets_are : page_packets headers streams before page ≡ packets =
          ap (λ s. drop (headers s - ended_in before s) (take n (drop (ended_in before s) (packets_of streams s)))) same
          ∙ ap (λ l. drop (h - a) (take n (drop a l))) found in
          let count : a + n ≡ ended_in (before ++ page ∷ []) serial =
          sym (ended_more before page serial ∙ ap (λ m. a + m) (ended_here serial page same)) in
          ap (λ l. end_by page (fold grow (behind headers before stream) (map (entry_of page) l))) packets_are
          ∙ ap (end_by page) (grown_here page packets serial had ended same)
          ∙ ends_here page serial (had ++ packets) ended same
          ∙ ap (λ l. stream_of serial l (ended || (is_last page || false))) (next_packets h a n stream.packets ∙ ap at count)
          ∙ ap (stream_of serial (at (ended_in (before ++ page ∷ []) serial)))
          (sym (ended_is ∙ ap (λ l. ended || list_any is_last l) (own_one serial page same)))
      | inr other ↦
          let count : a ≡ ended_in (before ++ page ∷ []) serial =
          sym (ended_more before page serial ∙ ap (λ m. a + m) (ended_elsewhere serial page other) ∙ no_more a) in
          ap (end_by page) (grown_elsewhere page (page_packets headers streams before page) serial had ended other)
          ∙ ends_elsewhere page serial had ended other
          ∙ ap (λ l. stream_of serial l ended) (ap at count)
          ∙ ap (stream_of serial (at (ended_in (before ++ page ∷ []) serial)))
          (sym (ended_is ∙ ap (λ l. ended || list_any is_last l) (other_one serial page other) ∙ or-false ended))
    ]
  where
    no_more : (n : ℕ) → n + 0 ≡ n
    no_more n = omega arith

-- ---- the last link
after_end : (recording : Recording) (f : Stream → Stream) (streams : List Stream) (page : Page) →
    after (recording ++ map f streams ∷ []) (end_of page) ≡ recording ++ map (λ s. end_by page (f s)) streams ∷ []
after_end recording f streams page = by_case (is_last page)
  where
    by_case : (b : Bool) → after (recording ++ map f streams ∷ []) (cond b (EndOf page.serial ∷ []) []) ≡ recording ++ map (λ s. cond b (end_at page.serial (f s)) (f s)) streams ∷ []
    by_case true = last_changed (with_end page.serial) recording (map f streams) ∙ ap (λ l. recording ++ l ∷ []) (map-map (end_at page.serial) f streams)
    by_case false = refl

after_page : (headers : ℕ → ℕ) (recording : Recording) (streams : List Stream) (before : List Page) (page : Page) → AllByRecursion (IsFound streams) streams →
    after (recording ++ map (behind headers before) streams ∷ []) (page_commands headers streams before page)
    ≡ recording ++ map (behind headers (before ++ page ∷ [])) streams ∷ []
after_page headers recording streams before page found =
    let entries : List Entry = map (entry_of page) (page_packets headers streams before page) in
    fold-append add (recording ++ map (behind headers before) streams ∷ []) (put_of entries) (end_of page)
    ∙ ap (λ r. after r (end_of page)) (after_put recording (map (behind headers before) streams) entries ∙ ap (λ l. recording ++ l ∷ []) (folded (behind headers before) entries streams))
    ∙ after_end recording (λ stream. fold grow (behind headers before stream) entries) streams page
    ∙ ap (λ l. recording ++ l ∷ [])
    (map_alike (λ s. end_by page (fold grow (behind headers before s) entries)) (behind headers (before ++ page ∷ [])) streams
    (all_weaker (IsFound streams) (λ s. end_by page (fold grow (behind headers before s) entries) ≡ behind headers (before ++ page ∷ []) s)
    (λ s f. one_page headers streams before page s f) streams found))

after_pages : (headers : ℕ → ℕ) (recording : Recording) (streams : List Stream) (before pages : List Page) → AllByRecursion (IsFound streams) streams →
    after (recording ++ map (behind headers before) streams ∷ []) (pages_commands headers streams before pages)
    ≡ recording ++ map (behind headers (before ++ pages)) streams ∷ []
after_pages headers recording streams before [] found = ap (λ l. recording ++ map (behind headers l) streams ∷ []) (sym (append-nil before))
after_pages headers recording streams before (page ∷ pages) found =
    fold-append add (recording ++ map (behind headers before) streams ∷ []) (page_commands headers streams before page) (pages_commands headers streams (before ++ page ∷ []) pages)
    ∙ ap (λ r. after r (pages_commands headers streams (before ++ page ∷ []) pages)) (after_page headers recording streams before page found)
    ∙ after_pages headers recording streams (before ++ page ∷ []) pages found
    ∙ ap (λ l. recording ++ map (behind headers l) streams ∷ []) (append_assoc before (page ∷ []) pages)

-- ---- a link
pub serials_held : (link : List Page) (serials : List ℕ) (streams : List Stream) → AllZip (HoldsStream link) serials streams → map (λ (s : Stream). s.serial) streams ≡ serials
serials_held link [] [] h = refl
serials_held link [] (s ∷ streams) h = absurd h
serials_held link (n ∷ serials) [] h = absurd h
serials_held link (n ∷ serials) (s ∷ streams) h =
    ap (λ m. m ∷ map (λ (s : Stream). s.serial) streams) h.0.serial_is ∙ ap (λ l. n ∷ l) (serials_held link serials streams h.1)

pass : (x : Stream) (all streams : List Stream) → AllByRecursion (λ n. nat_eq x.serial n ≡ false) (map (λ (s : Stream). s.serial) streams) →
    AllByRecursion (IsFound all) streams → AllByRecursion (IsFound (x ∷ all)) streams
pass x all [] d h = tt
pass x all (s ∷ streams) d h =
    (cond-false (nat_eq x.serial s.serial) x.packets (packets_of all s.serial) d.0 ∙ h.0, pass x all streams d.1 h.1)

pub all_found : (streams : List Stream) → IsDistinct nat_eq (map (λ (s : Stream). s.serial) streams) → AllByRecursion (IsFound streams) streams
unfolding IsDistinct
all_found [] d = tt
all_found (x ∷ streams) d =
    (cond-true (nat_eq x.serial x.serial) x.packets (packets_of streams x.serial) (eq-eqb x.serial x.serial refl), pass x streams streams d.0 (all_found streams d.1))

pub begun_as : (headers : ℕ → ℕ) (streams : List Stream) → begun_link None (map (new_stream headers) streams) ≡ map (behind headers []) streams
begun_as headers streams =
    map-map begun (new_stream headers) streams
    ∙ map_alike (λ s. begun (new_stream headers s)) (behind headers []) streams
    (every (λ s. begun (new_stream headers s) ≡ behind headers [] s) (λ s. ap (λ n. stream_of s.serial (take n s.packets) false) (none (headers s.serial))) streams)
  where
    none : (h : ℕ) → h ≡ 0 + (h - 0)
    none h = omega arith

pub held_whole : (headers : ℕ → ℕ) (link : List Page) (serials : List ℕ) (streams : List Stream) → AllZip (HoldsStream link) serials streams →
    AllByRecursion (λ s. behind headers link s ≡ s) streams
held_whole headers link [] [] h = tt
held_whole headers link [] (s ∷ streams) h = absurd h
held_whole headers link (n ∷ serials) [] h = absurd h
held_whole headers link (n ∷ serials) (s ∷ streams) h =
    let own : HoldsStream link s.serial s = subst (λ (m : ℕ). HoldsStream link m s) (sym h.0.serial_is) h.0 in
    let count : ended_in link s.serial ≡ length s.packets = ended_held link s.serial s own in (
      ap (λ l. stream_of s.serial l (has_ended link s.serial))
          (take_all (ended_in link s.serial + (headers s.serial - ended_in link s.serial)) s.packets (omega (arith, count)))
          ∙ ap (stream_of s.serial s.packets) (sym own.ended),
      held_whole headers link serials streams h.1,
    )

after_link : (headers : ℕ → ℕ) (recording : Recording) (link : List Page) (streams : List Stream) → IsLink link → HoldsLink link streams →
    after recording (link_commands headers link streams) ≡ recording ++ streams ∷ []
after_link headers recording link streams l h =
    let distinct : IsDistinct nat_eq (map (λ (s : Stream). s.serial) streams) =
    subst (λ (n : List ℕ). IsDistinct nat_eq n) (sym (serials_held link (serials_of link) streams h)) l.distinct in
    ap (λ s. after (recording ++ s ∷ []) (pages_commands headers streams [] link)) (begun_as headers streams)
    ∙ after_pages headers recording streams [] link (all_found streams distinct)
    ∙ ap (λ s. recording ++ s ∷ []) (map_self (behind headers link) streams (held_whole headers link (serials_of link) streams h))

after_links : (headers : List Stream → ℕ → ℕ) (start : Recording) (links : List (List Page)) (recording : Recording) → AllByRecursion IsLink links → HoldsLinks links recording →
    after start (commands_of headers links recording) ≡ start ++ recording
after_links headers start [] [] each h = sym (append-nil start)
after_links headers start [] (r ∷ recording) each h = absurd h
after_links headers start (link ∷ links) [] each h = absurd h
after_links headers start (link ∷ links) (r ∷ recording) each h =
    fold-append add start (link_commands (headers r) link r) (commands_of headers links recording)
    ∙ ap (λ s. after s (commands_of headers links recording)) (after_link (headers r) start link r each.0 h.0)
    ∙ after_links headers (start ++ r ∷ []) links recording each.1 h.1
    ∙ append_assoc start (r ∷ []) recording

pub add_up : (headers : List Stream → ℕ → ℕ) (bytes : List ℕ) (links : List (List Page)) (recording : Recording) → AreLinks bytes links → HoldsLinks links recording →
    after [] (commands_of headers links recording) ≡ recording
add_up headers bytes links recording are h = after_links headers [] links recording are.each h
