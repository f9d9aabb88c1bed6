-- Rows whose streams stand one after the other.
use Rattle.std.proofs.Common.{◌≡◌, ℕ, ◌+◌, ◌<◌, ◌≤◌, List, [], ◌∷◌, ◌++◌, length, map, take, drop, refl, sym, ◌∙◌, ap, subst, arith, length-append, append_assoc}
use Rattle.std.proofs.Common.{zero, suc, get_or, Some}
use Rattle.std.proofs.lemmas.Option.{slice_get_within, get_or_from_slice_get}
use Rattle.std.specs.Prelude.{nat_eq, ◌||◌, slice_get}
use Rattle.std.specs.List.{AllByRecursion}
use Rattle.std.proofs.lemmas.Bool.{cond_both}
use Rattle.ogg_page.specs.PageLaws.{length-page_bytes}
use Rattle.ogg_page.specs.LogicalStream.{is_last}
use Rattle.std.proofs.lemmas.List.{append-nil, take-append-le, take-append-drop, drop-take, take-map, take_all, length-take-le, map-append}
use Rattle.ogg_page.specs.Page.{Page, page_bytes}
use Rattle.link_index.specs.declared.info.StreamInfo.{StreamInfo}
use Rattle.link_index.specs.declared.rows.Row.{Row}
use Rattle.link_index.specs.Rows.{ArePacked, AreWithin, entry_of, entries_of, last_count}
use Rattle.link_index.specs.Growth.{first_info, counted, opened_entry, joined_entry, continued_entry, change_last}
use Rattle.link_index.proofs.Growing.{entry}
use Rattle.link_chain.specs.Laws.LastLink.{all_split, last_changed}
use Rattle.ogg_page.specs.Laws.PageBytes.{all_both}
use Rattle.link_chain.specs.Laws.Grow.{all_weaker}

-- ---- the ends of rows
pub packed_at : (rows : List Row) (row : Row) (at end : ℕ) → ArePacked at (rows ++ row ∷ []) end → ArePacked at rows row.first × (row.first + row.count ≡ end)
packed_at [] row at end p = (sym p.0, ap (λ n. n + row.count) p.0 ∙ p.1)
packed_at (first ∷ rows) row at end p =
    let rest : ArePacked (at + first.count) rows row.first × (row.first + row.count ≡ end) = packed_at rows row (at + first.count) end p.1 in
    ((p.0, rest.0), rest.1)

pub packed_with : (rows : List Row) (row : Row) (at end : ℕ) → ArePacked at rows row.first → row.first + row.count ≡ end → ArePacked at (rows ++ row ∷ []) end
packed_with [] row at end p e = (sym p, ap (λ n. n + row.count) p ∙ e)
packed_with (first ∷ rows) row at end p e = (p.0, packed_with rows row (at + first.count) end p.1 e)

packed_end : (rows : List Row) (at end : ℕ) → ArePacked at rows end → at ≤ end
packed_end [] at end p = omega (arith, p)
packed_end (row ∷ rows) at end p = omega (arith, packed_end rows (at + row.count) end p.1)

-- each row's streams stand before the end
pub packed_inside : (rows : List Row) (at end : ℕ) → ArePacked at rows end → AllByRecursion (λ (row : Row). row.first + row.count ≤ end) rows
packed_inside [] at end p = tt
packed_inside (row ∷ rows) at end p = (omega (arith, p.0, packed_end rows (at + row.count) end p.1), packed_inside rows (at + row.count) end p.1)

pub last_at : (rows : List Row) (row : Row) → last_count (rows ++ row ∷ []) ≡ row.count
last_at [] row = refl
last_at (a ∷ []) row = refl
last_at (a ∷ b ∷ rows) row = last_at (b ∷ rows) row

pub all_at : {X : Type 0} (P : X → Type 0) (xs : List X) (x : X) → AllByRecursion P (xs ++ x ∷ []) → AllByRecursion P xs × P x
all_at P [] x a = (tt, a.0)
all_at P (y ∷ xs) x a =
    let rest : AllByRecursion P xs × P x = all_at P xs x a.1 in
    ((a.0, rest.0), rest.1)

-- ---- what rows say of their links
pub all_more : (rows : List Row) {end more : ℕ} → AllByRecursion (λ (row : Row). row.first + row.count ≤ end) rows → end ≤ more → AllByRecursion (λ (row : Row). row.first + row.count ≤ more) rows
all_more [] p le = tt
all_more (row ∷ rows) p le = (omega (arith, p.0, le), all_more rows p.1 le)

cut_front : (n : ℕ) (front own : List StreamInfo) (k : ℕ) → k + n ≤ length front → take n (drop k (front ++ own)) ≡ take n (drop k front)
cut_front n front own k inside =
    sym (drop-take k n (front ++ own)) ∙ ap (drop k) (take-append-le (k + n) front own inside) ∙ drop-take k n front

entries_front : (front own other : List StreamInfo) (rows : List Row) → AllByRecursion (λ (row : Row). row.first + row.count ≤ length front) rows
    → entries_of (front ++ own) rows ≡ entries_of (front ++ other) rows
entries_front front own other [] inside = refl
entries_front front own other (row ∷ rows) inside =
    ap (λ (s : List StreamInfo). entry row.start row.length row.count s ∷ entries_of (front ++ own) rows) (cut_front row.count front own row.first inside.0 ∙ sym (cut_front row.count front other row.first inside.0))
    ∙ ap (λ l. entry_of (front ++ other) row ∷ l) (entries_front front own other rows inside.1)

-- ---- another row, or another page in the last one
abbrev pub grown : Row → ℕ → ℕ → Row
grown row size streams = record { start = row.start; length = row.length + size; first = row.first; count = row.count + streams }

entries_at : (streams : List StreamInfo) (rows : List Row) (row : Row) → entries_of streams (rows ++ row ∷ []) ≡ entries_of streams rows ++ entry_of streams row ∷ []
entries_at streams rows row = map-append (entry_of streams) rows (row ∷ [])

cut_at : (front own : List StreamInfo) (first n : ℕ) → first ≡ length front → take n (drop first (front ++ own)) ≡ take n own
cut_at front own first n at = ap (λ k. take n (drop k (front ++ own))) at ∙ ap (take n) (behind front own)
  where
    behind : (front own : List StreamInfo) → drop (length front) (front ++ own) ≡ own
    behind [] own = refl
    behind (x ∷ front) own = behind front own

take_just : (own : List StreamInfo) (n : ℕ) → length own ≡ n → take n own ≡ own
take_just own n e = take_all n own (omega (arith, e))

pub rows_opened : (streams : List StreamInfo) (rows : List Row) (page : Page) (row : Row) (start : ℕ) → ArePacked 0 rows (length streams)
    → row ≡ record { start = start; length = length (page_bytes page); first = length streams; count = 1 }
    → entries_of (streams ++ first_info page ∷ []) (rows ++ row ∷ []) ≡ entries_of streams rows ++ opened_entry start page ∷ []
rows_opened streams rows page row start packed is =
    let more : List StreamInfo = first_info page ∷ [] in
    entries_at (streams ++ more) rows row
    ∙ ap (λ l. l ++ entry_of (streams ++ more) row ∷ [])
    (entries_front streams more [] rows (packed_inside rows 0 (length streams) packed) ∙ ap (λ s. entries_of s rows) (append-nil streams))
    ∙ ap (λ e. entries_of streams rows ++ e ∷ [])
    (ap (λ (r : Row). entry r.start r.length r.count (take r.count (drop r.first (streams ++ more)))) is
    ∙ ap (entry start (length (page_bytes page)) 1) (cut_at streams more (length streams) 1 refl))

pub rows_joined : (streams : List StreamInfo) (rows : List Row) (row : Row) (page : Page) → ArePacked 0 (rows ++ row ∷ []) (length streams)
    → entries_of (streams ++ first_info page ∷ []) (rows ++ grown row (length (page_bytes page)) 1 ∷ []) ≡ change_last (joined_entry page) (entries_of streams (rows ++ row ∷ []))
rows_joined streams rows row page packed =
    let more : List StreamInfo = first_info page ∷ [] in
    let at : ArePacked 0 rows row.first × (row.first + row.count ≡ length streams) = packed_at rows row 0 (length streams) packed in
    let front : List StreamInfo = take row.first streams in
    let own : List StreamInfo = drop row.first streams in
    let both : front ++ own ≡ streams = take-append-drop row.first streams in
    let size : length front ≡ row.first = length-take-le row.first streams (omega (arith, at.1)) in
    let count : length own ≡ row.count = omega (arith, at.1, size, length-append front own, ap length both) in
    let inside : AllByRecursion (λ (r : Row). r.first + r.count ≤ length streams) rows =
    all_more rows (packed_inside rows 0 row.first at.0) (omega (arith, at.1)) in
    let new_row : Row = grown row (length (page_bytes page)) 1 in
    let was : take row.count (drop row.first streams) ≡ own = take_just own row.count count in
    let now : take (row.count + 1) (drop row.first (streams ++ more)) ≡ own ++ more =
    ap (λ s. take (row.count + 1) (drop row.first (s ++ more))) (sym both)
    ∙ ap (λ s. take (row.count + 1) (drop row.first s)) (append_assoc front own more)
    ∙ cut_at front (own ++ more) row.first (row.count + 1) (sym size)
    ∙ take_just (own ++ more) (row.count + 1) (omega (arith, length-append own more, count)) in
    entries_at (streams ++ more) rows new_row
    ∙ ap (λ l. l ++ entry_of (streams ++ more) new_row ∷ []) (entries_front streams more [] rows inside ∙ ap (λ s. entries_of s rows) (append-nil streams))
    ∙ ap (λ s. entries_of streams rows ++ entry row.start (row.length + length (page_bytes page)) (row.count + 1) s ∷ []) (now ∙ ap (λ s. s ++ more) (sym was))
    ∙ sym (last_changed (joined_entry page) (entries_of streams rows) (entry_of streams row))
    ∙ ap (change_last (joined_entry page)) (sym (entries_at streams rows row))

pub rows_continued : (front own : List StreamInfo) (rows : List Row) (row : Row) (page : Page) → row.first ≡ length front → ArePacked 0 rows row.first
    → entries_of (front ++ map (counted page) own) (rows ++ grown row (length (page_bytes page)) 0 ∷ []) ≡ change_last (continued_entry page) (entries_of (front ++ own) (rows ++ row ∷ []))
rows_continued front own rows row page at packed =
    let now : List StreamInfo = map (counted page) own in
    let new_row : Row = grown row (length (page_bytes page)) 0 in
    let inside : AllByRecursion (λ (r : Row). r.first + r.count ≤ length front) rows = all_more rows (packed_inside rows 0 row.first packed) (omega (arith, at)) in
    let told_now : take (row.count + 0) (drop row.first (front ++ now)) ≡ map (counted page) (take row.count (drop row.first (front ++ own))) =
    ap (λ n. take n (drop row.first (front ++ now))) (omega arith)
    ∙ cut_at front now row.first row.count at
    ∙ take-map (counted page) row.count own
    ∙ ap (map (counted page)) (sym (cut_at front own row.first row.count at)) in
    entries_at (front ++ now) rows new_row
    ∙ ap (λ l. l ++ entry_of (front ++ now) new_row ∷ []) (entries_front front now own rows inside)
    ∙ ap (λ n. entries_of (front ++ own) rows ++ entry row.start (row.length + length (page_bytes page)) n (take (row.count + 0) (drop row.first (front ++ now))) ∷ []) (omega arith)
    ∙ ap (λ s. entries_of (front ++ own) rows ++ entry row.start (row.length + length (page_bytes page)) row.count s ∷ []) told_now
    ∙ sym (last_changed (continued_entry page) (entries_of (front ++ own) rows) (entry_of (front ++ own) row))
    ∙ ap (change_last (continued_entry page)) (sym (entries_at (front ++ own) rows row))

-- ---- bounds
some_bytes : (page : Page) → 1 ≤ length (page_bytes page)
some_bytes page = omega (arith, length-page_bytes page)

rows_more : (total size : ℕ) (rows : List Row) → AllByRecursion (λ (row : Row). row.length ≤ total) rows → AllByRecursion (λ (row : Row). row.length ≤ total + size) rows
rows_more total size rows a = all_weaker (λ (row : Row). row.length ≤ total) (λ (row : Row). row.length ≤ total + size) (λ row le. omega (arith, le)) rows a

abbrev Sized : ℕ → StreamInfo → Type 0
Sized total stream = (stream.bytes ≤ total) × (stream.pages ≤ total)

streams_more : (total size : ℕ) (streams : List StreamInfo) → AllByRecursion (Sized total) streams → AllByRecursion (Sized (total + size)) streams
streams_more total size streams a = all_weaker (Sized total) (Sized (total + size)) (λ s le. (omega (arith, le.0), omega (arith, le.1))) streams a

counted_sized : (total : ℕ) (page : Page) (stream : StreamInfo) → Sized total stream → Sized (total + length (page_bytes page)) (counted page stream)
counted_sized total page stream le =
    cond_both (nat_eq stream.serial page.serial)
    (record { serial = stream.serial; bytes = stream.bytes + length (page_bytes page); pages = stream.pages + 1; ended = stream.ended || is_last page }) stream
    (Sized (total + length (page_bytes page)))
    (λ _. (omega (arith, le.0), omega (arith, le.1, some_bytes page)))
    (λ _. (omega (arith, le.0), omega (arith, le.1)))

all_counted : (total : ℕ) (page : Page) (streams : List StreamInfo) → AllByRecursion (Sized total) streams → AllByRecursion (Sized (total + length (page_bytes page))) (map (counted page) streams)
all_counted total page [] a = tt
all_counted total page (stream ∷ streams) a = (counted_sized total page stream a.0, all_counted total page streams a.1)

pub opened_within : (total : ℕ) (rows : List Row) (row : Row) (streams : List StreamInfo) (page : Page) → row.length ≡ length (page_bytes page) → AreWithin total rows streams
    → AreWithin (total + length (page_bytes page)) (rows ++ row ∷ []) (streams ++ first_info page ∷ [])
opened_within total rows row streams page size w = record {
  lengths = all_both (λ (r : Row). r.length ≤ total + length (page_bytes page)) rows (row ∷ []) (rows_more total (length (page_bytes page)) rows w.lengths) (omega (arith, size), tt);
  sizes = all_both (Sized (total + length (page_bytes page))) streams (first_info page ∷ []) (streams_more total (length (page_bytes page)) streams w.sizes) ((omega arith, omega (arith, some_bytes page)), tt);
}

pub joined_within : (total : ℕ) (rows : List Row) (row new_row : Row) (streams : List StreamInfo) (page : Page) → new_row.length ≡ row.length + length (page_bytes page)
    → AreWithin total (rows ++ row ∷ []) streams → AreWithin (total + length (page_bytes page)) (rows ++ new_row ∷ []) (streams ++ first_info page ∷ [])
joined_within total rows row new_row streams page size w =
    let at : AllByRecursion (λ (r : Row). r.length ≤ total) rows × (row.length ≤ total) = all_at (λ (r : Row). r.length ≤ total) rows row w.lengths in
    record {
      lengths = all_both (λ (r : Row). r.length ≤ total + length (page_bytes page)) rows (new_row ∷ []) (rows_more total (length (page_bytes page)) rows at.0) (omega (arith, size, at.1), tt);
      sizes = all_both (Sized (total + length (page_bytes page))) streams (first_info page ∷ []) (streams_more total (length (page_bytes page)) streams w.sizes) ((omega arith, omega (arith, some_bytes page)), tt);
    }

pub continued_within : (total : ℕ) (rows : List Row) (row new_row : Row) (front own : List StreamInfo) (page : Page) → new_row.length ≡ row.length + length (page_bytes page)
    → AreWithin total (rows ++ row ∷ []) (front ++ own) → AreWithin (total + length (page_bytes page)) (rows ++ new_row ∷ []) (front ++ map (counted page) own)
continued_within total rows row new_row front own page size w =
    let at : AllByRecursion (λ (r : Row). r.length ≤ total) rows × (row.length ≤ total) = all_at (λ (r : Row). r.length ≤ total) rows row w.lengths in
    record {
      lengths = all_both (λ (r : Row). r.length ≤ total + length (page_bytes page)) rows (new_row ∷ []) (rows_more total (length (page_bytes page)) rows at.0) (omega (arith, size, at.1), tt);
      sizes = all_both (Sized (total + length (page_bytes page))) front (map (counted page) own) (streams_more total (length (page_bytes page)) front (all_split (Sized total) front own w.sizes).0)
          (all_counted total page own (all_split (Sized total) front own w.sizes).1);
    }

-- what holds of each holds of the one at this place
pub at_place : {X : Type 0} (P : X → Type 0) (xs : List X) (i : ℕ) (x : X) → slice_get xs i ≡ Some x → AllByRecursion P xs → P x
at_place P xs i x there all = subst P (get_or_from_slice_get xs i x x there) (at_index P xs i x all (slice_get_within xs i x there))
  where
    at_index : {X : Type 0} (P : X → Type 0) (xs : List X) (i : ℕ) (d : X) → AllByRecursion P xs → i < length xs → P (get_or xs i d)
    at_index P [] i d all inside = absurd (omega (arith, inside))
    at_index P (x ∷ xs) zero d all inside = all.0
    at_index P (x ∷ xs) (suc i) d all inside = at_index P xs i d all.1 (omega (arith, inside))
