use Rattle.std.proofs.Common.{◌≡◌, ◌≤◌, ◌+◌, ◌++◌, ℕ, List, [], ◌∷◌, length, map, sym, ◌∙◌, ap, subst, arith, length-append}
use Rattle.std.specs.List.{AllByRecursion}
use Rattle.std.proofs.lemmas.List.{length-map}
use Rattle.ogg_page.specs.Page.{page_bytes}
use Rattle.link_index.specs.declared.info.StreamInfo.{StreamInfo}
use Rattle.link_index.specs.declared.rows.Row.{Row}
use Rattle.link_index.specs.Growth.{continued_entry, change_last, counted}
use Rattle.link_index.specs.Rows.{ArePacked, AreWithin, entries_of, last_count}
use Rattle.link_chain.specs.Laws.LastLink.{all_split}
use Rattle.link_index.proofs.Packing.{grown, last_at, packed_at, packed_with, rows_continued, continued_within}
use Rattle.link_index.proofs.rows.continue_link.Goals as goal

pub split_at_mut-own-requires : goal.split_at_mut-own-requires
split_at_mut-own-requires c =
    let at : ArePacked 0 c.take_last-last.new.self.items c.take_last-last.result.first × (c.take_last-last.result.first + c.take_last-last.result.count ≡ length c.args.streams.now) =
    packed_at c.take_last-last.new.self.items c.take_last-last.result 0 (length c.args.streams.now) (subst (λ (r : List Row). ArePacked 0 r (length c.args.streams.now)) c.take_last-last.ensures.items c.requires.packed) in
    omega (arith, at.1)

pub count_page-requires : goal.count_page-requires
count_page-requires c =
    let total : ℕ = c.requires.within.0 in (
      total,
      record {
        lengths = tt;
        sizes = (
            all_split (λ (s : StreamInfo). (s.bytes ≤ total) × (s.pages ≤ total)) c.split_at_mut-own.result.0.now c.split_at_mut-own.result.1.now
            (subst (AllByRecursion (λ (s : StreamInfo). (s.bytes ≤ total) × (s.pages ≤ total))) c.split_at_mut-own.ensures.value c.requires.within.1.sizes)
            ).1;
      },
      c.requires.within.2,
    )

pub returns-clause-entries : goal.returns-clause-entries
returns-clause-entries c =
    let rows : List Row = c.take_last-last.new.self.items in
    let row : Row = c.take_last-last.result in
    let front : List StreamInfo = c.split_at_mut-own.result.0.now in
    let own : List StreamInfo = c.split_at_mut-own.result.1.now in
    let was : c.args.rows.now.items ≡ rows ++ row ∷ [] = c.take_last-last.ensures.items in
    let at : ArePacked 0 rows row.first × (row.first + row.count ≡ length c.args.streams.now) =
    packed_at rows row 0 (length c.args.streams.now) (subst (λ (r : List Row). ArePacked 0 r (length c.args.streams.now)) was c.requires.packed) in
    let now : c.push_reserved.new.self.items ≡ rows ++ grown row (length (page_bytes c.args.page.now)) 0 ∷ [] =
    c.push_reserved.ensures.items
    ∙ ap (λ (b : List ℕ). rows ++ record { start = row.start; length = row.length + length b; first = row.first; count = row.count } ∷ []) c.whole.ensures.bytes
    ∙ ap (λ (n : ℕ). rows ++ record { start = row.start; length = row.length + length (page_bytes c.args.page.now); first = row.first; count = n } ∷ []) (omega arith) in
    ap (λ (s : List StreamInfo). entries_of (front ++ s) c.push_reserved.new.self.items) c.count_page.ensures
    ∙ ap (entries_of (front ++ map (counted c.args.page.now) own)) now
    ∙ rows_continued front own rows row c.args.page.now (sym c.split_at_mut-own.ensures.front_len) at.0
    ∙ ap (λ (s : List StreamInfo). change_last (continued_entry c.args.page.now) (entries_of s (rows ++ row ∷ []))) (sym c.split_at_mut-own.ensures.value)
    ∙ ap (λ (r : List Row). change_last (continued_entry c.args.page.now) (entries_of c.args.streams.now r)) (sym was)

pub returns-clause-packed : goal.returns-clause-packed
returns-clause-packed c =
    let rows : List Row = c.take_last-last.new.self.items in
    let row : Row = c.take_last-last.result in
    let front : List StreamInfo = c.split_at_mut-own.result.0.now in
    let own : List StreamInfo = c.split_at_mut-own.result.1.now in
    let at : ArePacked 0 rows row.first × (row.first + row.count ≡ length c.args.streams.now) =
    packed_at rows row 0 (length c.args.streams.now) (subst (λ (r : List Row). ArePacked 0 r (length c.args.streams.now)) c.take_last-last.ensures.items c.requires.packed) in
    let size : length (front ++ c.count_page.new.streams) ≡ length c.args.streams.now =
    ap (λ (s : List StreamInfo). length (front ++ s)) c.count_page.ensures
    ∙ length-append front (map (counted c.args.page.now) own) ∙ ap (λ n. length front + n) (length-map own (counted c.args.page.now))
    ∙ sym (length-append front own) ∙ ap length (sym c.split_at_mut-own.ensures.value) in
    subst (λ (r : List Row). ArePacked 0 r (length (front ++ c.count_page.new.streams))) (sym c.push_reserved.ensures.items)
    (packed_with rows (record { start = row.start; length = row.length + length c.whole.result.now; first = row.first; count = row.count }) 0 (length (front ++ c.count_page.new.streams)) at.0 (at.1 ∙ sym size))

pub returns-clause-last : goal.returns-clause-last
returns-clause-last c =
    let rows : List Row = c.take_last-last.new.self.items in
    let row : Row = c.take_last-last.result in
    ap last_count c.push_reserved.ensures.items
    ∙ last_at rows (record { start = row.start; length = row.length + length c.whole.result.now; first = row.first; count = row.count })
    ∙ sym (ap last_count c.take_last-last.ensures.items ∙ last_at rows row)

pub returns-clause-within : goal.returns-clause-within
returns-clause-within c = λ total w.
    let rows : List Row = c.take_last-last.new.self.items in
    let row : Row = c.take_last-last.result in
    let front : List StreamInfo = c.split_at_mut-own.result.0.now in
    let own : List StreamInfo = c.split_at_mut-own.result.1.now in
    let new_row : Row = record { start = row.start; length = row.length + length c.whole.result.now; first = row.first; count = row.count } in
    subst (λ (r : List Row). AreWithin (total + length (page_bytes c.args.page.now)) r (front ++ c.count_page.new.streams)) (sym c.push_reserved.ensures.items)
    (subst (λ (s : List StreamInfo). AreWithin (total + length (page_bytes c.args.page.now)) (rows ++ new_row ∷ []) (front ++ s)) (sym c.count_page.ensures)
    (continued_within total rows row new_row front own c.args.page.now (ap (λ (b : List ℕ). row.length + length b) c.whole.ensures.bytes)
    (subst (AreWithin total (rows ++ row ∷ [])) c.split_at_mut-own.ensures.value
    (subst (λ (r : List Row). AreWithin total r c.args.streams.now) c.take_last-last.ensures.items w))))
