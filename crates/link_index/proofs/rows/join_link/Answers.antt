use Rattle.std.proofs.Common.{◌≡◌, ◌+◌, ◌++◌, ℕ, List, [], ◌∷◌, length, sym, ◌∙◌, ap, subst, arith, length-append}
use Rattle.ogg_page.specs.Page.{page_bytes}
use Rattle.link_index.specs.declared.info.StreamInfo.{StreamInfo}
use Rattle.link_index.specs.declared.rows.Row.{Row}
use Rattle.link_index.specs.Growth.{joined_entry, change_last, first_info}
use Rattle.link_index.specs.Rows.{ArePacked, AreWithin, entries_of, last_count}
use Rattle.link_index.proofs.Packing.{grown, last_at, packed_at, packed_with, rows_joined, joined_within}
use Rattle.link_index.proofs.rows.join_link.Goals as goal

pub overflow_add-last-2 : goal.overflow_add-last-2
overflow_add-last-2 c =
    omega (arith, c.requires.few, ap last_count c.take_last-last.ensures.items, last_at c.take_last-last.new.self.items c.take_last-last.result)

pub returns-clause-entries : goal.returns-clause-entries
returns-clause-entries c =
    let rows : List Row = c.take_last-last.new.self.items in
    let row : Row = c.take_last-last.result in
    let streams : List StreamInfo = c.args.streams.now.items in
    let was : c.args.rows.now.items ≡ rows ++ row ∷ [] = c.take_last-last.ensures.items in
    let now : c.push_reserved.new.self.items ≡ rows ++ grown row (length (page_bytes c.args.page.now)) 1 ∷ [] =
    c.push_reserved.ensures.items ∙ ap (λ (b : List ℕ). rows ++ grown row (length b) 1 ∷ []) c.whole.ensures.bytes in
    let more : c.push_reserved-2.new.self.items ≡ streams ++ first_info c.args.page.now ∷ [] =
    c.push_reserved-2.ensures.items ∙ ap (λ (s : StreamInfo). streams ++ s ∷ []) c.first_info.ensures in
    ap (λ (s : List StreamInfo). entries_of s c.push_reserved.new.self.items) more
    ∙ ap (entries_of (streams ++ first_info c.args.page.now ∷ [])) now
    ∙ rows_joined streams rows row c.args.page.now (subst (λ (r : List Row). ArePacked 0 r (length streams)) was c.requires.packed)
    ∙ ap (λ (r : List Row). change_last (joined_entry c.args.page.now) (entries_of streams r)) (sym was)

pub returns-clause-packed : goal.returns-clause-packed
returns-clause-packed c =
    let rows : List Row = c.take_last-last.new.self.items in
    let row : Row = c.take_last-last.result in
    let streams : List StreamInfo = c.args.streams.now.items in
    let was : c.args.rows.now.items ≡ rows ++ row ∷ [] = c.take_last-last.ensures.items in
    let at : ArePacked 0 rows row.first × (row.first + row.count ≡ length streams) =
    packed_at rows row 0 (length streams) (subst (λ (r : List Row). ArePacked 0 r (length streams)) was c.requires.packed) in
    subst (λ (r : List Row). ArePacked 0 r (length c.push_reserved-2.new.self.items)) (sym c.push_reserved.ensures.items)
    (packed_with rows (grown row (length c.whole.result.now) 1) 0 (length c.push_reserved-2.new.self.items) at.0
    (omega (arith, at.1, ap length c.push_reserved-2.ensures.items, length-append streams (c.first_info.result ∷ []))))

pub returns-clause-last : goal.returns-clause-last
returns-clause-last c =
    let rows : List Row = c.take_last-last.new.self.items in
    let row : Row = c.take_last-last.result in
    ap last_count c.push_reserved.ensures.items ∙ last_at rows (grown row (length c.whole.result.now) 1)
    ∙ ap (λ n. n + 1) (sym (ap last_count c.take_last-last.ensures.items ∙ last_at rows row))

pub returns-clause-within : goal.returns-clause-within
returns-clause-within c = λ total w.
    let rows : List Row = c.take_last-last.new.self.items in
    let row : Row = c.take_last-last.result in
    let streams : List StreamInfo = c.args.streams.now.items in
    let new_row : Row = grown row (length c.whole.result.now) 1 in
    let more : c.push_reserved-2.new.self.items ≡ streams ++ first_info c.args.page.now ∷ [] =
    c.push_reserved-2.ensures.items ∙ ap (λ (s : StreamInfo). streams ++ s ∷ []) c.first_info.ensures in
    subst (λ (r : List Row). AreWithin (total + length (page_bytes c.args.page.now)) r c.push_reserved-2.new.self.items) (sym c.push_reserved.ensures.items)
    (subst (AreWithin (total + length (page_bytes c.args.page.now)) (rows ++ new_row ∷ [])) (sym more)
    (joined_within total rows row new_row streams c.args.page.now (ap (λ (b : List ℕ). row.length + length b) c.whole.ensures.bytes)
    (subst (λ (r : List Row). AreWithin total r streams) c.take_last-last.ensures.items w)))
