use Rattle.std.proofs.Common.{◌≡◌, ◌+◌, ◌++◌, ℕ, List, [], ◌∷◌, length, sym, ◌∙◌, ap, subst, arith, length-append}
use Rattle.ogg_page.specs.Page.{page_bytes}
use Rattle.link_index.specs.declared.info.StreamInfo.{StreamInfo}
use Rattle.link_index.specs.declared.rows.Row.{Row}
use Rattle.link_index.specs.Growth.{first_info}
use Rattle.link_index.specs.Rows.{ArePacked, AreWithin, entries_of, last_count}
use Rattle.link_index.proofs.Packing.{last_at, packed_with, rows_opened, opened_within}
use Rattle.link_index.proofs.rows.open_link.Goals as goal

abbrev new_row : ℕ → ℕ → ℕ → Row
new_row start size first = record { start = start; length = size; first = first; count = 1 }

pub returns-clause-entries : goal.returns-clause-entries
returns-clause-entries c =
    let rows : List Row = c.args.rows.now.items in
    let streams : List StreamInfo = c.args.streams.now.items in
    let row : Row = new_row c.args.start (length c.whole.result.now) c.len.result in
    let is : row ≡ new_row c.args.start (length (page_bytes c.args.page.now)) (length streams) =
    ap (λ (b : List ℕ). new_row c.args.start (length b) c.len.result) c.whole.ensures.bytes
    ∙ ap (new_row c.args.start (length (page_bytes c.args.page.now))) (omega (arith, c.len.ensures, c.args.streams.now.ok.0)) in
    let more : c.push_reserved-2.new.self.items ≡ streams ++ first_info c.args.page.now ∷ [] =
    c.push_reserved-2.ensures.items ∙ ap (λ (s : StreamInfo). streams ++ s ∷ []) c.first_info.ensures in
    ap (λ (s : List StreamInfo). entries_of s c.push_reserved.new.self.items) more
    ∙ ap (entries_of (streams ++ first_info c.args.page.now ∷ [])) c.push_reserved.ensures.items
    ∙ rows_opened streams rows c.args.page.now row c.args.start c.requires.packed is

pub returns-clause-packed : goal.returns-clause-packed
returns-clause-packed c =
    let rows : List Row = c.args.rows.now.items in
    let streams : List StreamInfo = c.args.streams.now.items in
    let row : Row = new_row c.args.start (length c.whole.result.now) c.len.result in
    let first : length streams ≡ c.len.result = omega (arith, c.len.ensures, c.args.streams.now.ok.0) in
    subst (λ (r : List Row). ArePacked 0 r (length c.push_reserved-2.new.self.items)) (sym c.push_reserved.ensures.items)
    (packed_with rows row 0 (length c.push_reserved-2.new.self.items) (subst (ArePacked 0 rows) first c.requires.packed)
    (omega (arith, first, ap length c.push_reserved-2.ensures.items, length-append streams (c.first_info.result ∷ []))))

pub returns-clause-last : goal.returns-clause-last
returns-clause-last c =
    ap last_count c.push_reserved.ensures.items ∙ last_at c.args.rows.now.items (new_row c.args.start (length c.whole.result.now) c.len.result)

pub returns-clause-within : goal.returns-clause-within
returns-clause-within c = λ total w.
    let rows : List Row = c.args.rows.now.items in
    let streams : List StreamInfo = c.args.streams.now.items in
    let row : Row = new_row c.args.start (length c.whole.result.now) c.len.result in
    let more : c.push_reserved-2.new.self.items ≡ streams ++ first_info c.args.page.now ∷ [] =
    c.push_reserved-2.ensures.items ∙ ap (λ (s : StreamInfo). streams ++ s ∷ []) c.first_info.ensures in
    subst (λ (r : List Row). AreWithin (total + length (page_bytes c.args.page.now)) r c.push_reserved-2.new.self.items) (sym c.push_reserved.ensures.items)
    (subst (AreWithin (total + length (page_bytes c.args.page.now)) (rows ++ row ∷ [])) (sym more)
    (opened_within total rows row streams c.args.page.now (ap length c.whole.ensures.bytes) w))
