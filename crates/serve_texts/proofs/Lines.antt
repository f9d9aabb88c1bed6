-- A field is looked for line by line.
use Rattle.std.proofs.Common.{◌≡◌, ◌≢◌, ℕ, zero, suc, ◌+◌, ◌-◌, Bool, true, false, cond, ◌==◌, List, [], Some, length, take, drop, arith, refl, ap, sym, ◌∙◌}
use Rattle.serve_texts.specs.Heard.{is_field, line_end, trimmed, value_among, value_at}

-- one line is looked at, and then the others
more_lines : (lines : ℕ) (name text : List ℕ) → lines ≢ 0 → value_among lines name text ≡ value_at (value_among (lines - 1) name) name (line_end text) text
more_lines zero name text some = absurd (some refl)
more_lines (suc lines) name text some =
    let e : lines ≡ suc lines - 1 = omega arith in
    ap (λ n. value_at (value_among n name) name (line_end text) text) e

third_of : (a b : Bool) (x y z : List ℕ) → a ≡ false → b ≡ false → cond a x (cond b y z) ≡ z
third_of true b x y z h g = absurd (cc h)
third_of false true x y z h g = absurd (cc g)
third_of false false x y z h g = refl

-- the same of a line that has come
at_line : (lines end : ℕ) (name text line : List ℕ) → lines ≢ 0 → line_end text ≡ Some end → line ≡ trimmed (take end text) → value_among lines name text ≡ cond (length line == 0) [] (cond (is_field name line) (trimmed (drop (length name) line)) (value_among (lines - 1) name (drop (end + 1) text)))
at_line lines end name text line some here is =
    more_lines lines name text some
    ∙ ap (λ o. value_at (value_among (lines - 1) name) name o text) here
    ∙ ap (λ l. cond (length l == 0) [] (cond (is_field name l) (trimmed (drop (length name) l)) (value_among (lines - 1) name (drop (end + 1) text)))) (sym is)

pub after_it : (lines end : ℕ) (name text line : List ℕ) → lines ≢ 0 → line_end text ≡ Some end → line ≡ trimmed (take end text) → (length line == 0) ≡ false → is_field name line ≡ false → value_among lines name text ≡ value_among (lines - 1) name (drop (end + 1) text)
after_it lines end name text line some here is full other =
    at_line lines end name text line some here is
    ∙ third_of (length line == 0) (is_field name line) [] (trimmed (drop (length name) line)) (value_among (lines - 1) name (drop (end + 1) text)) full other
