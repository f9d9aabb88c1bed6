-- The texts of lines.
use Rattle.std.proofs.Common.{◌≡◌, ℕ, ◌^◌, ◌<◌, ◌≤◌, false, List, [], ◌∷◌, ◌++◌, length, Option, Some, None, arith, refl, ap, sym, ◌∙◌, append_assoc, length-append, slice_index, ◌==◌, lit≤}
use Rattle.std.proofs.lemmas.Bool.{cond-false, ne_eqb}
use Rattle.std.proofs.lemmas.Fmt.{decimal_is_IsNumeral, length-decimal-le}
use Rattle.std.proofs.lemmas.List.{append_cancel_left}
use Rattle.std.proofs.lemmas.Str.Parse.{digit_from_value}
use Rattle.std.specs.Fmt.{decimal}
use Rattle.std.specs.Str.Parse.{AllDigits}
use Rattle.archive_times.specs.Reading.{join_read, line_read, number_on}
use Rattle.archive_times.specs.Times.{IsJoin, IsLine, join_text, line_text}
use Rattle.archive_times.specs.declared.line.Join.{Join}
use Rattle.archive_times.specs.declared.line.Line.{Line}
use Rattle.archive_times.specs.Numbers.{number_is_read}

-- a number begins with no dash
no_dash : (digits rest : List ℕ) → 0 < length digits → AllDigits 10 digits → (slice_index (digits ++ rest) 0 == 45) ≡ false
no_dash [] rest some all = absurd (omega (arith, some))
no_dash (c ∷ digits) rest some all =
    let range = digit_from_value c all.0 in
    ne_eqb c 45 (λ e. omega (arith, range.0, e))

abbrev make : ℕ → ℕ → Option Join → Line
make offset time join = record { offset = offset; time = time; join = join }

line_of : (offset time : ℕ) (join : Option Join) (line : Line) → offset ≡ line.offset → time ≡ line.time → join ≡ line.join
    → make offset time join ≡ line
line_of offset time join line o t j =
    ap (λ x. make x time join) o ∙ ap (λ x. make line.offset x join) t ∙ ap (make line.offset line.time) j

both : {A B : Type 0} {a b : A} {c d : B} → a ≡ b → c ≡ d → let p : A × B = (a, c) in p ≡ (b, d)
both e f = cc

-- two numbers in turn, after each a byte that is no digit
join_is_read : (offset : ℕ) (join : Option Join) (rest : List ℕ) → offset < 2 ^ 64 → IsJoin offset join → join_read (join_text join ++ rest) ≡ join
join_is_read offset None rest small is = refl
join_is_read offset (Some join) rest small is =
    let begin_small : join.begin < 2 ^ 64 = omega (arith, is.0, is.1, small) in
    let begun_small : join.begun < 2 ^ 64 = omega (arith, is.1, small) in
    let after : List ℕ = decimal join.begun ++ 10 ∷ rest in
    let text : List ℕ = join_text (Some join) ++ rest in
    let inner : (decimal join.begun ++ 10 ∷ []) ++ rest ≡ after = append_assoc (decimal join.begun) (10 ∷ []) rest in
    let shape : text ≡ decimal join.begin ++ 32 ∷ after =
    append_assoc (decimal join.begin) (32 ∷ (decimal join.begun ++ 10 ∷ [])) rest ∙ ap (λ t. decimal join.begin ++ 32 ∷ t) inner in
    let numeral = (decimal_is_IsNumeral join.begin begin_small).0 in
    let first : number_on 0 text ≡ (join.begin, after) = ap (number_on 0) shape ∙ number_is_read join.begin 32 after begin_small refl in
    let second : number_on 0 (number_on 0 text).1 ≡ (join.begun, rest) =
    ap (λ (p : ℕ × List ℕ). number_on 0 p.1) first ∙ number_is_read join.begun 10 rest begun_small refl in
    let dash : (slice_index text 0 == 45) ≡ false =
    ap (λ t. slice_index t 0 == 45) shape ∙ no_dash (decimal join.begin) (32 ∷ after) numeral.0 numeral.1 in
    cond-false (slice_index text 0 == 45) None (Some (record { begin = (number_on 0 text).0; begun = (number_on 0 (number_on 0 text).1).0 })) dash
    ∙ ap (λ (p : (ℕ × List ℕ) × (ℕ × List ℕ)). let j : Join = record { begin = p.0.0; begun = p.1.0 } in Some j) (both first second)

-- a line that is written is read
pub line_is_read : (committed : ℕ) (line : Line) (rest : List ℕ) → committed < 2 ^ 64 → IsLine committed line → line_read (line_text line ++ rest) ≡ line
line_is_read committed line rest small is =
    let offset_small : line.offset < 2 ^ 64 = omega (arith, is.0, small) in
    let ending : List ℕ = join_text line.join ++ rest in
    let after : List ℕ = decimal line.time ++ 32 ∷ ending in
    let text : List ℕ = line_text line ++ rest in
    let inner : (decimal line.time ++ 32 ∷ join_text line.join) ++ rest ≡ after = append_assoc (decimal line.time) (32 ∷ join_text line.join) rest in
    let shape : text ≡ decimal line.offset ++ 32 ∷ after =
    append_assoc (decimal line.offset) (32 ∷ (decimal line.time ++ 32 ∷ join_text line.join)) rest ∙ ap (λ t. decimal line.offset ++ 32 ∷ t) inner in
    let first : number_on 0 text ≡ (line.offset, after) = ap (number_on 0) shape ∙ number_is_read line.offset 32 after offset_small refl in
    let second : number_on 0 (number_on 0 text).1 ≡ (line.time, ending) =
    ap (λ (p : ℕ × List ℕ). number_on 0 p.1) first ∙ number_is_read line.time 32 ending is.1 refl in
    let third : join_read (number_on 0 (number_on 0 text).1).1 ≡ line.join =
    ap (λ (p : ℕ × List ℕ). join_read p.1) second ∙ join_is_read line.offset line.join rest offset_small is.2 in
    line_of _ _ _ line (ap (λ (p : ℕ × List ℕ). p.0) first) (ap (λ (p : ℕ × List ℕ). p.0) second) third

-- no line is empty
pub text_is_some : (line : Line) → 0 < length (line_text line)
text_is_some line =
    omega (arith, length-append (decimal line.offset) (32 ∷ (decimal line.time ++ 32 ∷ join_text line.join)))

number_short : (n : ℕ) → n < 2 ^ 64 → length (decimal n) ≤ 20
number_short n small = length-decimal-le 20 n (omega arith) (omega (arith, small)) small

-- no line is longer than 84 bytes
abbrev pub JoinFits : Option Join → Type 0
JoinFits None = Unit {0}
JoinFits (Some join) = (join.begin < 2 ^ 64) × (join.begun < 2 ^ 64)

join_short : (join : Option Join) → JoinFits join → length (join_text join) ≤ 42
join_short None fits = lit≤ tt
join_short (Some join) fits =
    let a : length (decimal join.begin) ≤ 20 = number_short join.begin fits.0 in
    let b : length (decimal join.begun) ≤ 20 = number_short join.begun fits.1 in
    omega (arith, a, b, length-append (decimal join.begin) (32 ∷ (decimal join.begun ++ 10 ∷ [])), length-append (decimal join.begun) (10 ∷ []))

pub text_short : (line : Line) → line.offset < 2 ^ 64 → line.time < 2 ^ 64 → JoinFits line.join → length (line_text line) ≤ 84
text_short line offset time join =
    let a : length (decimal line.offset) ≤ 20 = number_short line.offset offset in
    let b : length (decimal line.time) ≤ 20 = number_short line.time time in
    let j : length (join_text line.join) ≤ 42 = join_short line.join join in
    omega (
      arith,
      a,
      b,
      j,
      length-append (decimal line.offset) (32 ∷ (decimal line.time ++ 32 ∷ join_text line.join)),
      length-append (decimal line.time) (32 ∷ join_text line.join),
    )

-- two lines of one text are the same, and so is what follows them
pub same_line : (committed : ℕ) (a b : Line) (rest after text : List ℕ) → committed < 2 ^ 64 → IsLine committed a → IsLine committed b
    → text ≡ line_text a ++ rest → text ≡ line_text b ++ after → (a ≡ b) × (rest ≡ after)
same_line committed a b rest after text small is_a is_b of_a of_b =
    let lines : a ≡ b = sym (line_is_read committed a rest small is_a) ∙ ap line_read (sym of_a ∙ of_b) ∙ line_is_read committed b after small is_b in
    let texts : line_text a ++ rest ≡ line_text a ++ after = sym of_a ∙ of_b ∙ ap (λ l. line_text l ++ after) (sym lines) in
    (lines, append_cancel_left (line_text a) rest after texts)

-- a text that begins with a line is read as that line
pub read_of : (committed : ℕ) (line : Line) (rest text : List ℕ) → committed < 2 ^ 64 → IsLine committed line → text ≡ line_text line ++ rest → line_read text ≡ line
read_of committed line rest text small is e = ap line_read e ∙ line_is_read committed line rest small is

pub join_fits : (offset : ℕ) (join : Option Join) → offset < 2 ^ 64 → IsJoin offset join → JoinFits join
join_fits offset None small is = tt
join_fits offset (Some join) small is = (omega (arith, is.0, is.1, small), omega (arith, is.1, small))

pub line_short : (committed : ℕ) (line : Line) → committed < 2 ^ 64 → IsLine committed line → length (line_text line) ≤ 84
line_short committed line small is =
    let offset : line.offset < 2 ^ 64 = omega (arith, is.0, small) in
    text_short line offset is.1 (join_fits line.offset line.join offset is.2)
