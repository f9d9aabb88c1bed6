-- Escaped parts are printable, and a reader finds their ends.
use Rattle.std.proofs.Common.{◌≡◌, ℕ, ◌+◌, ◌/◌, ◌%◌, ◌≤◌, ◌<◌, Bool, true, false, cond, nat_lt, ◌==◌, ◌||◌, List, [], ◌∷◌, ◌++◌, Some, inl, inr, codes, arith, refl, ap, sym, ◌∙◌, append_assoc}
use Rattle.std.proofs.lemmas.Bool.{cases_lt, cond-true, cond-false, lt-ltb, ltb-true, ltb-false, ne_eqb}
use Rattle.std.proofs.lemmas.List.Elements.{All-nil, All-cons, All-head, All-tail, All-append}
use Rattle.std.specs.List.{All}
use Rattle.serve_texts.specs.Escape.{IsByte, IsPrintable, escape, escaped, hex_digit, hex_text, until_quote, with_front}

-- a choice of four
chosen : (P : List ℕ → Type 0) (x y z : Bool) (a b c d : List ℕ) → P a → P b → P c → (x ≡ false → y ≡ false → z ≡ false → P d) → P (cond x a (cond y b (cond z c d)))
chosen P true y z a b c d pa pb pc pd = pa
chosen P false true z a b c d pa pb pc pd = pb
chosen P false false true a b c d pa pb pc pd = pc
chosen P false false false a b c d pa pb pc pd = pd refl refl refl

neither : (a b : Bool) → (a || b) ≡ false → (a ≡ false) × (b ≡ false)
neither true b h = absurd (cc h)
neither false b h = (refl, h)

-- a hexadecimal digit is a digit or a letter
hex_range : (n : ℕ) → n < 16 → (47 < hex_digit n) × (hex_digit n < 71)
hex_range n small =
    elim (cases_lt n 10) [
      | inl low ↦
          let is : hex_digit n ≡ 48 + n = cond-true (nat_lt n 10) (48 + n) (55 + n) (lt-ltb n 10 low) in
          (omega (arith, is), omega (arith, is, low))
      | inr high ↦
          let is : hex_digit n ≡ 55 + n = cond-false (nat_lt n 10) (48 + n) (55 + n) (not_less n 10 high) in
          (omega (arith, is, high), omega (arith, is, small))
    ]
  where
    is_false : (b : Bool) → (b ≡ true → ⊥) → b ≡ false
    is_false true h = absurd (h refl)
    is_false false h = refl

    not_less : (m k : ℕ) → k ≤ m → nat_lt m k ≡ false
    not_less m k le = is_false (nat_lt m k) (λ e. omega (arith, le, ltb-true m k e))

-- ---- what is printable
hex_is_printable : (n : ℕ) → n < 16 → IsPrintable (hex_digit n)
hex_is_printable n small = let range = hex_range n small in (omega (arith, range.0), omega (arith, range.1))

byte_is_printable : (b : ℕ) → IsByte b → All IsPrintable (escape b)
byte_is_printable b byte =
    let backslash : IsPrintable 92 = (omega arith, omega arith) in
    let quote : IsPrintable 34 = (omega arith, omega arith) in
    let x : IsPrintable 120 = (omega arith, omega arith) in
    let high : b / 16 < 16 = omega (arith, byte) in
    let low : b % 16 < 16 = omega arith in
    chosen (All IsPrintable) (b == 34) (b == 92) (nat_lt b 32 || nat_lt 126 b) (codes "\\\"") (codes "\\\\") (hex_text b) (b ∷ [])
    (All-cons IsPrintable 92 (34 ∷ []) backslash (All-cons IsPrintable 34 [] quote (All-nil IsPrintable)))
    (All-cons IsPrintable 92 (92 ∷ []) backslash (All-cons IsPrintable 92 [] backslash (All-nil IsPrintable)))
    (All-cons IsPrintable 92 (120 ∷ hex_digit (b / 16) ∷ hex_digit (b % 16) ∷ []) backslash (All-cons IsPrintable 120 (hex_digit (b / 16) ∷ hex_digit (b % 16) ∷ []) x
    (All-cons IsPrintable (hex_digit (b / 16)) (hex_digit (b % 16) ∷ []) (hex_is_printable (b / 16) high)
    (All-cons IsPrintable (hex_digit (b % 16)) [] (hex_is_printable (b % 16) low) (All-nil IsPrintable)))))
    (λ a s z.
    let parts = neither (nat_lt b 32) (nat_lt 126 b) z in
    let most : b ≤ 126 = ltb-false 126 b parts.1 in
    All-cons IsPrintable b [] (ltb-false b 32 parts.0, omega (arith, most)) (All-nil IsPrintable))

pub escaped_is_printable : (text : List ℕ) → All IsByte text → All IsPrintable (escaped text)
escaped_is_printable [] all = All-nil IsPrintable
escaped_is_printable (b ∷ rest) all =
    All-append IsPrintable (escape b) (escaped rest) (byte_is_printable b (All-head IsByte b rest all)) (escaped_is_printable rest (All-tail IsByte b rest all))

-- ---- what a reader finds
-- a byte that is neither a quote nor a backslash
plain_byte : (b c : ℕ) (rest : List ℕ) → (b == 34) ≡ false → (b == 92) ≡ false → until_quote (b ∷ c ∷ rest) ≡ with_front (b ∷ []) (until_quote (c ∷ rest))
plain_byte b c rest quote backslash =
    cond-false (b == 34) _ _ quote ∙ cond-false (b == 92) _ _ backslash

hex_is_plain : (n : ℕ) → n < 16 → ((hex_digit n == 34) ≡ false) × ((hex_digit n == 92) ≡ false)
hex_is_plain n small =
    let range = hex_range n small in
    (ne_eqb _ _ (λ e. omega (arith, e, range.0)), ne_eqb _ _ (λ e. omega (arith, e, range.1)))

-- a byte's escape is found before what is found after it
byte_found : (b c : ℕ) (rest found after : List ℕ) → IsByte b → until_quote (c ∷ rest) ≡ Some (found, after) → until_quote (escape b ++ c ∷ rest) ≡ Some (escape b ++ found, after)
byte_found b c rest found after byte next =
    let first = hex_is_plain (b / 16) (omega (arith, byte)) in
    let second = hex_is_plain (b % 16) (omega arith) in
    let P : List ℕ → Type 0 = λ part. until_quote (part ++ c ∷ rest) ≡ Some (part ++ found, after) in
    chosen P (b == 34) (b == 92) (nat_lt b 32 || nat_lt 126 b) (codes "\\\"") (codes "\\\\") (hex_text b) (b ∷ [])
    (ap (with_front (92 ∷ 34 ∷ [])) next)
    (ap (with_front (92 ∷ 92 ∷ [])) next)
    (ap (with_front (92 ∷ 120 ∷ []))
    (plain_byte (hex_digit (b / 16)) (hex_digit (b % 16)) (c ∷ rest) first.0 first.1
    ∙ ap (with_front (hex_digit (b / 16) ∷ [])) (plain_byte (hex_digit (b % 16)) c rest second.0 second.1 ∙ ap (with_front (hex_digit (b % 16) ∷ [])) next)))
    (λ quote backslash z. plain_byte b c rest quote backslash ∙ ap (with_front (b ∷ [])) next)

-- a text before a byte has a first byte
first_of : (text : List ℕ) (b : ℕ) (rest : List ℕ) → (c : ℕ) × (others : List ℕ) × (text ++ b ∷ rest ≡ c ∷ others)
first_of [] b rest = (b, rest, refl)
first_of (c ∷ text) b rest = (c, text ++ b ∷ rest, refl)

at_quote : (rest : List ℕ) → until_quote (34 ∷ rest) ≡ Some ([], rest)
at_quote [] = refl
at_quote (c ∷ rest) = refl

pub escaped_is_found : (text rest : List ℕ) → All IsByte text → until_quote (escaped text ++ 34 ∷ rest) ≡ Some (escaped text, rest)
escaped_is_found [] rest all = at_quote rest
escaped_is_found (b ∷ text) rest all =
    let (c, others, is) = first_of (escaped text) 34 rest in
    let found : until_quote (c ∷ others) ≡ Some (escaped text, rest) =
    ap until_quote (sym is) ∙ escaped_is_found text rest (All-tail IsByte b text all) in
    ap until_quote (append_assoc (escape b) (escaped text) (34 ∷ rest) ∙ ap (λ t. escape b ++ t) is)
    ∙ byte_found b c others (escaped text) rest (All-head IsByte b text all) found
