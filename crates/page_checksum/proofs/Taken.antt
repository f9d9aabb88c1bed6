-- A byte is taken out of a message, and then byte after byte.
use Rattle.std.proofs.Common.{◌≡◌, ◌≢◌, ℕ, zero, suc, ◌+◌, ◌-◌, ◌<◌, ◌≤◌, List, [], ◌∷◌, ◌++◌, length, replicate, slice_index, refl, sym, ◌∙◌, ap, ap₂, subst, arith, inl, inr, ◌⊎◌, length-append}
use Rattle.std.specs.Prelude.{bit_xor, nat_eq, nat_lt, if◌then◌else◌}
use Rattle.std.specs.Int.Bits.{xor_assoc, xor_self, xor_zero_l, xor_zero_r}
use Rattle.std.proofs.lemmas.List.{ext_get_or}
use Rattle.std.proofs.lemmas.Bool.{eq-eqb, ne_eqb, lt-ltb, le-ltb, cases_order, cases_lt}
use Rattle.page_checksum.specs.Checksum.{checksum_of, entry_before}
use Rattle.page_checksum.specs.Pending.{pending_at}
use Rattle.page_checksum.proofs.Echoes.{mix, six-xor, checksum-mix, checksum-blank, checksum-trailing, echoes-none}
use Rattle.page_checksum.proofs.Pendings.{six-same, pending-same}

-- ---- n values of a function, from this place on
abbrev pub seg : (ℕ → ℕ) → ℕ → ℕ → List ℕ
seg f a zero = []
seg f a (suc n) = f a ∷ seg f (suc a) n

seg-same : (f g : ℕ → ℕ) (a n : ℕ) → ((q : ℕ) → a ≤ q → q < a + n → f q ≡ g q) → seg f a n ≡ seg g a n
seg-same f g a zero h = refl
seg-same f g a (suc n) h =
    ap₂ (λ (x : ℕ) (l : List ℕ). x ∷ l) (h a (omega arith) (omega arith)) (seg-same f g (suc a) n (λ q low high. h q (omega arith) (omega arith)))

seg-none : (f : ℕ → ℕ) (a n : ℕ) → ((q : ℕ) → a ≤ q → q < a + n → f q ≡ 0) → seg f a n ≡ replicate n 0
seg-none f a zero h = refl
seg-none f a (suc n) h =
    ap₂ (λ (x : ℕ) (l : List ℕ). x ∷ l) (h a (omega arith) (omega arith)) (seg-none f (suc a) n (λ q low high. h q (omega arith) (omega arith)))

seg-append : (f : ℕ → ℕ) (a n m : ℕ) → seg f a (n + m) ≡ seg f a n ++ seg f (a + n) m
seg-append f a zero m = ap (seg f a) (let e : 0 + m ≡ m = omega arith in e) ∙ ap (λ k. seg f k m) (let e : a ≡ a + 0 = omega arith in e)
seg-append f a (suc n) m =
    ap (seg f a) (let e : suc n + m ≡ suc (n + m) = omega arith in e)
    ∙ ap (λ l. f a ∷ l) (seg-append f (suc a) n m ∙ ap (λ k. seg f (suc a) n ++ seg f k m) (let e : suc a + n ≡ a + suc n = omega arith in e))

length-seg : (f : ℕ → ℕ) (a n : ℕ) → length (seg f a n) ≡ n
length-seg f a zero = refl
length-seg f a (suc n) = ap suc (length-seg f (suc a) n)

seg-mix : (f g : ℕ → ℕ) (a n : ℕ) → seg (λ q. bit_xor (f q) (g q)) a n ≡ mix (seg f a n) (seg g a n)
seg-mix f g a zero = refl
seg-mix f g a (suc n) = ap (λ l. bit_xor (f a) (g a) ∷ l) (seg-mix f g (suc a) n)

checksum-seg : (f g : ℕ → ℕ) (a n : ℕ) → checksum_of (seg (λ q. bit_xor (f q) (g q)) a n) ≡ bit_xor (checksum_of (seg f a n)) (checksum_of (seg g a n))
checksum-seg f g a n = ap checksum_of (seg-mix f g a n) ∙ checksum-mix (seg f a n) (seg g a n) (length-seg f a n ∙ sym (length-seg g a n))

-- ---- one byte, and its copies
abbrev pub spike : ℕ → ℕ → ℕ → ℕ
spike p u q = if nat_eq q p then u else 0

spike-at : (p u q : ℕ) → q ≡ p → spike p u q ≡ u
spike-at p u q e = ap (λ b. if b then u else 0) (eq-eqb q p e)

spike-off : (p u q : ℕ) → q ≢ p → spike p u q ≡ 0
spike-off p u q e = ap (λ b. if b then u else 0) (ne_eqb q p e)

spiked : (p u t n : ℕ) → t ≤ p → 0 < p → t ≤ n → seg (λ q. spike p u (q - t)) p (suc n) ≡ replicate t 0 ++ (u ∷ replicate (n - t) 0)
spiked p u t n near pos within =
    let f : ℕ → ℕ = λ q. spike p u (q - t) in
    ap (seg f p) (let e : suc n ≡ t + suc (n - t) = omega arith in e)
    ∙ seg-append f p t (suc (n - t))
    ∙ ap₂ (λ (l m : List ℕ). l ++ m)
    (seg-none f p t (λ q low high. spike-off p u (q - t) (let ne : q - t ≢ p = omega arith in ne)))
    (ap₂ (λ (x : ℕ) (l : List ℕ). x ∷ l) (spike-at p u (p + t - t) (omega arith))
    (seg-none f (suc (p + t)) (n - t) (λ q low high. spike-off p u (q - t) (let ne : q - t ≢ p = omega arith in ne))))

copy : (p u t : ℕ) → 247 ≤ p → t ≤ 247 → checksum_of (seg (λ q. spike p u (q - t)) p 248) ≡ entry_before (247 - t) u
copy p u t from within = ap checksum_of (spiked p u t 247 (omega arith) (omega arith) within) ∙ checksum-blank t (u ∷ replicate (247 - t) 0)

own : (p u : ℕ) → checksum_of (seg (spike p u) p 248) ≡ entry_before 247 u
own p u =
    ap checksum_of (ap₂ (λ (x : ℕ) (l : List ℕ). x ∷ l) (spike-at p u p refl) (seg-none (spike p u) (suc p) 247 (λ q low high. spike-off p u q (let ne : q ≢ p = omega arith in ne))))

-- the byte and what it adds behind it
abbrev pub echo : ℕ → ℕ → ℕ → ℕ
echo p u q = bit_xor (spike p u q) (pending_at (spike p u) q)

checksum-echo_short : (p u : ℕ) → 247 ≤ p → checksum_of (seg (echo p u) p 248) ≡ 0
checksum-echo_short p u from =
    let f : ℕ → ℕ → ℕ = λ t q. spike p u (q - t) in
    let two : ℕ → ℕ = λ q. bit_xor (f 247 q) (f 240 q) in
    let three : ℕ → ℕ = λ q. bit_xor (two q) (f 186 q) in
    let four : ℕ → ℕ = λ q. bit_xor (three q) (f 154 q) in
    let five : ℕ → ℕ = λ q. bit_xor (four q) (f 151 q) in
    let c2 = checksum-seg (f 247) (f 240) p 248 ∙ ap₂ bit_xor (copy p u 247 from (omega arith)) (copy p u 240 from (omega arith)) in
    let c3 = checksum-seg two (f 186) p 248 ∙ ap₂ bit_xor c2 (copy p u 186 from (omega arith)) in
    let c4 = checksum-seg three (f 154) p 248 ∙ ap₂ bit_xor c3 (copy p u 154 from (omega arith)) in
    let c5 = checksum-seg four (f 151) p 248 ∙ ap₂ bit_xor c4 (copy p u 151 from (omega arith)) in
    let c6 = checksum-seg five (f 149) p 248 ∙ ap₂ bit_xor c5 (copy p u 149 from (omega arith)) in
    checksum-seg (spike p u) (pending_at (spike p u)) p 248
    ∙ ap₂ bit_xor (own p u) c6
    ∙ echoes-none u

echo-past : (p u q : ℕ) → p + 248 ≤ q → echo p u q ≡ 0
echo-past p u q h =
    ap₂ bit_xor (spike-off p u q (let ne : q ≢ p = omega arith in ne))
    (six-same (spike p u (q - 247)) (spike p u (q - 240)) (spike p u (q - 186)) (spike p u (q - 154)) (spike p u (q - 151)) (spike p u (q - 149)) 0 0 0 0 0 0
    (spike-off p u (q - 247) (let ne : q - 247 ≢ p = omega arith in ne)) (spike-off p u (q - 240) (let ne : q - 240 ≢ p = omega arith in ne))
    (spike-off p u (q - 186) (let ne : q - 186 ≢ p = omega arith in ne)) (spike-off p u (q - 154) (let ne : q - 154 ≢ p = omega arith in ne))
    (spike-off p u (q - 151) (let ne : q - 151 ≢ p = omega arith in ne)) (spike-off p u (q - 149) (let ne : q - 149 ≢ p = omega arith in ne)))

pub checksum-echo : (p u n : ℕ) → 247 ≤ p → 247 ≤ n → checksum_of (seg (echo p u) p (suc n)) ≡ 0
checksum-echo p u n from long =
    ap (λ k. checksum_of (seg (echo p u) p k)) (let e : suc n ≡ 248 + (n - 247) = omega arith in e)
    ∙ ap checksum_of (seg-append (echo p u) p 248 (n - 247) ∙ ap (λ l. seg (echo p u) p 248 ++ l) (seg-none (echo p u) (p + 248) (n - 247) (λ q low high. echo-past p u q low)))
    ∙ checksum-trailing (seg (echo p u) p 248) (n - 247) (checksum-echo_short p u from)

-- ---- what is left of a message: each byte with what is pending there
-- the bytes before this place, and zeros from there on
abbrev pub cut : ℕ → (ℕ → ℕ) → ℕ → ℕ
cut p f q = if nat_lt q p then f q else 0

pub cut-below : (p : ℕ) (f : ℕ → ℕ) (q : ℕ) → q < p → cut p f q ≡ f q
cut-below p f q h = ap (λ b. if b then f q else 0) (lt-ltb q p h)

pub cut-past : (p : ℕ) (f : ℕ → ℕ) (q : ℕ) → p ≤ q → cut p f q ≡ 0
cut-past p f q h = ap (λ b. if b then f q else 0) (le-ltb q p h)

abbrev pub mixed : (ℕ → ℕ) → ℕ → List ℕ → List ℕ
mixed f a [] = []
mixed f a (m ∷ ms) = bit_xor m (pending_at f a) ∷ mixed f (suc a) ms

length-mixed : (f : ℕ → ℕ) (a : ℕ) (ms : List ℕ) → length (mixed f a ms) ≡ length ms
length-mixed f a [] = refl
length-mixed f a (m ∷ ms) = ap suc (length-mixed f (suc a) ms)

pending-none : (f : ℕ → ℕ) (a : ℕ) → 247 ≤ a → ((q : ℕ) → a ≤ q + 247 → q + 149 ≤ a → f q ≡ 0) → pending_at f a ≡ 0
pending-none f a from none =
    six-same (f (a - 247)) (f (a - 240)) (f (a - 186)) (f (a - 154)) (f (a - 151)) (f (a - 149)) 0 0 0 0 0 0
    (none (a - 247) (omega arith) (omega arith)) (none (a - 240) (omega arith) (omega arith)) (none (a - 186) (omega arith) (omega arith))
    (none (a - 154) (omega arith) (omega arith)) (none (a - 151) (omega arith) (omega arith)) (none (a - 149) (omega arith) (omega arith))

pending-sum : (f g d : ℕ → ℕ) (a : ℕ) → ((q : ℕ) → g q ≡ bit_xor (f q) (d q)) → pending_at g a ≡ bit_xor (pending_at f a) (pending_at d a)
pending-sum f g d a h =
    six-same (g (a - 247)) (g (a - 240)) (g (a - 186)) (g (a - 154)) (g (a - 151)) (g (a - 149))
    (bit_xor (f (a - 247)) (d (a - 247))) (bit_xor (f (a - 240)) (d (a - 240))) (bit_xor (f (a - 186)) (d (a - 186)))
    (bit_xor (f (a - 154)) (d (a - 154))) (bit_xor (f (a - 151)) (d (a - 151))) (bit_xor (f (a - 149)) (d (a - 149)))
    (h (a - 247)) (h (a - 240)) (h (a - 186)) (h (a - 154)) (h (a - 151)) (h (a - 149))
    ∙ six-xor (f (a - 247)) (f (a - 240)) (f (a - 186)) (f (a - 154)) (f (a - 151)) (f (a - 149))
    (d (a - 247)) (d (a - 240)) (d (a - 186)) (d (a - 154)) (d (a - 151)) (d (a - 149))

mixed-sum : (f g d : ℕ → ℕ) (a : ℕ) (ms : List ℕ) → ((q : ℕ) → g q ≡ bit_xor (f q) (d q)) → mixed g a ms ≡ mix (mixed f a ms) (seg (pending_at d) a (length ms))
mixed-sum f g d a [] h = refl
mixed-sum f g d a (m ∷ ms) h =
    ap₂ (λ (x : ℕ) (l : List ℕ). x ∷ l)
    (ap (bit_xor m) (pending-sum f g d a h) ∙ sym (xor_assoc m (pending_at f a) (pending_at d a)))
    (mixed-sum f g d (suc a) ms h)

pub mixed-same : (f g : ℕ → ℕ) (a b : ℕ) (ms : List ℕ) → ((i : ℕ) → i < length ms → pending_at f (a + i) ≡ pending_at g (b + i)) → mixed f a ms ≡ mixed g b ms
mixed-same f g a b [] h = refl
mixed-same f g a b (m ∷ ms) h =
    ap₂ (λ (x : ℕ) (l : List ℕ). x ∷ l)
    (ap (bit_xor m) (ap (pending_at f) (let e : a ≡ a + 0 = omega arith in e) ∙ h 0 (omega arith) ∙ ap (pending_at g) (let e : b + 0 ≡ b = omega arith in e)))
    (mixed-same f g (suc a) (suc b) ms (λ i l.
    ap (pending_at f) (let e : suc a + i ≡ a + suc i = omega arith in e) ∙ h (suc i) (omega arith) ∙ ap (pending_at g) (let e : b + suc i ≡ suc b + i = omega arith in e)))

pub mixed-none : (f : ℕ → ℕ) (a : ℕ) (ms : List ℕ) → ((i : ℕ) → i < length ms → pending_at f (a + i) ≡ 0) → mixed f a ms ≡ ms
mixed-none f a [] h = refl
mixed-none f a (m ∷ ms) h =
    ap₂ (λ (x : ℕ) (l : List ℕ). x ∷ l)
    (ap (bit_xor m) (ap (pending_at f) (let e : a ≡ a + 0 = omega arith in e) ∙ h 0 (omega arith)) ∙ xor_zero_r m)
    (mixed-none f (suc a) ms (λ i l. ap (pending_at f) (let e : suc a + i ≡ a + suc i = omega arith in e) ∙ h (suc i) (omega arith)))

pub mixed-append : (f : ℕ → ℕ) (a : ℕ) (ms ns : List ℕ) → mixed f a (ms ++ ns) ≡ mixed f a ms ++ mixed f (a + length ms) ns
mixed-append f a [] ns = ap (λ k. mixed f k ns) (let e : a ≡ a + 0 = omega arith in e)
mixed-append f a (m ∷ ms) ns =
    ap (λ l. bit_xor m (pending_at f a) ∷ l) (mixed-append f (suc a) ms ns ∙ ap (λ k. mixed f (suc a) ms ++ mixed f k ns) (let e : suc a + length ms ≡ a + suc (length ms) = omega arith in e))

-- one place further, the byte at that place counts
next_cut : (f : ℕ → ℕ) (p q : ℕ) → cut (suc p) f q ≡ bit_xor (cut p f q) (spike p (f p) q)
next_cut f p q = by_order (cases_order q p)
  where
    by_order : (q ≡ p) ⊎ ((q < p) ⊎ (p < q)) → cut (suc p) f q ≡ bit_xor (cut p f q) (spike p (f p) q)
    by_order (inl same) =
        cut-below (suc p) f q (omega arith) ∙ ap f same ∙ sym (xor_zero_l (f p))
        ∙ ap₂ bit_xor (sym (cut-past p f q (omega arith))) (sym (spike-at p (f p) q same))
    by_order (inr (inl low)) =
        cut-below (suc p) f q (omega arith) ∙ sym (xor_zero_r (f q))
        ∙ ap₂ bit_xor (sym (cut-below p f q low)) (sym (spike-off p (f p) q (let ne : q ≢ p = omega arith in ne)))
    by_order (inr (inr high)) =
        cut-past (suc p) f q (omega arith)
        ∙ ap₂ bit_xor (sym (cut-past p f q (omega arith))) (sym (spike-off p (f p) q (let ne : q ≢ p = omega arith in ne)))

-- a byte goes, and its copies are pending
take_out : (f : ℕ → ℕ) (p m : ℕ) (rest : List ℕ) → 247 ≤ p → 247 ≤ length rest → f p ≡ bit_xor m (pending_at f p) →
    checksum_of (mixed (cut p f) p (m ∷ rest)) ≡ checksum_of (mixed (cut (suc p) f) (suc p) rest)
take_out f p m rest from long is =
    let u : ℕ = f p in
    let n : ℕ = length rest in
    let now : List ℕ = mixed (cut p f) (suc p) rest in
    let next : List ℕ = mixed (cut (suc p) f) (suc p) rest in
    let copies : List ℕ = seg (pending_at (spike p u)) (suc p) n in
    let front : bit_xor m (pending_at (cut p f) p) ≡ u =
    ap (bit_xor m) (pending-same (cut p f) f p from (λ q l. cut-below p f q l)) ∙ sym is in
    let added : next ≡ mix now copies = mixed-sum (cut p f) (cut (suc p) f) (spike p u) (suc p) rest (next_cut f p) in
    let together : 0 ∷ next ≡ mix (u ∷ now) (u ∷ copies) = ap₂ (λ (x : ℕ) (l : List ℕ). x ∷ l) (sym (xor_self u)) added in
    let echoed : seg (echo p u) p (suc n) ≡ u ∷ copies =
    ap₂ (λ (x : ℕ) (l : List ℕ). x ∷ l)
    (ap₂ bit_xor (spike-at p u p refl) (pending-none (spike p u) p from (λ q near l. spike-off p u q (let ne : q ≢ p = omega arith in ne))) ∙ xor_zero_r u)
    (seg-same (echo p u) (pending_at (spike p u)) (suc p) n (λ q low high.
    ap (λ k. bit_xor k (pending_at (spike p u) q)) (spike-off p u q (let ne : q ≢ p = omega arith in ne)) ∙ xor_zero_l (pending_at (spike p u) q))) in
    let nothing : checksum_of (u ∷ copies) ≡ 0 = ap checksum_of (sym echoed) ∙ checksum-echo p u n from long in
    let same : length (u ∷ now) ≡ length (u ∷ copies) = ap suc (length-mixed (cut p f) (suc p) rest ∙ sym (length-seg (pending_at (spike p u)) (suc p) n)) in
    ap (λ k. checksum_of (k ∷ now)) front
    ∙ sym (xor_zero_r (checksum_of (u ∷ now)))
    ∙ ap (bit_xor (checksum_of (u ∷ now))) (sym nothing)
    ∙ sym (checksum-mix (u ∷ now) (u ∷ copies) same)
    ∙ ap checksum_of (sym together)
    ∙ checksum-blank 1 next

-- byte after byte
pub take_all_out : (f : ℕ → ℕ) (p : ℕ) (piece rest : List ℕ) → 247 ≤ p → 247 ≤ length rest →
    ((i : ℕ) → i < length piece → f (p + i) ≡ bit_xor (slice_index piece i) (pending_at f (p + i))) →
    checksum_of (mixed (cut p f) p (piece ++ rest)) ≡ checksum_of (mixed (cut (p + length piece) f) (p + length piece) rest)
take_all_out f p [] rest from long each = ap (λ k. checksum_of (mixed (cut k f) k rest)) (let e : p ≡ p + 0 = omega arith in e)
take_all_out f p (m ∷ piece) rest from long each =
    let here : p + 0 ≡ p = omega arith in
    take_out f p m (piece ++ rest) from (omega (arith, length-append piece rest)) (subst (λ k. f k ≡ bit_xor m (pending_at f k)) here (each 0 (omega arith)))
    ∙ take_all_out f (suc p) piece rest (omega arith) long (λ i l.
    subst (λ k. f k ≡ bit_xor (slice_index piece i) (pending_at f k)) (let e : p + suc i ≡ suc p + i = omega arith in e) (each (suc i) (omega arith)))
    ∙ ap (λ k. checksum_of (mixed (cut k f) k rest)) (let e : suc p + length piece ≡ p + suc (length piece) = omega arith in e)

-- ---- the steps of the code
-- the first word is folded: nothing was pending there
pub begun : (f : ℕ → ℕ) (word rest : List ℕ) → length word ≡ 4 → 247 ≤ length rest → ((i : ℕ) → i < 252 → f i ≡ 0) →
    ((i : ℕ) → i < 4 → f (252 + i) ≡ slice_index word i) → checksum_of (word ++ rest) ≡ checksum_of (mixed (cut 256 f) 256 rest)
begun f word rest four long none own =
    let blank : (q : ℕ) → cut 252 f q ≡ 0 = λ q. at_place q (cases_lt q 252) in
    ap checksum_of (sym (mixed-none (cut 252 f) 252 (word ++ rest) (λ i l. pending-none (cut 252 f) (252 + i) (omega arith) (λ q near h. blank q))))
    ∙ take_all_out f 252 word rest (omega arith) long (λ i l.
    own i (omega arith) ∙ sym (xor_zero_r (slice_index word i))
    ∙ ap (bit_xor (slice_index word i)) (sym (pending-none f (252 + i) (omega arith) (λ q near h. none q (omega arith)))))
    ∙ ap (λ k. checksum_of (mixed (cut (252 + k) f) (252 + k) rest)) four
  where
    at_place : (q : ℕ) → (q < 252) ⊎ (252 ≤ q) → cut 252 f q ≡ 0
    at_place q (inl low) = cut-below 252 f q low ∙ none q low
    at_place q (inr high) = cut-past 252 f q high

-- the bytes that are kept move to the front
pub moved_on : (f g : ℕ → ℕ) (n : ℕ) (rest : List ℕ) → ((k : ℕ) → k < 256 → g k ≡ f (n + k)) → mixed (cut (256 + n) f) (256 + n) rest ≡ mixed (cut 256 g) 256 rest
moved_on f g n rest same =
    mixed-same (cut (256 + n) f) (cut 256 g) (256 + n) 256 rest (λ i l. let a : ℕ = 256 + i in let b : ℕ = 256 + n + i in
    six-same (cut (256 + n) f (b - 247)) (cut (256 + n) f (b - 240)) (cut (256 + n) f (b - 186)) (cut (256 + n) f (b - 154)) (cut (256 + n) f (b - 151)) (cut (256 + n) f (b - 149))
    (cut 256 g (a - 247)) (cut 256 g (a - 240)) (cut 256 g (a - 186)) (cut 256 g (a - 154)) (cut 256 g (a - 151)) (cut 256 g (a - 149))
    (at (b - 247) (a - 247) (omega arith)) (at (b - 240) (a - 240) (omega arith)) (at (b - 186) (a - 186) (omega arith))
    (at (b - 154) (a - 154) (omega arith)) (at (b - 151) (a - 151) (omega arith)) (at (b - 149) (a - 149) (omega arith)))
  where
    by_side : (p q : ℕ) → p ≡ n + q → (q < 256) ⊎ (256 ≤ q) → cut (256 + n) f p ≡ cut 256 g q
    by_side p q e (inl low) = cut-below (256 + n) f p (omega arith) ∙ ap f e ∙ sym (same q low) ∙ sym (cut-below 256 g q low)
    by_side p q e (inr high) = cut-past (256 + n) f p (omega arith) ∙ sym (cut-past 256 g q high)

    at : (p q : ℕ) → p ≡ n + q → cut (256 + n) f p ≡ cut 256 g q
    at p q e = by_side p q e (cases_lt q 256)

-- a piece is folded, and then the bytes that are kept move
pub folded_on : (f g : ℕ → ℕ) (piece rest : List ℕ) → 247 ≤ length rest →
    ((i : ℕ) → i < length piece → f (256 + i) ≡ bit_xor (slice_index piece i) (pending_at f (256 + i))) → ((k : ℕ) → k < 256 → g k ≡ f (length piece + k)) →
    checksum_of (mixed (cut 256 f) 256 (piece ++ rest)) ≡ checksum_of (mixed (cut 256 g) 256 rest)
folded_on f g piece rest long each same =
    take_all_out f 256 piece rest (omega arith) long each ∙ ap checksum_of (moved_on f g (length piece) rest same)

-- what was folded before is the same
pub mixed_kept : (f g : ℕ → ℕ) (ms : List ℕ) → ((k : ℕ) → k < 256 → g k ≡ f k) → mixed (cut 256 f) 256 ms ≡ mixed (cut 256 g) 256 ms
mixed_kept f g ms same =
    mixed-same (cut 256 f) (cut 256 g) 256 256 ms (λ i l. pending-same (cut 256 f) (cut 256 g) (256 + i) (omega arith) (λ q h. by_side q (cases_lt q 256)))
  where
    by_side : (q : ℕ) → (q < 256) ⊎ (256 ≤ q) → cut 256 f q ≡ cut 256 g q
    by_side q (inl low) = cut-below 256 f q low ∙ sym (same q low) ∙ sym (cut-below 256 g q low)
    by_side q (inr high) = cut-past 256 f q high ∙ sym (cut-past 256 g q high)

at_mixed : (f : ℕ → ℕ) (a : ℕ) (ms : List ℕ) (k : ℕ) → k < length ms → slice_index (mixed f a ms) k ≡ bit_xor (slice_index ms k) (pending_at f (a + k))
at_mixed f a [] k h = absurd (omega arith)
at_mixed f a (m ∷ ms) zero h = ap (λ p. bit_xor m (pending_at f p)) (let e : a ≡ a + 0 = omega arith in e)
at_mixed f a (m ∷ ms) (suc k) h =
    at_mixed f (suc a) ms k (omega arith) ∙ ap (λ p. bit_xor (slice_index ms k) (pending_at f p)) (let e : suc a + k ≡ a + suc k = omega arith in e)

-- the last bytes take what is pending, and nothing is pending behind them
pub settled : (f : ℕ → ℕ) (last done rest : List ℕ) → length last ≡ 256 → length done ≡ 256 → ((i : ℕ) → i < 256 → f (256 + i) ≡ 0) →
    ((i : ℕ) → i < 256 → slice_index done i ≡ bit_xor (slice_index last i) (pending_at f (256 + i))) → mixed (cut 256 f) 256 (last ++ rest) ≡ done ++ rest
settled f last done rest long whole blank each =
    mixed-append (cut 256 f) 256 last rest
    ∙ ap₂ (λ (l m : List ℕ). l ++ m)
    (ext_get_or 0 (mixed (cut 256 f) 256 last) done (length-mixed (cut 256 f) 256 last ∙ long ∙ sym whole) (λ k l. here k (omega (arith, length-mixed (cut 256 f) 256 last))))
    (mixed-none (cut 256 f) (256 + length last) rest (λ i l. pending-none (cut 256 f) (256 + length last + i) (omega arith) (λ q near h. cut-past 256 f q (omega arith))))
  where
    by_side : (q : ℕ) → q < 512 → (q < 256) ⊎ (256 ≤ q) → cut 256 f q ≡ f q
    by_side q h (inl low) = cut-below 256 f q low
    by_side q h (inr high) = cut-past 256 f q high ∙ sym (blank (q - 256) (omega arith)) ∙ ap f (let e : 256 + (q - 256) ≡ q = omega arith in e)

    here : (k : ℕ) → k < 256 → slice_index (mixed (cut 256 f) 256 last) k ≡ slice_index done k
    here k h =
        at_mixed (cut 256 f) 256 last k (omega arith)
        ∙ ap (bit_xor (slice_index last k)) (pending-same (cut 256 f) f (256 + k) (omega arith) (λ q l. by_side q (omega arith) (cases_lt q 256)))
        ∙ sym (each k h)
