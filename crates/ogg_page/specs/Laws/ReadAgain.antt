-- What is read is a page whose bytes stand in front, and a page whose bytes stand in front is read.
use Rattle.std.proofs.Common.{◌≡◌, ℕ, zero, suc, ◌+◌, ◌^◌, ◌<◌, ◌≤◌, Bool, true, false, not, List, [], ◌∷◌, ◌++◌, length, take, drop, get_or, sum, refl, sym, ◌∙◌, ap, subst, arith, append_assoc, length-append, Result, Ok, Err}
use Rattle.std.specs.Prelude.{IsOk, nat_eq, nat_lt, if◌then◌else◌, codes, slice_index}
use Rattle.std.specs.List.{All, starts_with}
use Rattle.std.specs.Cmp.Lexicographic.{same_text}
use Rattle.std.proofs.Math.Seq.{take-add}
use Rattle.std.proofs.lemmas.Nat.{le_bytes_4, le_bytes_8, from_le_bytes-to_le_bytes_4, from_le_bytes-to_le_bytes_8}
use Rattle.std.proofs.lemmas.Bool.{false≢true, eqb-true, eq-eqb, ltb-false, le-ltb}
use Rattle.std.proofs.lemmas.List.{take-append-drop, length-take-le, length-drop, take_at, drop_at, get_or-drop}
use Rattle.std.proofs.lemmas.List.Elements.{All-from_get_or, All-take, All-drop, recursion_from_All}
use Rattle.byteorder.specs.Endian.{little_bytes, little_number}
use Rattle.page_checksum.specs.Checksum.{checksum_of, number_of, message_bits}
use Rattle.page_checksum.specs.Laws.ByteStep.{left_of, length-left_of}
use Rattle.page_checksum.specs.Laws.BitNumbers.{number_lt}
use Rattle.ogg_page.specs.Laws.Prefixes.{parts, same_page}
use Rattle.ogg_page.specs.Page.{Page, IsPage, IsByte, AreBytes, fixed_part, page_bytes, bytes_with}
use Rattle.ogg_page.specs.Reading.{page_at, fields_at, lacing_at, behind_lacing, size_at, blanked, IsPageOf}
use Rattle.ogg_page.specs.declared.fault.PageFault.{PageFault}
use Rattle.ogg_page.specs.declared.fault.PageFault.TheVariants.{Short, Pattern, Version, Checksum}

pub drop_bytes : (n : ℕ) (bytes : List ℕ) → AreBytes bytes → AreBytes (drop n bytes)
drop_bytes n bytes h i = subst (λ x. x < 256) (sym (get_or-drop n bytes i 0)) (h (n + i))

pub record IsNumber (n limit : ℕ) (again front : List ℕ) : Type 0 where
  pub small : n < limit
  pub same : again ≡ front

little_4 : (xs : List ℕ) → AreBytes xs → 4 ≤ length xs → IsNumber (little_number 4 xs) (2 ^ 32) (little_bytes 4 (little_number 4 xs)) (take 4 xs)
little_4 [] h l = absurd (omega arith)
little_4 (a ∷ []) h l = absurd (omega arith)
little_4 (a ∷ b ∷ []) h l = absurd (omega arith)
little_4 (a ∷ b ∷ c ∷ []) h l = absurd (omega arith)
little_4 (a ∷ b ∷ c ∷ d ∷ xs) h l =
    let ha : a < 256 = h 0 in
    let hb : b < 256 = h 1 in
    let hc : c < 256 = h 2 in
    let hd : d < 256 = h 3 in
    record {
      small = omega arith;
      same = le_bytes_4 (a ∷ b ∷ c ∷ d ∷ []) (little_number 4 (a ∷ b ∷ c ∷ d ∷ xs)) refl (bytes_of a b c d ha hb hc hd) (omega arith);
    }
  where
    bytes_of : (a b c d : ℕ) → a < 256 → b < 256 → c < 256 → d < 256 → AreBytes (a ∷ b ∷ c ∷ d ∷ [])
    bytes_of a b c d ha hb hc hd zero = ha
    bytes_of a b c d ha hb hc hd (suc zero) = hb
    bytes_of a b c d ha hb hc hd (suc (suc zero)) = hc
    bytes_of a b c d ha hb hc hd (suc (suc (suc zero))) = hd
    bytes_of a b c d ha hb hc hd (suc (suc (suc (suc i)))) = omega arith

little_8 : (xs : List ℕ) → AreBytes xs → 8 ≤ length xs → IsNumber (little_number 8 xs) (2 ^ 64) (little_bytes 8 (little_number 8 xs)) (take 8 xs)
little_8 [] h l = absurd (omega arith)
little_8 (a ∷ []) h l = absurd (omega arith)
little_8 (a ∷ b ∷ []) h l = absurd (omega arith)
little_8 (a ∷ b ∷ c ∷ []) h l = absurd (omega arith)
little_8 (a ∷ b ∷ c ∷ d ∷ []) h l = absurd (omega arith)
little_8 (a ∷ b ∷ c ∷ d ∷ e ∷ []) h l = absurd (omega arith)
little_8 (a ∷ b ∷ c ∷ d ∷ e ∷ f ∷ []) h l = absurd (omega arith)
little_8 (a ∷ b ∷ c ∷ d ∷ e ∷ f ∷ g ∷ []) h l = absurd (omega arith)
little_8 (a ∷ b ∷ c ∷ d ∷ e ∷ f ∷ g ∷ k ∷ xs) h l =
    let ha : a < 256 = h 0 in
    let hb : b < 256 = h 1 in
    let hc : c < 256 = h 2 in
    let hd : d < 256 = h 3 in
    let he : e < 256 = h 4 in
    let hf : f < 256 = h 5 in
    let hg : g < 256 = h 6 in
    let hk : k < 256 = h 7 in
    record {
      small = omega arith;
      same = le_bytes_8 (a ∷ b ∷ c ∷ d ∷ e ∷ f ∷ g ∷ k ∷ []) (little_number 8 (a ∷ b ∷ c ∷ d ∷ e ∷ f ∷ g ∷ k ∷ xs)) refl (bytes_of a b c d e f g k ha hb hc hd he hf hg hk) (omega arith);
    }
  where
    bytes_of : (a b c d e f g k : ℕ) → a < 256 → b < 256 → c < 256 → d < 256 → e < 256 → f < 256 → g < 256 → k < 256 → AreBytes (a ∷ b ∷ c ∷ d ∷ e ∷ f ∷ g ∷ k ∷ [])
    bytes_of a b c d e f g k ha hb hc hd he hf hg hk zero = ha
    bytes_of a b c d e f g k ha hb hc hd he hf hg hk (suc zero) = hb
    bytes_of a b c d e f g k ha hb hc hd he hf hg hk (suc (suc zero)) = hc
    bytes_of a b c d e f g k ha hb hc hd he hf hg hk (suc (suc (suc zero))) = hd
    bytes_of a b c d e f g k ha hb hc hd he hf hg hk (suc (suc (suc (suc zero)))) = he
    bytes_of a b c d e f g k ha hb hc hd he hf hg hk (suc (suc (suc (suc (suc zero))))) = hf
    bytes_of a b c d e f g k ha hb hc hd he hf hg hk (suc (suc (suc (suc (suc (suc zero)))))) = hg
    bytes_of a b c d e f g k ha hb hc hd he hf hg hk (suc (suc (suc (suc (suc (suc (suc zero))))))) = hk
    bytes_of a b c d e f g k ha hb hc hd he hf hg hk (suc (suc (suc (suc (suc (suc (suc (suc i)))))))) = omega arith

guard : (b : Bool) (f : PageFault) (x : Result Page PageFault) (p : Page) → (if b then Err f else x) ≡ Ok p → (b ≡ false) × (x ≡ Ok p)
guard true f x p e = (cc, cc)
guard false f x p e = (refl, e)

pub ok_same : (x y : Page) → (let r : Result Page PageFault = Ok x in r) ≡ Ok y → x ≡ y
ok_same x y e = cc

pub record Passed (bytes : List ℕ) (p : Page) : Type 0 where
  pub fixed : nat_lt (length bytes) 27 ≡ false
  pub pattern : not (starts_with nat_eq bytes (codes "OggS")) ≡ false
  pub version : not (nat_eq (slice_index bytes 4) 0) ≡ false
  pub table : nat_lt (length bytes) (27 + slice_index bytes 26) ≡ false
  pub body : nat_lt (length (behind_lacing bytes)) (sum (lacing_at bytes)) ≡ false
  pub checksum : not (nat_eq (little_number 4 (drop 22 bytes)) (checksum_of (blanked (take (size_at bytes) bytes)))) ≡ false
  pub page : fields_at bytes ≡ p

pub passed : (bytes : List ℕ) (p : Page) → page_at bytes ≡ Ok p → Passed bytes p
unfolding page_at
passed bytes p e =
    let a = guard (nat_lt (length bytes) 27) Short _ p e in
    let b = guard (not (starts_with nat_eq bytes (codes "OggS"))) Pattern _ p a.1 in
    let c = guard (not (nat_eq (slice_index bytes 4) 0)) Version _ p b.1 in
    let d = guard (nat_lt (length bytes) (27 + slice_index bytes 26)) Short _ p c.1 in
    let f = guard (nat_lt (length (behind_lacing bytes)) (sum (lacing_at bytes))) Short _ p d.1 in
    let g = guard (not (nat_eq (little_number 4 (drop 22 bytes)) (checksum_of (blanked (take (size_at bytes) bytes))))) Checksum _ p f.1 in
    record { fixed = a.0; pattern = b.0; version = c.0; table = d.0; body = f.0; checksum = g.0; page = ok_same (fields_at bytes) p g.1 }

not_not : (b : Bool) → not b ≡ false → b ≡ true
not_not true e = refl
not_not false e = cc

-- the 27 bytes in front, part by part
front_parts : (bytes : List ℕ) → take 27 bytes ≡
    take 4 bytes ++ take 1 (drop 4 bytes) ++ take 1 (drop 5 bytes) ++ take 8 (drop 6 bytes) ++ take 4 (drop 14 bytes) ++ take 4 (drop 18 bytes) ++ take 4 (drop 22 bytes) ++ take 1 (drop 26 bytes)
front_parts bytes =
    take-add 26 1 bytes
    ∙ ap (λ l. l ++ take 1 (drop 26 bytes)) (take-add 22 4 bytes
    ∙ ap (λ l. l ++ take 4 (drop 22 bytes)) (take-add 18 4 bytes
    ∙ ap (λ l. l ++ take 4 (drop 18 bytes)) (take-add 14 4 bytes
    ∙ ap (λ l. l ++ take 4 (drop 14 bytes)) (take-add 6 8 bytes
    ∙ ap (λ l. l ++ take 8 (drop 6 bytes)) (take-add 5 1 bytes
    ∙ ap (λ l. l ++ take 1 (drop 5 bytes)) (take-add 4 1 bytes))))))

one_byte : (n : ℕ) (bytes : List ℕ) → n < length bytes → take 1 (drop n bytes) ≡ get_or bytes n 0 ∷ []
one_byte zero [] h = absurd (omega arith)
one_byte zero (x ∷ bytes) h = refl
one_byte (suc n) [] h = absurd (omega arith)
one_byte (suc n) (x ∷ bytes) h = one_byte n bytes (omega arith)

-- the fixed part of the page that is read is the 27 bytes in front
fixed_again : (bytes : List ℕ) → AreBytes bytes → (p : Page) → Passed bytes p → 27 ≤ length bytes → length (lacing_at bytes) ≡ slice_index bytes 26 →
    fixed_part (little_number 4 (drop 22 bytes)) (fields_at bytes) ≡ take 27 bytes
unfolding fixed_part
fixed_again bytes h p q l n =
    let b4 : take 4 bytes ≡ codes "OggS" = sym (same_text (codes "OggS") (take 4 bytes) (sym (not_not (starts_with nat_eq bytes (codes "OggS")) q.pattern))) in
    let v : slice_index bytes 4 ≡ 0 = eqb-true (slice_index bytes 4) 0 (not_not (nat_eq (slice_index bytes 4) 0) q.version) in
    let version : take 1 (drop 4 bytes) ≡ 0 ∷ [] = one_byte 4 bytes (omega arith) ∙ ap (λ x. x ∷ []) v in
    let flags : take 1 (drop 5 bytes) ≡ slice_index bytes 5 ∷ [] = one_byte 5 bytes (omega arith) in
    let position : little_bytes 8 (little_number 8 (drop 6 bytes)) ≡ take 8 (drop 6 bytes) = (little_8 (drop 6 bytes) (drop_bytes 6 bytes h) (omega (arith, length-drop 6 bytes))).same in
    let serial : little_bytes 4 (little_number 4 (drop 14 bytes)) ≡ take 4 (drop 14 bytes) = (little_4 (drop 14 bytes) (drop_bytes 14 bytes h) (omega (arith, length-drop 14 bytes))).same in
    let sequence : little_bytes 4 (little_number 4 (drop 18 bytes)) ≡ take 4 (drop 18 bytes) = (little_4 (drop 18 bytes) (drop_bytes 18 bytes h) (omega (arith, length-drop 18 bytes))).same in
    let checksum : little_bytes 4 (little_number 4 (drop 22 bytes)) ≡ take 4 (drop 22 bytes) = (little_4 (drop 22 bytes) (drop_bytes 22 bytes h) (omega (arith, length-drop 22 bytes))).same in
    let count : take 1 (drop 26 bytes) ≡ length (lacing_at bytes) ∷ [] = one_byte 26 bytes (omega arith) ∙ ap (λ x. x ∷ []) (sym n) in
    sym (front_parts bytes
    ∙ ap (λ l. l ++ take 1 (drop 4 bytes) ++ take 1 (drop 5 bytes) ++ take 8 (drop 6 bytes) ++ take 4 (drop 14 bytes) ++ take 4 (drop 18 bytes) ++ take 4 (drop 22 bytes) ++ take 1 (drop 26 bytes)) b4
    ∙ ap (λ l. codes "OggS" ++ l ++ take 1 (drop 5 bytes) ++ take 8 (drop 6 bytes) ++ take 4 (drop 14 bytes) ++ take 4 (drop 18 bytes) ++ take 4 (drop 22 bytes) ++ take 1 (drop 26 bytes)) version
    ∙ ap (λ l. codes "OggS" ++ 0 ∷ [] ++ l ++ take 8 (drop 6 bytes) ++ take 4 (drop 14 bytes) ++ take 4 (drop 18 bytes) ++ take 4 (drop 22 bytes) ++ take 1 (drop 26 bytes)) flags
    ∙ ap (λ l. codes "OggS" ++ 0 ∷ [] ++ slice_index bytes 5 ∷ [] ++ l ++ take 4 (drop 14 bytes) ++ take 4 (drop 18 bytes) ++ take 4 (drop 22 bytes) ++ take 1 (drop 26 bytes)) (sym position)
    ∙ ap (λ l. codes "OggS" ++ 0 ∷ [] ++ slice_index bytes 5 ∷ [] ++ little_bytes 8 (little_number 8 (drop 6 bytes)) ++ l ++ take 4 (drop 18 bytes) ++ take 4 (drop 22 bytes) ++ take 1 (drop 26 bytes)) (sym serial)
    ∙ ap (λ l. codes "OggS" ++ 0 ∷ [] ++ slice_index bytes 5 ∷ [] ++ little_bytes 8 (little_number 8 (drop 6 bytes)) ++ little_bytes 4 (little_number 4 (drop 14 bytes)) ++ l ++ take 4 (drop 22 bytes) ++ take 1 (drop 26 bytes)) (sym sequence)
    ∙ ap (λ l. codes "OggS" ++ 0 ∷ [] ++ slice_index bytes 5 ∷ [] ++ little_bytes 8 (little_number 8 (drop 6 bytes)) ++ little_bytes 4 (little_number 4 (drop 14 bytes)) ++ little_bytes 4 (little_number 4 (drop 18 bytes)) ++ l ++ take 1 (drop 26 bytes)) (sym checksum)
    ∙ ap (λ l. codes "OggS" ++ 0 ∷ [] ++ slice_index bytes 5 ∷ [] ++ little_bytes 8 (little_number 8 (drop 6 bytes)) ++ little_bytes 4 (little_number 4 (drop 14 bytes)) ++ little_bytes 4 (little_number 4 (drop 18 bytes)) ++ little_bytes 4 (little_number 4 (drop 22 bytes)) ++ l) count)

-- the whole page, with the checksum that it has
whole_again : (bytes : List ℕ) → AreBytes bytes → (p : Page) → Passed bytes p → 27 ≤ length bytes → length (lacing_at bytes) ≡ slice_index bytes 26 →
    bytes ≡ bytes_with (little_number 4 (drop 22 bytes)) (fields_at bytes) ++ drop (sum (lacing_at bytes)) (behind_lacing bytes)
whole_again bytes h p q l n =
    let c : ℕ = little_number 4 (drop 22 bytes) in
    sym (take-append-drop 27 bytes)
    ∙ ap (λ t. t ++ drop 27 bytes) (sym (fixed_again bytes h p q l n))
    ∙ ap (λ t. fixed_part c (fields_at bytes) ++ t) (sym (take-append-drop (slice_index bytes 26) (drop 27 bytes)))
    ∙ ap (λ t. fixed_part c (fields_at bytes) ++ (lacing_at bytes ++ t)) (sym (take-append-drop (sum (lacing_at bytes)) (behind_lacing bytes)))
    ∙ sym (append_assoc (fixed_part c (fields_at bytes)) (lacing_at bytes) (take (sum (lacing_at bytes)) (behind_lacing bytes) ++ drop (sum (lacing_at bytes)) (behind_lacing bytes)))
    ∙ sym (append_assoc (fixed_part c (fields_at bytes) ++ lacing_at bytes) (take (sum (lacing_at bytes)) (behind_lacing bytes)) (drop (sum (lacing_at bytes)) (behind_lacing bytes)))

blanked_again : (c : ℕ) (p : Page) → blanked (bytes_with c p) ≡ bytes_with 0 p
unfolding fixed_part
blanked_again c p = refl

pub length_bytes_with : (c : ℕ) (p : Page) → length (bytes_with c p) ≡ 27 + length p.lacing + length p.body
unfolding fixed_part
length_bytes_with c p = length-append (fixed_part c p ++ p.lacing) p.body ∙ ap (λ n. n + length p.body) (length-append (fixed_part c p) p.lacing)

-- a list of bytes, by recursion
each_byte : (xs : List ℕ) → AreBytes xs → All IsByte xs
each_byte xs h = All-from_get_or IsByte xs 0 (λ i l. h i)

-- what is read is a page, and its bytes stand in front
pub read_is_page : (bytes : List ℕ) (p : Page) → AreBytes bytes → page_at bytes ≡ Ok p →
    IsPage p × (bytes ≡ page_bytes p ++ drop (sum p.lacing) (drop (length p.lacing) (drop 27 bytes)))
unfolding page_bytes
read_is_page bytes p h e =
    let q : Passed bytes p = passed bytes p e in
    let fields : Page = fields_at bytes in
    let c : ℕ = little_number 4 (drop 22 bytes) in
    let l27 : 27 ≤ length bytes = ltb-false (length bytes) 27 q.fixed in
    let table : 27 + slice_index bytes 26 ≤ length bytes = ltb-false (length bytes) (27 + slice_index bytes 26) q.table in
    let enough : sum (lacing_at bytes) ≤ length (behind_lacing bytes) = ltb-false (length (behind_lacing bytes)) (sum (lacing_at bytes)) q.body in
    let values : length (lacing_at bytes) ≡ slice_index bytes 26 = length-take-le (slice_index bytes 26) (drop 27 bytes) (omega (arith, length-drop 27 bytes)) in
    let body_len : length fields.body ≡ sum (lacing_at bytes) = length-take-le (sum (lacing_at bytes)) (behind_lacing bytes) enough in
    let rest : List ℕ = drop (sum (lacing_at bytes)) (behind_lacing bytes) in
    let whole : bytes ≡ bytes_with c fields ++ rest = whole_again bytes h p q l27 values in
    let front : take (size_at bytes) bytes ≡ bytes_with c fields =
    ap (take (size_at bytes)) whole ∙ take_at (bytes_with c fields) rest (size_at bytes) (length_bytes_with c fields ∙ omega (arith, values, body_len)) in
    let sum_is : c ≡ checksum_of (bytes_with 0 fields) =
    eqb-true c (checksum_of (blanked (take (size_at bytes) bytes))) (not_not (nat_eq c (checksum_of (blanked (take (size_at bytes) bytes)))) q.checksum)
    ∙ ap (λ b. checksum_of (blanked b)) front ∙ ap checksum_of (blanked_again c fields) in
    let page : IsPage fields = record {
      flags = h 5;
      position = (little_8 (drop 6 bytes) (drop_bytes 6 bytes h) (omega (arith, length-drop 6 bytes))).small;
      serial = (little_4 (drop 14 bytes) (drop_bytes 14 bytes h) (omega (arith, length-drop 14 bytes))).small;
      sequence = (little_4 (drop 18 bytes) (drop_bytes 18 bytes h) (omega (arith, length-drop 18 bytes))).small;
      values = omega (arith, values, h 26);
      lacing = recursion_from_All IsByte (lacing_at bytes) (All-take IsByte (slice_index bytes 26) (drop 27 bytes) (All-drop IsByte 27 bytes (each_byte bytes h)));
      body = recursion_from_All IsByte fields.body (All-take IsByte (sum (lacing_at bytes)) (behind_lacing bytes) (All-drop IsByte (slice_index bytes 26) (drop 27 bytes) (All-drop IsByte 27 bytes (each_byte bytes h))));
      whole = sym body_len;
    } in
    let Claim : Page → Type 0 = λ r. IsPage r × (bytes ≡ page_bytes r ++ drop (sum r.lacing) (drop (length r.lacing) (drop 27 bytes))) in
    subst Claim q.page
    (page, whole ∙ ap (λ k. bytes_with k fields ++ rest) sum_is ∙ ap (λ k. page_bytes fields ++ drop (sum (lacing_at bytes)) (drop k (drop 27 bytes))) (sym values))

-- a page is read, whatever follows
pass : (b : Bool) (f : PageFault) (x : Result Page PageFault) → b ≡ false → (if b then Err f else x) ≡ x
pass true f x e = cc
pass false f x e = refl

pub number_4 : (n : ℕ) (rest : List ℕ) → n < 2 ^ 32 → little_number 4 (little_bytes 4 n ++ rest) ≡ n
number_4 n rest h = omega (arith, from_le_bytes-to_le_bytes_4 n h)

pub number_8 : (n : ℕ) (rest : List ℕ) → n < 2 ^ 64 → little_number 8 (little_bytes 8 n ++ rest) ≡ n
number_8 n rest h = omega (arith, from_le_bytes-to_le_bytes_8 n h)

pub checksum_small : (bytes : List ℕ) → checksum_of bytes < 2 ^ 32
unfolding checksum_of left_of
checksum_small bytes = subst (λ n. number_of (left_of (message_bits bytes)) < 2 ^ n) (length-left_of (message_bits bytes)) (number_lt (left_of (message_bits bytes)))

table_fits : (whole tail table behind : ℕ) → whole ≡ 27 + tail → tail ≡ table + behind → 27 + table ≤ whole
table_fits whole tail table behind e f = omega arith

body_fits : (behind body rest size : ℕ) → behind ≡ body + rest → size ≡ body → size ≤ behind
body_fits behind body rest size e f = omega arith

-- the page in front of bytes that begin with such a fixed part
pub page_is_read : (p : Page) (x : List ℕ) → IsPage p → page_at (page_bytes p ++ x) ≡ Ok p
unfolding page_at page_bytes fixed_part
page_is_read p x h =
    let c : ℕ = checksum_of (bytes_with 0 p) in
    let tail : List ℕ = p.lacing ++ (p.body ++ x) in
    let bytes : List ℕ = fixed_part c p ++ tail in
    let regrouped : page_bytes p ++ x ≡ bytes = parts c p x in
    let lacing : lacing_at bytes ≡ p.lacing = take_at p.lacing (p.body ++ x) (length p.lacing) refl in
    let behind : behind_lacing bytes ≡ p.body ++ x = drop_at p.lacing (p.body ++ x) (length p.lacing) refl in
    let size : sum (lacing_at bytes) ≡ length p.body = ap sum lacing ∙ h.whole in
    let body : take (sum (lacing_at bytes)) (behind_lacing bytes) ≡ p.body =
    ap (take (sum (lacing_at bytes))) behind ∙ take_at p.body x (sum (lacing_at bytes)) (sym size) in
    let tail_len : length tail ≡ length p.lacing + (length p.body + length x) = length-append p.lacing (p.body ++ x) ∙ ap (λ n. length p.lacing + n) (length-append p.body x) in
    let bytes_len : length bytes ≡ 27 + length tail = length-append (fixed_part c p) tail in
    let fields : fields_at bytes ≡ p = same_page (fields_at bytes) p refl
    (number_8 p.position (little_bytes 4 p.serial ++ little_bytes 4 p.sequence ++ little_bytes 4 c ++ length p.lacing ∷ [] ++ tail) h.position)
    (number_4 p.serial (little_bytes 4 p.sequence ++ little_bytes 4 c ++ length p.lacing ∷ [] ++ tail) h.serial)
    (number_4 p.sequence (little_bytes 4 c ++ length p.lacing ∷ [] ++ tail) h.sequence)
    lacing body in
    let stored : little_number 4 (drop 22 bytes) ≡ c = number_4 c (length p.lacing ∷ [] ++ tail) (checksum_small (bytes_with 0 p)) in
    let front : take (size_at bytes) bytes ≡ bytes_with c p =
    ap (take (size_at bytes)) (sym (parts c p x)) ∙ take_at (bytes_with c p) x (size_at bytes) (length_bytes_with c p ∙ ap (λ n. 27 + length p.lacing + n) (sym size)) in
    let again : little_number 4 (drop 22 bytes) ≡ checksum_of (blanked (take (size_at bytes) bytes)) =
    stored ∙ ap checksum_of (sym (ap blanked front ∙ blanked_again c p)) in
    ap page_at regrouped
    ∙ pass (nat_lt (length bytes) 27) Short _ (le-ltb (length bytes) 27 (omega arith))
    ∙ pass (nat_lt (length bytes) (27 + slice_index bytes 26)) Short _ (le-ltb (length bytes) (27 + length p.lacing) (table_fits (length bytes) (length tail) (length p.lacing) (length p.body + length x) bytes_len tail_len))
    ∙ pass (nat_lt (length (behind_lacing bytes)) (sum (lacing_at bytes))) Short _ (le-ltb (length (behind_lacing bytes)) (sum (lacing_at bytes)) (body_fits (length (behind_lacing bytes)) (length p.body) (length x) (sum (lacing_at bytes)) (ap length behind ∙ length-append p.body x) size))
    ∙ pass (not (nat_eq (little_number 4 (drop 22 bytes)) (checksum_of (blanked (take (size_at bytes) bytes))))) Checksum _ (ap not (eq-eqb (little_number 4 (drop 22 bytes)) (checksum_of (blanked (take (size_at bytes) bytes))) again))
    ∙ ap Ok fields

pub length-page_bytes : (p : Page) → length (page_bytes p) ≡ 27 + length p.lacing + length p.body
unfolding page_bytes
length-page_bytes p = length_bytes_with (checksum_of (bytes_with 0 p)) p

-- the bytes of the page that is read
pub front_is_page : (bytes : List ℕ) (values size : ℕ) → AreBytes bytes → IsPageOf bytes values size → take (27 + values + size) bytes ≡ page_bytes (fields_at bytes)
front_is_page bytes values size h q =
    let fields : Page = fields_at bytes in
    let both : IsPage fields × (bytes ≡ page_bytes fields ++ drop (sum fields.lacing) (drop (length fields.lacing) (drop 27 bytes))) = read_is_page bytes fields h q.page in
    let table : length (lacing_at bytes) ≡ values = length-take-le (slice_index bytes 26) (drop 27 bytes) (omega (arith, length-drop 27 bytes, q.table, q.whole)) ∙ sym q.table in
    let body : length fields.body ≡ size = sym both.0.whole ∙ sym q.body in
    ap (take (27 + values + size)) both.1
    ∙ take_at (page_bytes fields) (drop (sum fields.lacing) (drop (length fields.lacing) (drop 27 bytes))) (27 + values + size) (length-page_bytes fields ∙ omega (arith, table, body))

-- the sizes of a page that is known to stand in front
pub known_sizes : (bytes : List ℕ) (read : Result Page PageFault) → page_at bytes ≡ read → IsOk read → IsPageOf bytes (slice_index bytes 26) (sum (lacing_at bytes))
known_sizes bytes (Err fault) e ok = absurd (false≢true ok)
known_sizes bytes (Ok page) e ok =
    let q : Passed bytes page = passed bytes page e in
    let table : 27 + slice_index bytes 26 ≤ length bytes = ltb-false (length bytes) (27 + slice_index bytes 26) q.table in
    let body : sum (lacing_at bytes) ≤ length (behind_lacing bytes) = ltb-false (length (behind_lacing bytes)) (sum (lacing_at bytes)) q.body in
    record {
      page = e ∙ ap Ok (sym q.page);
      table = refl;
      body = refl;
      whole = omega (arith, table, body, length-drop (slice_index bytes 26) (drop 27 bytes), length-drop 27 bytes);
    }
