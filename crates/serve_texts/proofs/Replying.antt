-- What is found of a response in the bytes that were sent.
use Rattle.std.proofs.Common.{◌≡◌, ℕ, ◌+◌, ◌-◌, ◌*◌, ◌/◌, ◌%◌, ◌^◌, ◌≤◌, ◌<◌, min, Bool, true, false, cond, nat_lt, nat_le, ◌==◌, ◌&&◌, List, [], ◌∷◌, ◌++◌, length, codes, arith, refl, ap, sym, ◌∙◌, append_assoc}
use Rattle.std.proofs.lemmas.Bool.{cond-true, cond-false, ne_eqb, le-leb}
use Rattle.std.proofs.lemmas.List.{length-append}
use Rattle.std.proofs.lemmas.List.Elements.{All-head, All-tail}
use Rattle.std.specs.Char.{is_ascii_digit}
use Rattle.std.specs.List.{All, flat_map}
use Rattle.ogg_http.specs.Answer.{line}
use Rattle.serve_texts.specs.Reply.{IsFieldLine, IsText, after_head, counted, fresh, is_interim, next, next_ending, next_status, replied, reply_after, response_bytes}
use Rattle.serve_texts.specs.declared.reply.Reply.{Reply}
use Rattle.serve_texts.specs.Status.{three_digits}

-- ---- pieces
counted_twice : (reply : Reply) (a b : ℕ) → counted (counted reply a) b ≡ counted reply (a + b)
counted_twice reply a b =
    let same : min (min (reply.content + a) (2 ^ 64 - 1) + b) (2 ^ 64 - 1) ≡ min (reply.content + (a + b)) (2 ^ 64 - 1) = omega arith in
    ap (λ n. record reply { content = n }) same

-- in content each byte counts
all_content : (reply : Reply) (bytes : List ℕ) → reply.in_content ≡ true → reply.content < 2 ^ 64 → reply_after reply bytes ≡ counted reply (length bytes)
all_content reply [] inside fits =
    let same : reply.content ≡ min (reply.content + 0) (2 ^ 64 - 1) = omega (arith, fits) in
    ap (λ n. record reply { content = n }) same
all_content reply (b ∷ rest) inside fits = cond-true reply.in_content _ _ inside

by_pieces : (inside : Bool) (reply : Reply) (a b : List ℕ) → reply.in_content ≡ inside → reply.content < 2 ^ 64 → reply_after (reply_after reply a) b ≡ reply_after reply (a ++ b)
by_pieces inside reply [] b is fits = refl
by_pieces true reply (x ∷ a) b is fits =
    let first : reply_after reply (x ∷ a) ≡ counted reply (length (x ∷ a)) = all_content reply (x ∷ a) is fits in
    let fits' : (counted reply (length (x ∷ a))).content < 2 ^ 64 = omega arith in
    let sizes : length (x ∷ a) + length b ≡ length ((x ∷ a) ++ b) = sym (length-append (x ∷ a) b) in
    ap (λ r. reply_after r b) first
    ∙ all_content (counted reply (length (x ∷ a))) b is fits'
    ∙ counted_twice reply (length (x ∷ a)) (length b)
    ∙ ap (counted reply) sizes
    ∙ sym (all_content reply ((x ∷ a) ++ b) is fits)
by_pieces false reply (x ∷ a) b is fits =
    ap (λ r. reply_after r b) (cond-false reply.in_content _ _ is)
    ∙ by_pieces (next reply x).in_content (next reply x) a b refl (next_fits reply x)
    ∙ sym (cond-false reply.in_content _ _ is)
  where
    ended_fits : (interim : Bool) (status : ℕ) → (cond interim fresh (record { seen = 12; status = status; ending = 4; in_content = true; content = 0 })).content < 2 ^ 64
    ended_fits true status = omega arith
    ended_fits false status = omega arith

    fits_of : (ended : Bool) (r s : Reply) → r.content < 2 ^ 64 → s.content < 2 ^ 64 → (cond ended r s).content < 2 ^ 64
    fits_of true r s p q = p
    fits_of false r s p q = q

    next_fits : (r : Reply) (y : ℕ) → (next r y).content < 2 ^ 64
    next_fits r y =
        let status = next_status r.seen r.status y in
        fits_of (next_ending r.ending y == 4) (after_head status)
        (record { seen = min (r.seen + 1) 12; status = status; ending = next_ending r.ending y; in_content = false; content = 0 })
        (ended_fits (is_interim status) status) (omega arith)

pub in_pieces : (reply : Reply) (a b : List ℕ) → reply.content < 2 ^ 64 → reply_after (reply_after reply a) b ≡ reply_after reply (a ++ b)
in_pieces reply a b fits = by_pieces reply.in_content reply a b refl fits

-- ---- a head
-- in a head, so far
abbrev heading : ℕ → ℕ → ℕ → Reply
heading seen status ending = record { seen = seen; status = status; ending = ending; in_content = false; content = 0 }

-- a byte that is no part of a line end
text_step : (seen status ending b : ℕ) → IsText b → next (heading seen status ending) b ≡ heading (min (seen + 1) 12) (next_status seen status b) 0
text_step seen status ending b text =
    let none : next_ending ending b ≡ 0 =
    cond-false (b == 13) _ _ (ne_eqb b 13 text.0) ∙ cond-false (b == 10) _ _ (ne_eqb b 10 text.1) in
    let after : ℕ = next_status seen status b in
    ap (λ n. cond (n == 4) (after_head after) (heading (min (seen + 1) 12) after n)) none

-- text after the status leads nowhere
texts : (status : ℕ) (text rest : List ℕ) → All IsText text → reply_after (heading 12 status 0) (text ++ rest) ≡ reply_after (heading 12 status 0) rest
texts status [] rest all = refl
texts status (b ∷ text) rest all =
    ap (λ r. reply_after r (text ++ rest)) (text_step 12 status 0 b (All-head IsText b text all))
    ∙ texts status text rest (All-tail IsText b text all)

-- a field and its line end
field_line : (status : ℕ) (text rest : List ℕ) → IsFieldLine text → reply_after (heading 12 status 2) (line text ++ rest) ≡ reply_after (heading 12 status 2) rest
field_line status [] rest is = absurd (omega (arith, is.0))
field_line status (b ∷ text) rest is =
    ap (λ r. reply_after r ((text ++ codes "\r\n") ++ rest)) (text_step 12 status 2 b (All-head IsText b text is.1))
    ∙ ap (reply_after (heading 12 status 0)) (append_assoc text (codes "\r\n") rest)
    ∙ texts status text (codes "\r\n" ++ rest) (All-tail IsText b text is.1)

field_lines : (status : ℕ) (fields : List (List ℕ)) (rest : List ℕ) → All IsFieldLine fields → reply_after (heading 12 status 2) (flat_map line fields ++ rest) ≡ reply_after (heading 12 status 2) rest
field_lines status [] rest all = refl
field_lines status (field ∷ fields) rest all =
    ap (reply_after (heading 12 status 2)) (append_assoc (line field) (flat_map line fields) rest)
    ∙ field_line status field (flat_map line fields ++ rest) (All-head IsFieldLine field fields all)
    ∙ field_lines status fields rest (All-tail IsFieldLine field fields all)

and_both : (a b : Bool) → a ≡ true → b ≡ true → (a && b) ≡ true
and_both true b _ h = h
and_both false b h _ = absurd (cc h)

-- a digit of the status
is_digit : (d : ℕ) → d < 10 → is_ascii_digit (48 + d) ≡ true
is_digit d small = and_both _ _ (le-leb 48 (48 + d) (omega arith)) (le-leb (48 + d) 57 (omega (arith, small)))

digit_text : (d : ℕ) → IsText (48 + d)
digit_text d = (λ e. omega (arith, e), λ e. omega (arith, e))

digit_step : (seen before status d : ℕ) → d < 10 → (nat_le 9 seen && nat_lt seen 12) ≡ true → before % 100 * 10 + d ≡ status → next_status seen before (48 + d) ≡ status
digit_step seen before status d small inside is =
    let less : 48 + d - 48 ≡ d = omega arith in
    cond-true (nat_le 9 seen && nat_lt seen 12 && is_ascii_digit (48 + d)) _ _ (ap (λ t. t && is_ascii_digit (48 + d)) inside ∙ is_digit d small)
    ∙ ap (λ n. before % 100 * 10 + n) less ∙ is

status_line : (status : ℕ) (reason rest : List ℕ) → status < 1000 → All IsText reason → reply_after fresh (line (codes "HTTP/1.1 " ++ (three_digits status ++ reason)) ++ rest) ≡ reply_after (heading 12 status 2) rest
status_line status reason rest small all =
    let a : ℕ = status / 100 % 10 in
    let b : ℕ = status / 10 % 10 in
    let c : ℕ = status % 10 in
    let text : List ℕ = (reason ++ codes "\r\n") ++ rest in
    let one : next_status 9 0 (48 + a) ≡ a = digit_step 9 0 a a (omega arith) refl (omega arith) in
    let two : next_status 10 a (48 + b) ≡ a * 10 + b = digit_step 10 a (a * 10 + b) b (omega arith) refl (omega arith) in
    let three : next_status 11 (a * 10 + b) (48 + c) ≡ status = digit_step 11 (a * 10 + b) status c (omega arith) refl (omega (arith, small)) in
    ap (λ r. reply_after r ((48 + b) ∷ (48 + c) ∷ text)) (text_step 9 0 0 (48 + a) (digit_text a) ∙ ap (λ s. heading 10 s 0) one)
    ∙ ap (λ r. reply_after r ((48 + c) ∷ text)) (text_step 10 a 0 (48 + b) (digit_text b) ∙ ap (λ s. heading 11 s 0) two)
    ∙ ap (λ r. reply_after r text) (text_step 11 (a * 10 + b) 0 (48 + c) (digit_text c) ∙ ap (λ s. heading 12 s 0) three)
    ∙ ap (reply_after (heading 12 status 0)) (append_assoc reason (codes "\r\n") rest)
    ∙ texts status reason (codes "\r\n" ++ rest) all

-- a head
head_read : (status : ℕ) (reason : List ℕ) (fields : List (List ℕ)) (content : List ℕ) → status < 1000 → All IsText reason → All IsFieldLine fields → reply_after fresh (response_bytes status reason fields content) ≡ reply_after (after_head status) content
head_read status reason fields content small text lines =
    status_line status reason (flat_map line fields ++ (line [] ++ content)) small text
    ∙ field_lines status fields (line [] ++ content) lines

pub whole_read : (status : ℕ) (reason : List ℕ) (fields : List (List ℕ)) (content : List ℕ) → 200 ≤ status → status < 1000 → All IsText reason → All IsFieldLine fields → length content < 2 ^ 64 → reply_after fresh (response_bytes status reason fields content) ≡ replied status (length content)
whole_read status reason fields content final small text lines fits =
    let other : is_interim status ≡ false = ne_eqb (status / 100) 1 (λ e. omega (arith, e, final)) in
    let size : min (0 + length content) (2 ^ 64 - 1) ≡ length content = omega (arith, fits) in
    head_read status reason fields content small text lines
    ∙ ap (λ r. reply_after r content) (cond-false (is_interim status) fresh (replied status 0) other)
    ∙ all_content (replied status 0) content refl (omega arith)
    ∙ ap (replied status) size

pub interim_passed : (status : ℕ) (reason : List ℕ) (fields : List (List ℕ)) (more : List ℕ) → 100 ≤ status → status < 200 → All IsText reason → All IsFieldLine fields → reply_after fresh (response_bytes status reason fields more) ≡ reply_after fresh more
interim_passed status reason fields more least most text lines =
    let hundred : status / 100 ≡ 1 = omega (arith, least, most) in
    head_read status reason fields more (omega (arith, most)) text lines
    ∙ ap (λ n. reply_after (cond (n == 1) fresh (replied status 0)) more) hundred
