-- One more byte.
use Rattle.std.proofs.Common.{◌≡◌, ◌+◌, Bool, false, List, ◌++◌, length, sym, ◌∙◌, ap, arith, append_assoc, length-append}
use Rattle.std.proofs.lemmas.List.{length-replicate}
use Rattle.page_checksum.specs.Checksum.{add, remainder}
use Rattle.page_checksum.specs.Laws.Division.{zeros, add_parts, add-zeros, zeros-add, remainder-append, remainder-add, remainder-zeros, remainder-more, length-remainder, length-add}

-- what 32 zero coefficients after the message leave
unfoldable pub left_of : List Bool → List Bool
left_of message = remainder (length message) (message ++ zeros 32)

pub length-left_of : (message : List Bool) → length (left_of message) ≡ 32
unfolding left_of
length-left_of message = omega (arith, length-remainder (length message) (message ++ zeros 32) (omega (arith, length-append message (zeros 32))), length-append message (zeros 32))

apart : (message byte : List Bool) → length byte ≡ 8 →
    (message ++ byte) ++ zeros 32 ≡ add ((message ++ zeros 32) ++ zeros 8) (zeros (length message) ++ (byte ++ zeros 32))
apart message byte h =
    append_assoc message byte (zeros 32)
    ∙ ap (λ l. l ++ (byte ++ zeros 32)) (sym (add-zeros (length message) message))
    ∙ ap (λ l. add message (zeros (length message)) ++ l) (sym (zeros-add (byte ++ zeros 32)))
    ∙ sym (add_parts message (zeros (length (byte ++ zeros 32))) (zeros (length message)) (byte ++ zeros 32) (sym (length-replicate (length message) false)))
    ∙ ap (λ n. add (message ++ zeros n) (zeros (length message) ++ (byte ++ zeros 32))) (let e : length (byte ++ zeros 32) ≡ 40 = omega (arith, length-append byte (zeros 32)) in e)
    ∙ ap (λ l. add l (zeros (length message) ++ (byte ++ zeros 32))) (sym (append_assoc message (zeros 32) (zeros 8)))

-- the division as far as the message goes
first_part : (message byte : List Bool) → length byte ≡ 8 →
    remainder (length message) ((message ++ byte) ++ zeros 32) ≡ add (left_of message ++ zeros 8) (byte ++ zeros 32)
unfolding left_of
first_part message byte h =
    ap (remainder (length message)) (apart message byte h)
    ∙ remainder-add (length message) ((message ++ zeros 32) ++ zeros 8) (zeros (length message) ++ (byte ++ zeros 32))
    (omega (arith, length-append (message ++ zeros 32) (zeros 8), length-append message (zeros 32), length-append (zeros (length message)) (byte ++ zeros 32), length-append byte (zeros 32), length-replicate (length message) false))
    ∙ ap (λ l. add l (remainder (length message) (zeros (length message) ++ (byte ++ zeros 32)))) (remainder-append (length message) (message ++ zeros 32) (zeros 8) (omega (arith, length-append message (zeros 32))))
    ∙ ap (λ l. add (remainder (length message) (message ++ zeros 32) ++ zeros 8) l) (remainder-zeros (length message) (byte ++ zeros 32))

-- the first eight coefficients and the rest, apart
regrouped : (high low byte : List Bool) → length high ≡ 8 → length low ≡ 24 → length byte ≡ 8 →
    add ((high ++ low) ++ zeros 8) (byte ++ zeros 32) ≡ add (add high byte ++ zeros 32) (zeros 8 ++ (low ++ zeros 8))
regrouped high low byte h l b =
    ap (λ k. add k (byte ++ zeros 32)) (append_assoc high low (zeros 8))
    ∙ add_parts high (low ++ zeros 8) byte (zeros 32) (h ∙ sym b)
    ∙ ap (λ k. add high byte ++ k) (add-zeros 32 (low ++ zeros 8))
    ∙ ap (λ k. k ++ (low ++ zeros 8)) (sym (add-zeros 8 (add high byte)))
    ∙ ap (λ k. add (add high byte) (zeros 8) ++ k) (sym (zeros-add (low ++ zeros 8)))
    ∙ ap (λ n. add (add high byte) (zeros 8) ++ add (zeros n) (low ++ zeros 8)) (let e : length (low ++ zeros 8) ≡ 32 = omega (arith, length-append low (zeros 8)) in e)
    ∙ sym (add_parts (add high byte) (zeros 32) (zeros 8) (low ++ zeros 8) (length-add high byte ∙ h))

pub left_of-push : (message high low byte : List Bool) → left_of message ≡ high ++ low → length high ≡ 8 → length low ≡ 24 → length byte ≡ 8 →
    left_of (message ++ byte) ≡ add (remainder 8 (add high byte ++ zeros 32)) (low ++ zeros 8)
unfolding left_of
left_of-push message high low byte e h l b =
    ap (λ n. remainder n ((message ++ byte) ++ zeros 32)) (length-append message byte ∙ ap (λ n. length message + n) b)
    ∙ remainder-more (length message) 8 ((message ++ byte) ++ zeros 32)
    ∙ ap (remainder 8) (first_part message byte b ∙ ap (λ k. add (k ++ zeros 8) (byte ++ zeros 32)) e ∙ regrouped high low byte h l b)
    ∙ remainder-add 8 (add high byte ++ zeros 32) (zeros 8 ++ (low ++ zeros 8)) (omega (arith, length-append (add high byte) (zeros 32), length-add high byte, length-append (zeros 8) (low ++ zeros 8), length-append low (zeros 8)))
    ∙ ap (λ k. add (remainder 8 (add high byte ++ zeros 32)) k) (remainder-zeros 8 (low ++ zeros 8))
