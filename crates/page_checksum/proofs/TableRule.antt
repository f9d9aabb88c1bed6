-- One more byte, by the checksum of each byte.
use Rattle.std.proofs.Common.{◌≡◌, ℕ, ◌+◌, ◌*◌, ◌/◌, ◌%◌, ◌^◌, ◌<◌, Bool, List, [], ◌∷◌, ◌++◌, length, take, drop, sym, ◌∙◌, ap, subst, arith, length-append}
use Rattle.std.specs.Prelude.{bit_xor}
use Rattle.std.proofs.lemmas.List.{take-append-drop, length-take, length-drop, flat_map_more}
use Rattle.std.proofs.lemmas.Nat.{shr_high, mod_low, xor_comm}
use Rattle.page_checksum.specs.Checksum.{bits_of, number_of, message_bits, add, remainder, checksum_of}
use Rattle.page_checksum.specs.Laws.Division.{zeros, length-remainder, length-add}
use Rattle.page_checksum.specs.Laws.BitNumbers.{number-add, number-append, number-zeros, number-bits_of, bits_of-number, length-bits_of, number_lt, small_mod}
use Rattle.page_checksum.specs.Laws.ByteStep.{left_of, left_of-push, length-left_of}

-- what the byte i before 32 zero bits leaves
unfoldable pub entry : ℕ → ℕ
entry i = number_of (remainder 8 (bits_of 8 i ++ zeros 32))

shifted : (high low sum : ℕ) → low < 2 ^ 24 → sum ≡ high * 2 ^ 24 + low → low * 2 ^ 8 + 0 ≡ (sum * 2 ^ 8) % 2 ^ 32
shifted high low sum h e =
    let w : low * 2 ^ 8 < 2 ^ 32 = omega arith in
    let s : high * 2 ^ 32 + low * 2 ^ 8 ≡ sum * 2 ^ 8 = omega arith in
    let z : low * 2 ^ 8 + 0 ≡ low * 2 ^ 8 = omega arith in
    z ∙ sym (mod_low high 32 (low * 2 ^ 8) w) ∙ ap (λ n. n % 2 ^ 32) s

-- a message with one more byte
pub checksum-push : (bytes : List ℕ) (b : ℕ) → b < 256 →
    checksum_of (bytes ++ b ∷ []) ≡ bit_xor ((checksum_of bytes * 2 ^ 8) % 2 ^ 32) (entry (bit_xor (checksum_of bytes / 2 ^ 24) b))
unfolding checksum_of message_bits left_of entry
checksum-push bytes b small =
    let message : List Bool = message_bits bytes in
    let byte : List Bool = bits_of 8 b in
    let sum : List Bool = left_of message in
    let high : List Bool = take 8 sum in
    let low : List Bool = drop 8 sum in
    let sum_32 : length sum ≡ 32 = length-left_of message in
    let high_8 : length high ≡ 8 = omega (arith, length-take 8 sum) in
    let low_24 : length low ≡ 24 = omega (arith, length-drop 8 sum) in
    let byte_8 : length byte ≡ 8 = length-bits_of 8 b in
    let split : sum ≡ high ++ low = sym (take-append-drop 8 sum) in
    let front : List Bool = remainder 8 (add high byte ++ zeros 32) in
    let front_32 : length front ≡ 32 = omega (arith, length-remainder 8 (add high byte ++ zeros 32) (omega (arith, length-append (add high byte) (zeros 32))), length-append (add high byte) (zeros 32), length-add high byte) in
    let back_32 : length (low ++ zeros 8) ≡ 32 = omega (arith, length-append low (zeros 8)) in
    let whole : number_of sum ≡ number_of high * 2 ^ 24 + number_of low =
    ap number_of split ∙ number-append high low ∙ ap (λ n. number_of high * 2 ^ n + number_of low) low_24 in
    let low_small : number_of low < 2 ^ 24 = subst (λ n. number_of low < 2 ^ n) low_24 (number_lt low) in
    let high_is : number_of high ≡ number_of sum / 2 ^ 24 =
    sym (ap (λ n. n / 2 ^ 24) whole ∙ shr_high (number_of high) 24 (number_of low) low_small) in
    let index : number_of (add high byte) ≡ bit_xor (number_of sum / 2 ^ 24) b =
    number-add high byte (high_8 ∙ sym byte_8)
    ∙ ap (λ n. bit_xor n (number_of byte)) high_is
    ∙ ap (λ n. bit_xor (number_of sum / 2 ^ 24) n) (number-bits_of 8 b ∙ small_mod b 256 small) in
    let front_is : number_of front ≡ entry (bit_xor (number_of sum / 2 ^ 24) b) =
    ap (λ l. number_of (remainder 8 (l ++ zeros 32))) (sym (bits_of-number 8 (add high byte) (length-add high byte ∙ high_8))) ∙ ap entry index in
    let back_is : number_of (low ++ zeros 8) ≡ (number_of sum * 2 ^ 8) % 2 ^ 32 =
    number-append low (zeros 8)
    ∙ ap (λ n. number_of low * 2 ^ 8 + n) (number-zeros 8)
    ∙ shifted (number_of high) (number_of low) (number_of sum) low_small whole in
    ap (λ l. number_of (left_of l)) (sym (flat_map_more (bits_of 8) [] bytes b))
    ∙ ap number_of (left_of-push message high low byte split high_8 low_24 byte_8)
    ∙ number-add front (low ++ zeros 8) (front_32 ∙ sym back_32)
    ∙ ap (λ n. bit_xor n (number_of (low ++ zeros 8))) front_is
    ∙ xor_comm (entry (bit_xor (number_of sum / 2 ^ 24) b)) (number_of (low ++ zeros 8))
    ∙ ap (λ n. bit_xor n (entry (bit_xor (number_of sum / 2 ^ 24) b))) back_is
