use Rattle.std.proofs.Common.{◌≡◌, ℕ, ◌*◌, ◌<◌, length, ◌/◌, ◌%◌, ◌^◌, List, [], ◌∷◌, ◌++◌, take, get_or, arith, ap, sym, ◌∙◌, append_assoc}
use Rattle.std.specs.Prelude.{bit_xor}
use Rattle.std.proofs.lemmas.List.{take_more, append-nil}
use Rattle.std.proofs.lemmas.Nat.{xor_lt}
use Rattle.page_checksum.specs.Checksum.{checksum_of}
use Rattle.page_checksum.proofs.TableRule.{checksum-push, entry}
use Rattle.page_checksum.proofs.Tables.{alone}
use Rattle.page_checksum.proofs.crc.checksum_on_each.Goals as goal

pub loop-byte-preserved : goal.loop-byte-preserved
loop-byte-preserved c =
    let i : ℕ = c.loop-byte.byte-index in
    let bytes : List ℕ = c.args.bytes.now in
    let sum : ℕ = c.loop-byte.sum in
    let byte : ℕ = get_or bytes i 0 in
    let small : byte < 256 = omega (arith, c.type_inv.bytes i) in
    let inside : i < length bytes = c.loop-byte-test.true in
    let sum_small : sum < 2 ^ 32 = omega (arith, c.loop-byte.auto.sum-fits) in
    let place : bit_xor (sum / 2 ^ 24) byte < 2 ^ 8 = xor_lt 8 (sum / 2 ^ 24) byte (omega arith) (omega arith) in
    λ front e.
    let begun : sum ≡ checksum_of (front ++ take i bytes) = c.loop-byte.invariant front e in
    ap (λ n. bit_xor (sum * 2 ^ 8 % 2 ^ 32) n) (c.entry.ensures ∙ sym (alone (bit_xor (sum / 2 ^ 24) byte) place))
    ∙ ap (λ n. bit_xor (n * 2 ^ 8 % 2 ^ 32) (entry (bit_xor (n / 2 ^ 24) byte))) begun
    ∙ sym (checksum-push (front ++ take i bytes) byte small)
    ∙ ap checksum_of (append_assoc front (take i bytes) (byte ∷ []) ∙ ap (λ l. front ++ l) (sym (take_more bytes i 0 inside)))

pub loop-byte-init : goal.loop-byte-init
loop-byte-init c = λ front e. e ∙ ap checksum_of (sym (append-nil front))
