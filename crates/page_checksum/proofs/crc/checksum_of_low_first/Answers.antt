use Rattle.std.proofs.Common.{◌≡◌, ℕ, ◌+◌, get_or, ap, ◌∙◌}
use Rattle.std.specs.Int.{byte_at, to_le_bytes, w32}
use Rattle.std.specs.Prelude.{bit_xor}
use Rattle.page_checksum.specs.Checksum.{entry_before}
use Rattle.page_checksum.proofs.Slices.{entries_of_word}
use Rattle.page_checksum.proofs.crc.checksum_of_low_first.Goals as goal

pub returns : goal.returns
returns c =
    let zeros : ℕ = c.args.zeros in
    let word : ℕ = c.args.word in
    let at : (i : ℕ) → get_or c.to_le_bytes.result i 0 ≡ get_or (to_le_bytes w32 word) i 0 = λ i. ap (λ l. get_or l i 0) c.to_le_bytes.ensures in
    let first : ℕ = entry_before (zeros + 3) (byte_at 0 word) in
    let second : ℕ = entry_before (zeros + 2) (byte_at 1 word) in
    let third : ℕ = entry_before (zeros + 1) (byte_at 2 word) in
    ap (λ n. bit_xor (bit_xor (bit_xor n c.entry-2.result) c.entry-3.result) c.entry-4.result) (c.entry.ensures ∙ ap (entry_before (zeros + 3)) (at 0))
    ∙ ap (λ n. bit_xor (bit_xor (bit_xor first n) c.entry-3.result) c.entry-4.result) (c.entry-2.ensures ∙ ap (entry_before (zeros + 2)) (at 1))
    ∙ ap (λ n. bit_xor (bit_xor (bit_xor first second) n) c.entry-4.result) (c.entry-3.ensures ∙ ap (entry_before (zeros + 1)) (at 2))
    ∙ ap (bit_xor (bit_xor (bit_xor first second) third)) (c.entry-4.ensures ∙ ap (entry_before zeros) (at 3))
    ∙ entries_of_word (byte_at 0 word) (byte_at 1 word) (byte_at 2 word) (byte_at 3 word) zeros
