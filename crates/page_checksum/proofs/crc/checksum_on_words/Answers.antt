use Rattle.std.proofs.Common.{ℕ, refl, ap, ◌∙◌, arith}
use Rattle.std.specs.Prelude.{bit_xor}
use Rattle.std.specs.Int.{to_be_bytes, w32}
use Rattle.page_checksum.specs.Laws.Words.{own_word}
use Rattle.page_checksum.proofs.Slices.{checksum-on_sixteen, word_before}
use Rattle.page_checksum.proofs.crc.checksum_on_words.Goals as goal

pub returns : goal.returns
returns c = λ front is.
    let v : ℕ = c.args.first in
    let w : ℕ = c.args.second in
    let x : ℕ = c.args.third in
    let y : ℕ = c.args.fourth in
    ap (λ n. bit_xor (bit_xor (bit_xor n c.checksum_of_word-2.result) c.checksum_of_word-3.result) c.checksum_of_word-4.result) c.checksum_of_word.ensures
    ∙ ap (λ n. bit_xor (bit_xor (bit_xor (word_before 8 w) n) c.checksum_of_word-3.result) c.checksum_of_word-4.result) c.checksum_of_word-2.ensures
    ∙ ap (λ n. bit_xor (bit_xor (bit_xor (word_before 8 w) (word_before 4 x)) n) c.checksum_of_word-4.result) c.checksum_of_word-3.ensures
    ∙ ap (bit_xor (bit_xor (bit_xor (word_before 8 w) (word_before 4 x)) (word_before 0 y))) c.checksum_of_word-4.ensures
    ∙ checksum-on_sixteen front (to_be_bytes w32 v) (to_be_bytes w32 w) (to_be_bytes w32 x) (to_be_bytes w32 y) c.args.before v is
    (own_word v (omega (arith, c.ranges.first))) refl refl refl
