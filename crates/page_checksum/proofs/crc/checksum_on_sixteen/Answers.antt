use Rattle.std.proofs.Common.{◌++◌, ℕ, List, refl, ap, ◌∙◌}
use Rattle.std.specs.Prelude.{bit_xor}
use Rattle.page_checksum.specs.Checksum.{checksum_of}
use Rattle.page_checksum.specs.Laws.Words.{gets, bytes_are, low_bytes, word_of}
use Rattle.page_checksum.proofs.Slices.{bytes_before, checksum-on_sixteen}
use Rattle.page_checksum.proofs.crc.checksum_on_sixteen.Goals as goal

pub returns : goal.returns
returns c = λ front is.
    let bytes : List ℕ = c.args.bytes.now in
    let first : ℕ = c.from_be_bytes.result in
    let second : List ℕ = gets 4 4 bytes in
    let third : List ℕ = gets 8 4 bytes in
    let fourth : List ℕ = gets 12 4 bytes in
    let last : ℕ = c.checksum_of_word.result in
    ap (λ n. bit_xor (bit_xor (bit_xor n c.checksum_of_low_first-2.result) c.checksum_of_low_first-3.result) last)
    (c.checksum_of_low_first.ensures ∙ ap (bytes_before 8) (low_bytes 4 bytes _ c.fits-bytes c.from_be_bytes-second.ensures))
    ∙ ap (λ n. bit_xor (bit_xor (bit_xor (bytes_before 8 second) n) c.checksum_of_low_first-3.result) last)
    (c.checksum_of_low_first-2.ensures ∙ ap (bytes_before 4) (low_bytes 8 bytes _ c.fits-bytes c.from_be_bytes-third.ensures))
    ∙ ap (λ n. bit_xor (bit_xor (bit_xor (bytes_before 8 second) (bytes_before 4 third)) n) last)
    (c.checksum_of_low_first-3.ensures ∙ ap (bytes_before 0) (low_bytes 12 bytes _ c.fits-bytes c.from_be_bytes-fourth.ensures))
    ∙ ap (bit_xor (bit_xor (bit_xor (bytes_before 8 second) (bytes_before 4 third)) (bytes_before 0 fourth))) c.checksum_of_word.ensures
    ∙ checksum-on_sixteen front (gets 0 4 bytes) second third fourth c.args.before first is (word_of 0 bytes first c.fits-bytes c.from_be_bytes.ensures) refl refl refl
    ∙ ap (λ l. checksum_of (front ++ l)) (bytes_are 16 bytes c.told-bytes)
