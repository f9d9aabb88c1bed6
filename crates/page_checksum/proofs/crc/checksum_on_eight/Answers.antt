use Rattle.std.proofs.Common.{◌++◌, ℕ, List, refl, ap, ◌∙◌}
use Rattle.std.specs.Prelude.{bit_xor}
use Rattle.page_checksum.specs.Checksum.{checksum_of}
use Rattle.page_checksum.specs.Laws.Words.{gets, bytes_are, low_bytes, word_of}
use Rattle.page_checksum.proofs.Slices.{bytes_before, checksum-on_eight}
use Rattle.page_checksum.proofs.crc.checksum_on_eight.Goals as goal

pub returns : goal.returns
returns c = λ front is.
    let bytes : List ℕ = c.args.bytes.now in
    let first : ℕ = c.from_be_bytes.result in
    let second : List ℕ = gets 4 4 bytes in
    ap (λ n. bit_xor n c.checksum_of_word.result) (c.checksum_of_low_first.ensures ∙ ap (bytes_before 0) (low_bytes 4 bytes _ c.fits-bytes c.from_be_bytes-second.ensures))
    ∙ ap (bit_xor (bytes_before 0 second)) c.checksum_of_word.ensures
    ∙ checksum-on_eight front (gets 0 4 bytes) second c.args.before first is (word_of 0 bytes first c.fits-bytes c.from_be_bytes.ensures) refl
    ∙ ap (λ l. checksum_of (front ++ l)) (bytes_are 8 bytes c.told-bytes)
