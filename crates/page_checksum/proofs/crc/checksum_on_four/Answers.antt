use Rattle.std.proofs.Common.{◌≡◌, ◌++◌, ℕ, List, sym, ap, ◌∙◌}
use Rattle.std.specs.Int.{from_be_bytes, w32}
use Rattle.page_checksum.specs.Checksum.{checksum_of}
use Rattle.page_checksum.specs.Laws.Words.{gets, bytes_are, word_of}
use Rattle.page_checksum.proofs.Slices.{checksum-on_four}
use Rattle.page_checksum.proofs.crc.checksum_on_four.Goals as goal

pub returns : goal.returns
returns c = λ front is.
    let bytes : List ℕ = c.args.bytes.now in
    let are : gets 0 4 bytes ≡ bytes = bytes_are 4 bytes c.told-bytes in
    let word = word_of 0 bytes c.from_be_bytes.result c.fits-bytes (c.from_be_bytes.ensures ∙ ap (from_be_bytes w32) (sym are)) in
    c.checksum_of_word.ensures
    ∙ checksum-on_four front (gets 0 4 bytes) c.args.before c.from_be_bytes.result is word
    ∙ ap (λ l. checksum_of (front ++ l)) are
