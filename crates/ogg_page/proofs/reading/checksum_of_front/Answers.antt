use Rattle.std.proofs.Common.{◌≡◌, ◌++◌, ◌∷◌, [], ℕ, List, get_or, sym, ap, ◌∙◌, refl}
use Rattle.page_checksum.specs.Checksum.{bytes_of, checksum_of, message_bits, number_of, remainder}
use Rattle.ogg_page.specs.Reading.{blanked}
use Rattle.page_checksum.specs.Laws.Words.{four_words, gets, bytes_are, word_behind_two, word_of, word_of_two}
use Rattle.ogg_page.proofs.reading.checksum_of_front.Goals as goal

no_bytes : 0 ≡ checksum_of []
unfolding checksum_of message_bits number_of remainder
no_bytes = refl

pub returns-clause-sum : goal.returns-clause-sum
returns-clause-sum c =
    let bytes : List ℕ = c.args.front.now in
    let a : ℕ = c.from_be_bytes.result in
    let b : ℕ = c.from_be_bytes-2.result in
    let d : ℕ = c.from_be_bytes-3.result in
    let e : ℕ = c.from_be_bytes-4.result in
    let v : ℕ = c.from_be_bytes-5.result in
    let w : ℕ = c.from_be_bytes-6.result in
    let x : ℕ = c.from_be_bytes-7.result in
    let y : ℕ = c.from_be_bytes-8.result in
    let two : List ℕ = get_or bytes 20 0 ∷ get_or bytes 21 0 ∷ 0 ∷ 0 ∷ [] in
    let last : List ℕ = 0 ∷ 0 ∷ get_or bytes 26 0 ∷ get_or bytes 27 0 ∷ [] in
    let first = four_words (gets 0 4 bytes) (gets 4 4 bytes) (gets 8 4 bytes) (gets 12 4 bytes) a b d e
    (word_of 0 bytes a c.fits-front c.from_be_bytes.ensures) (word_of 4 bytes b c.fits-front c.from_be_bytes-2.ensures)
    (word_of 8 bytes d c.fits-front c.from_be_bytes-3.ensures) (word_of 12 bytes e c.fits-front c.from_be_bytes-4.ensures) in
    let second = four_words (gets 16 4 bytes) two last (gets 28 4 bytes) v w x y
    (word_of 16 bytes v c.fits-front c.from_be_bytes-5.ensures)
    (word_of_two (get_or bytes 20 0) (get_or bytes 21 0) w (c.fits-front 20) (c.fits-front 21) c.from_be_bytes-6.ensures)
    (word_behind_two (get_or bytes 26 0) (get_or bytes 27 0) x (c.fits-front 26) (c.fits-front 27) c.from_be_bytes-7.ensures)
    (word_of 28 bytes y c.fits-front c.from_be_bytes-8.ensures) in
    c.checksum_on_words.ensures (bytes_of a b d e) (c.checksum_on_words-sum.ensures [] no_bytes)
    ∙ ap (λ l. checksum_of (l ++ bytes_of v w x y)) first
    ∙ ap (λ l. checksum_of (gets 0 16 bytes ++ l)) second
    ∙ ap (λ l. checksum_of (blanked l)) (bytes_are 32 bytes c.told-front)

pub returns-clause-front : goal.returns-clause-front
returns-clause-front c = λ rest.
    let bytes : List ℕ = c.args.front.now in
    let are : gets 0 32 bytes ≡ bytes = bytes_are 32 bytes c.told-front in
    ap (λ l. blanked l ++ rest) (sym are) ∙ ap (λ l. blanked (l ++ rest)) are
