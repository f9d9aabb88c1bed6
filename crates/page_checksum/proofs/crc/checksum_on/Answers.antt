use Rattle.std.proofs.Common.{◌≡◌, ◌<◌, ◌++◌, ℕ, zero, suc, List, [], ◌∷◌, length, take, get_or, sym, ap, ◌∙◌, subst, arith}
use Rattle.std.specs.Int.{from_be_bytes, w32}
use Rattle.std.proofs.lemmas.List.{length-take-le, take-append-drop}
use Rattle.page_checksum.specs.Checksum.{checksum_of}
use Rattle.page_checksum.specs.Laws.Words.{gets, bytes_are, word_of}
use Rattle.page_checksum.proofs.Slices.{checksum-folded}
use Rattle.page_checksum.proofs.crc.checksum_on.Goals as goal

front_small : (n : ℕ) (xs : List ℕ) → ((i : ℕ) → get_or xs i 0 < 256) → (i : ℕ) → get_or (take n xs) i 0 < 256
front_small zero xs h i = omega arith
front_small (suc n) [] h i = omega arith
front_small (suc n) (x ∷ xs) h zero = h 0
front_small (suc n) (x ∷ xs) h (suc i) = front_small n xs (λ k. h (suc k)) i

pub returns-in-Some : goal.returns-in-Some
returns-in-Some c = λ front is.
    let bytes : List ℕ = c.args.bytes.now in
    let first : List ℕ = c.in-Some.first.now in
    let rest : List ℕ = c.in-Some.rest.now in
    let word : ℕ = c.from_be_bytes.result in
    let cases = c.in-Some.ensures.cases in
    let four : length first ≡ 4 = ap length cases.0 ∙ length-take-le 4 bytes (omega arith) in
    let are : gets 0 4 first ≡ first = bytes_are 4 first four in
    let split : first ++ rest ≡ bytes = ap (λ l. l ++ rest) cases.0 ∙ ap (λ l. take 4 bytes ++ l) cases.1 ∙ take-append-drop 4 bytes in
    let small : (i : ℕ) → get_or first i 0 < 256 = subst (λ (l : List ℕ). (i : ℕ) → get_or l i 0 < 256) (sym cases.0) (front_small 4 bytes (λ i. omega (arith, c.type_inv.bytes i))) in
    c.checksum_by_folding.ensures
    ∙ sym (checksum-folded front (gets 0 4 first) rest c.args.before word is (word_of 0 first word small (c.from_be_bytes.ensures ∙ ap (from_be_bytes w32) (sym are))))
    ∙ ap (λ l. checksum_of (front ++ (l ++ rest))) are
    ∙ ap (λ l. checksum_of (front ++ l)) split
