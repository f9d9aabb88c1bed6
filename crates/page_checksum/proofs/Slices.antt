-- A message followed by words, by the checksum of what came before and of each byte.
use Rattle.std.proofs.Common.{◌≡◌, ℕ, zero, suc, ◌+◌, ◌*◌, ◌^◌, ◌<◌, Bool, false, List, [], ◌∷◌, ◌++◌, length, replicate, refl, sym, ◌∙◌, ap, subst, arith, append_assoc, length-append, take, drop}
use Rattle.std.specs.Prelude.{bit_xor}
use Rattle.std.specs.Int.{byte_at, to_be_bytes, w32}
use Rattle.std.specs.Int.Bits.{xor_assoc}
use Rattle.std.specs.List.{flat_map}
use Rattle.std.proofs.lemmas.List.{length-replicate, replicate-append-replicate, take-append-drop}
use Rattle.std.proofs.lemmas.Nat.{xor_comm}
use Rattle.std.proofs.lemmas.Grind.{flat_map-append}
use Rattle.page_checksum.specs.Checksum.{bits_of, number_of, message_bits, add, remainder, checksum_of, entry_before}
use Rattle.page_checksum.specs.Laws.Division.{zeros, add_parts, add-zeros, zeros-add, remainder-add, remainder-zeros, remainder-append, remainder-more, length-add}
use Rattle.page_checksum.specs.Laws.BitNumbers.{number-add, number-append, number-bits_of, length-bits_of, number_lt, small_mod, same_number}
use Rattle.page_checksum.specs.Laws.ByteStep.{left_of, length-left_of}
use Rattle.page_checksum.specs.Laws.Words.{IsWord}

-- ---- bytes as bits
pub length-message_bits : (bytes : List ℕ) → length (message_bits bytes) ≡ 8 * length bytes
unfolding message_bits
length-message_bits [] = refl
length-message_bits (b ∷ bytes) = omega (arith, length-append (bits_of 8 b) (flat_map (bits_of 8) bytes), length-bits_of 8 b, length-message_bits bytes)

pub joined : (xs ys : List ℕ) → message_bits (xs ++ ys) ≡ message_bits xs ++ message_bits ys
unfolding message_bits
joined xs ys = flat_map-append (bits_of 8) xs ys

pub zero_bits : (n : ℕ) → message_bits (replicate n 0) ≡ zeros (8 * n)
unfolding message_bits bits_of
zero_bits zero = refl
zero_bits (suc n) = ap (λ l. zeros 8 ++ l) (zero_bits n) ∙ replicate-append-replicate 8 (8 * n) false ∙ ap zeros (let e : 8 + 8 * n ≡ 8 * suc n = omega arith in e)

-- zero coefficients in two parts, together as many as these
padded : (a b : ℕ) (xs : List Bool) → a + b ≡ length xs → add (zeros a ++ zeros b) xs ≡ xs
padded a b xs e = ap (λ l. add l xs) (replicate-append-replicate a b false ∙ ap zeros e) ∙ zeros-add xs

-- ---- the first part of a message, and the rest
front_apart : (front rest : List Bool) →
    (front ++ rest) ++ zeros 32 ≡ add ((front ++ zeros (length rest)) ++ zeros 32) (zeros (length front) ++ (rest ++ zeros 32))
front_apart front rest =
    append_assoc front rest (zeros 32)
    ∙ ap (λ l. front ++ l) (sym (padded (length rest) 32 (rest ++ zeros 32) (let e : length rest + 32 ≡ length (rest ++ zeros 32) = omega (arith, length-append rest (zeros 32)) in e)))
    ∙ ap (λ l. l ++ add (zeros (length rest) ++ zeros 32) (rest ++ zeros 32)) (sym (add-zeros (length front) front))
    ∙ sym (add_parts front (zeros (length rest) ++ zeros 32) (zeros (length front)) (rest ++ zeros 32) (sym (length-replicate (length front) false)))
    ∙ ap (λ l. add l (zeros (length front) ++ (rest ++ zeros 32))) (sym (append_assoc front (zeros (length rest)) (zeros 32)))

left_of-front : (front rest : List Bool) → left_of (front ++ rest) ≡ add (left_of (front ++ zeros (length rest))) (left_of rest)
unfolding left_of
left_of-front front rest =
    let f : ℕ = length front in
    let r : ℕ = length rest in
    let padding : List Bool = (front ++ zeros r) ++ zeros 32 in
    let behind : List Bool = zeros f ++ (rest ++ zeros 32) in
    let same : length padding ≡ length behind =
    omega (arith, length-append (front ++ zeros r) (zeros 32), length-append front (zeros r), length-replicate r false, length-append (zeros f) (rest ++ zeros 32), length-replicate f false, length-append rest (zeros 32)) in
    let whole : length (front ++ rest) ≡ f + r = length-append front rest in
    let padded_whole : f + r ≡ length (front ++ zeros r) = omega (arith, length-append front (zeros r), length-replicate r false) in
    ap (λ n. remainder n ((front ++ rest) ++ zeros 32)) whole
    ∙ ap (remainder (f + r)) (front_apart front rest)
    ∙ remainder-add (f + r) padding behind same
    ∙ ap (λ n. add (remainder n padding) (remainder (f + r) behind)) padded_whole
    ∙ ap (λ l. add (remainder (length (front ++ zeros r)) padding) l) (remainder-more f r behind ∙ ap (remainder r) (remainder-zeros f (rest ++ zeros 32)))

-- a message in two parts: the first with zeros in the place of the second, and the second
pub checksum-apart : (front rest : List ℕ) → checksum_of (front ++ rest) ≡ bit_xor (checksum_of (front ++ replicate (length rest) 0)) (checksum_of rest)
unfolding checksum_of left_of
checksum-apart front rest =
    let own : List Bool = message_bits front in
    let behind : List Bool = message_bits rest in
    let blank : own ++ zeros (length behind) ≡ message_bits (front ++ replicate (length rest) 0) =
    ap (λ l. own ++ l) (ap zeros (length-message_bits rest) ∙ sym (zero_bits (length rest))) ∙ sym (joined front (replicate (length rest) 0)) in
    ap (λ l. number_of (left_of l)) (joined front rest)
    ∙ ap number_of (left_of-front own behind)
    ∙ number-add (left_of (own ++ zeros (length behind))) (left_of behind) (length-left_of (own ++ zeros (length behind)) ∙ sym (length-left_of behind))
    ∙ ap (λ l. bit_xor (number_of (left_of l)) (number_of (left_of behind))) blank

-- ---- what came before, folded into the first 32 coefficients of what follows
message_apart : (message word : List Bool) →
    (message ++ word) ++ zeros 32 ≡ add ((message ++ zeros 32) ++ zeros (length word)) (zeros (length message) ++ (word ++ zeros 32))
message_apart message word =
    append_assoc message word (zeros 32)
    ∙ ap (λ l. message ++ l) (sym (padded 32 (length word) (word ++ zeros 32) (let e : 32 + length word ≡ length (word ++ zeros 32) = omega (arith, length-append word (zeros 32)) in e)))
    ∙ ap (λ l. l ++ add (zeros 32 ++ zeros (length word)) (word ++ zeros 32)) (sym (add-zeros (length message) message))
    ∙ sym (add_parts message (zeros 32 ++ zeros (length word)) (zeros (length message)) (word ++ zeros 32) (sym (length-replicate (length message) false)))
    ∙ ap (λ l. add l (zeros (length message) ++ (word ++ zeros 32))) (sym (append_assoc message (zeros 32) (zeros (length word))))

-- the division as far as the message goes
as_far : (message word : List Bool) → remainder (length message) ((message ++ word) ++ zeros 32) ≡ add (left_of message ++ zeros (length word)) (word ++ zeros 32)
unfolding left_of
as_far message word =
    let m : ℕ = length message in
    let padding : List Bool = zeros (length word) in
    ap (remainder m) (message_apart message word)
    ∙ remainder-add m ((message ++ zeros 32) ++ padding) (zeros m ++ (word ++ zeros 32))
    (omega (arith, length-append (message ++ zeros 32) padding, length-append message (zeros 32), length-replicate (length word) false, length-append (zeros m) (word ++ zeros 32), length-append word (zeros 32), length-replicate m false))
    ∙ ap (λ l. add l (remainder m (zeros m ++ (word ++ zeros 32)))) (remainder-append m (message ++ zeros 32) padding (omega (arith, length-append message (zeros 32))))
    ∙ ap (λ l. add (remainder m (message ++ zeros 32) ++ padding) l) (remainder-zeros m (word ++ zeros 32))

folded_front : (left word rest : List Bool) → length left ≡ 32 → length word ≡ 32 →
    add (left ++ zeros (length (word ++ rest))) ((word ++ rest) ++ zeros 32) ≡ (add left word ++ rest) ++ zeros 32
folded_front left word rest l w =
    ap (λ k. add (left ++ zeros (length (word ++ rest))) k) (append_assoc word rest (zeros 32))
    ∙ add_parts left (zeros (length (word ++ rest))) word (rest ++ zeros 32) (l ∙ sym w)
    ∙ ap (λ n. add left word ++ add (zeros n) (rest ++ zeros 32)) (let e : length (word ++ rest) ≡ length (rest ++ zeros 32) = omega (arith, length-append word rest, length-append rest (zeros 32), w) in e)
    ∙ ap (λ k. add left word ++ k) (zeros-add (rest ++ zeros 32))
    ∙ sym (append_assoc (add left word) rest (zeros 32))

spelled : (bits : List Bool) → left_of bits ≡ remainder (length bits) (bits ++ zeros 32)
unfolding left_of
spelled bits = refl

left_of-folded : (message word rest : List Bool) → length word ≡ 32 → left_of (message ++ (word ++ rest)) ≡ left_of (add (left_of message) word ++ rest)
left_of-folded message word rest w =
    let left : List Bool = left_of message in
    let all : List Bool = word ++ rest in
    let l : length left ≡ 32 = length-left_of message in
    let sizes : length all ≡ length (add left word ++ rest) = omega (arith, length-append word rest, length-append (add left word) rest, length-add left word, l, w) in
    spelled (message ++ all)
    ∙ ap (λ n. remainder n ((message ++ all) ++ zeros 32)) (length-append message all)
    ∙ remainder-more (length message) (length all) ((message ++ all) ++ zeros 32)
    ∙ ap (remainder (length all)) (as_far message all ∙ folded_front left word rest l w)
    ∙ ap (λ n. remainder n ((add left word ++ rest) ++ zeros 32)) sizes
    ∙ sym (spelled (add left word ++ rest))

-- ---- the checksum so far as four bytes
number_of_four : (a b c d : ℕ) → a < 256 → b < 256 → c < 256 → d < 256 →
    number_of (message_bits (a ∷ b ∷ c ∷ d ∷ [])) ≡ a * 2 ^ 24 + b * 2 ^ 16 + c * 2 ^ 8 + d
unfolding message_bits number_of
number_of_four a b c d ha hb hc hd =
    let bits : ℕ → List Bool = bits_of 8 in
    let one : (x : ℕ) → x < 256 → number_of (bits x) ≡ x = λ x h. number-bits_of 8 x ∙ small_mod x 256 h in
    let len : (x : ℕ) → length (bits x) ≡ 8 = λ x. length-bits_of 8 x in
    let third : number_of (bits d ++ []) ≡ d = number-append (bits d) [] ∙ omega (arith, one d hd) in
    let third_long : length (bits d ++ []) ≡ 8 = omega (arith, length-append (bits d) [], len d) in
    let second : number_of (bits c ++ (bits d ++ [])) ≡ c * 2 ^ 8 + d =
    number-append (bits c) (bits d ++ []) ∙ ap (λ n. number_of (bits c) * 2 ^ n + number_of (bits d ++ [])) third_long ∙ omega (arith, one c hc, third) in
    let second_long : length (bits c ++ (bits d ++ [])) ≡ 16 = omega (arith, length-append (bits c) (bits d ++ []), len c, third_long) in
    let first : number_of (bits b ++ (bits c ++ (bits d ++ []))) ≡ b * 2 ^ 16 + (c * 2 ^ 8 + d) =
    number-append (bits b) (bits c ++ (bits d ++ [])) ∙ ap (λ n. number_of (bits b) * 2 ^ n + number_of (bits c ++ (bits d ++ []))) second_long ∙ omega (arith, one b hb, second) in
    let first_long : length (bits b ++ (bits c ++ (bits d ++ []))) ≡ 24 = omega (arith, length-append (bits b) (bits c ++ (bits d ++ [])), len b, second_long) in
    number-append (bits a) (bits b ++ (bits c ++ (bits d ++ [])))
    ∙ ap (λ n. number_of (bits a) * 2 ^ n + number_of (bits b ++ (bits c ++ (bits d ++ [])))) first_long
    ∙ omega (arith, one a ha, first)

word_number : (n : ℕ) → n < 2 ^ 32 → number_of (message_bits (to_be_bytes w32 n)) ≡ n
word_number n small =
    let spelled : number_of (message_bits (to_be_bytes w32 n)) ≡ byte_at 3 n * 2 ^ 24 + byte_at 2 n * 2 ^ 16 + byte_at 1 n * 2 ^ 8 + byte_at 0 n =
    number_of_four (byte_at 3 n) (byte_at 2 n) (byte_at 1 n) (byte_at 0 n) (omega arith) (omega arith) (omega arith) (omega arith) in
    omega (arith, small, spelled)

-- 32 coefficients are the bits of their number's bytes
word_bits : (bits : List Bool) → length bits ≡ 32 → bits ≡ message_bits (to_be_bytes w32 (number_of bits))
word_bits bits h =
    let n : ℕ = number_of bits in
    let small : n < 2 ^ 32 = subst (λ k. n < 2 ^ k) h (number_lt bits) in
    same_number bits (message_bits (to_be_bytes w32 n)) (h ∙ sym (length-message_bits (to_be_bytes w32 n))) (sym (word_number n small))

pub is_number : (bytes : List ℕ) → checksum_of bytes ≡ number_of (left_of (message_bits bytes))
unfolding checksum_of left_of
is_number bytes = refl

-- ---- a checksum is folded into the word that follows it
pub checksum-folded : (front bytes rest : List ℕ) (sum word : ℕ) → sum ≡ checksum_of front → IsWord bytes word →
    checksum_of (front ++ (bytes ++ rest)) ≡ checksum_of (to_be_bytes w32 (bit_xor sum word) ++ rest)
checksum-folded front bytes rest sum word is four =
    let message : List Bool = message_bits front in
    let own : List Bool = message_bits bytes in
    let long : length own ≡ 32 = omega (arith, length-message_bits bytes, four.long) in
    let left : List Bool = left_of message in
    let left_long : length left ≡ 32 = length-left_of message in
    let number : number_of (add left own) ≡ bit_xor sum word =
    number-add left own (left_long ∙ sym long)
    ∙ ap (λ n. bit_xor n (number_of own)) (sym (is ∙ is_number front))
    ∙ ap (λ l. bit_xor sum (number_of (message_bits l))) (sym four.spelled)
    ∙ ap (bit_xor sum) (word_number word four.fits) in
    let bits : add left own ≡ message_bits (to_be_bytes w32 (bit_xor sum word)) =
    word_bits (add left own) (length-add left own ∙ left_long) ∙ ap (λ n. message_bits (to_be_bytes w32 n)) number in
    is_number (front ++ (bytes ++ rest))
    ∙ ap (λ l. number_of (left_of l)) (joined front (bytes ++ rest) ∙ ap (λ l. message ++ l) (joined bytes rest))
    ∙ ap number_of (left_of-folded message own (message_bits rest) long)
    ∙ ap (λ l. number_of (left_of (l ++ message_bits rest))) bits
    ∙ ap (λ l. number_of (left_of l)) (sym (joined (to_be_bytes w32 (bit_xor sum word)) rest))
    ∙ sym (is_number (to_be_bytes w32 (bit_xor sum word) ++ rest))

-- ---- four bytes, or the word that they spell, followed by zeros
abbrev pub bytes_before : ℕ → List ℕ → ℕ
bytes_before zeros bytes = checksum_of (bytes ++ replicate zeros 0)

abbrev pub word_before : ℕ → ℕ → ℕ
word_before zeros word = bytes_before zeros (to_be_bytes w32 word)

first_apart : (front bytes rest : List ℕ) (sum word : ℕ) → sum ≡ checksum_of front → IsWord bytes word →
    checksum_of (front ++ (bytes ++ rest)) ≡ bit_xor (word_before (length rest) (bit_xor sum word)) (checksum_of rest)
first_apart front bytes rest sum word is four =
    checksum-folded front bytes rest sum word is four ∙ checksum-apart (to_be_bytes w32 (bit_xor sum word)) rest

pub no_checksum : checksum_of [] ≡ 0
unfolding checksum_of message_bits remainder number_of
no_checksum = refl

-- one word after a message with this checksum, and then no bytes, four and twelve
pub checksum-on_four : (front a : List ℕ) (sum v : ℕ) → sum ≡ checksum_of front → IsWord a v →
    word_before 0 (bit_xor sum v) ≡ checksum_of (front ++ (a ++ []))
checksum-on_four front a sum v is h = sym (checksum-folded front a [] sum v is h)

pub checksum-on_eight : (front a b : List ℕ) (sum v : ℕ) → sum ≡ checksum_of front → IsWord a v → length b ≡ 4 →
    bit_xor (bytes_before 0 b) (word_before 4 (bit_xor sum v)) ≡ checksum_of (front ++ (a ++ (b ++ [])))
checksum-on_eight front a b sum v is ha hb =
    let four : length (b ++ []) ≡ 4 = omega (arith, length-append b [], hb) in
    xor_comm (bytes_before 0 b) (word_before 4 (bit_xor sum v))
    ∙ ap (λ n. bit_xor (word_before n (bit_xor sum v)) (checksum_of (b ++ []))) (sym four)
    ∙ sym (first_apart front a (b ++ []) sum v is ha)

pub checksum-on_sixteen : (front a b c d : List ℕ) (sum v : ℕ) → sum ≡ checksum_of front → IsWord a v → length b ≡ 4 → length c ≡ 4 → length d ≡ 4 →
    bit_xor (bit_xor (bit_xor (bytes_before 8 b) (bytes_before 4 c)) (bytes_before 0 d)) (word_before 12 (bit_xor sum v))
    ≡ checksum_of (front ++ (a ++ (b ++ (c ++ (d ++ [])))))
checksum-on_sixteen front a b c d sum v is ha hb hc hd =
    let four : length (d ++ []) ≡ 4 = omega (arith, length-append d [], hd) in
    let eight : length (c ++ (d ++ [])) ≡ 8 = omega (arith, length-append c (d ++ []), hc, four) in
    let twelve : length (b ++ (c ++ (d ++ []))) ≡ 12 = omega (arith, length-append b (c ++ (d ++ [])), hb, eight) in
    let third : checksum_of (c ++ (d ++ [])) ≡ bit_xor (bytes_before 4 c) (bytes_before 0 d) =
    checksum-apart c (d ++ []) ∙ ap (λ n. bit_xor (bytes_before n c) (checksum_of (d ++ []))) four in
    let second : checksum_of (b ++ (c ++ (d ++ []))) ≡ bit_xor (bytes_before 8 b) (bit_xor (bytes_before 4 c) (bytes_before 0 d)) =
    checksum-apart b (c ++ (d ++ []))
    ∙ ap (λ n. bit_xor (bytes_before n b) (checksum_of (c ++ (d ++ [])))) eight
    ∙ ap (bit_xor (bytes_before 8 b)) third in
    xor_comm (bit_xor (bit_xor (bytes_before 8 b) (bytes_before 4 c)) (bytes_before 0 d)) (word_before 12 (bit_xor sum v))
    ∙ ap (bit_xor (word_before 12 (bit_xor sum v))) (xor_assoc (bytes_before 8 b) (bytes_before 4 c) (bytes_before 0 d) ∙ sym second)
    ∙ ap (λ n. bit_xor (word_before n (bit_xor sum v)) (checksum_of (b ++ (c ++ (d ++ []))))) (sym twelve)
    ∙ sym (first_apart front a (b ++ (c ++ (d ++ []))) sum v is ha)

-- ---- the bytes of a word, each followed by zeros
checksum-first : (byte : ℕ) (rest : List ℕ) → checksum_of (byte ∷ rest) ≡ bit_xor (entry_before (length rest) byte) (checksum_of rest)
checksum-first byte rest = checksum-apart (byte ∷ []) rest

pub entries_of_word : (a b c d zeros : ℕ) →
    bit_xor (bit_xor (bit_xor (entry_before (zeros + 3) a) (entry_before (zeros + 2) b)) (entry_before (zeros + 1) c)) (entry_before zeros d)
    ≡ checksum_of (a ∷ b ∷ c ∷ d ∷ replicate zeros 0)
entries_of_word a b c d zeros =
    let blank : List ℕ = replicate zeros 0 in
    let long : length blank ≡ zeros = length-replicate zeros 0 in
    let one : length (d ∷ blank) ≡ zeros + 1 = omega (arith, long) in
    let two : length (c ∷ d ∷ blank) ≡ zeros + 2 = omega (arith, long) in
    let three : length (b ∷ c ∷ d ∷ blank) ≡ zeros + 3 = omega (arith, long) in
    let third : checksum_of (c ∷ d ∷ blank) ≡ bit_xor (entry_before (zeros + 1) c) (entry_before zeros d) =
    checksum-first c (d ∷ blank) ∙ ap (λ n. bit_xor (entry_before n c) (checksum_of (d ∷ blank))) one in
    let second : checksum_of (b ∷ c ∷ d ∷ blank) ≡ bit_xor (entry_before (zeros + 2) b) (checksum_of (c ∷ d ∷ blank)) =
    checksum-first b (c ∷ d ∷ blank) ∙ ap (λ n. bit_xor (entry_before n b) (checksum_of (c ∷ d ∷ blank))) two in
    let first : checksum_of (a ∷ b ∷ c ∷ d ∷ blank) ≡ bit_xor (entry_before (zeros + 3) a) (checksum_of (b ∷ c ∷ d ∷ blank)) =
    checksum-first a (b ∷ c ∷ d ∷ blank) ∙ ap (λ n. bit_xor (entry_before n a) (checksum_of (b ∷ c ∷ d ∷ blank))) three in
    let e : ℕ → ℕ → ℕ = entry_before in
    ap (λ n. bit_xor n (e zeros d)) (xor_assoc (e (zeros + 3) a) (e (zeros + 2) b) (e (zeros + 1) c))
    ∙ xor_assoc (e (zeros + 3) a) (bit_xor (e (zeros + 2) b) (e (zeros + 1) c)) (e zeros d)
    ∙ ap (bit_xor (e (zeros + 3) a)) (xor_assoc (e (zeros + 2) b) (e (zeros + 1) c) (e zeros d) ∙ ap (bit_xor (e (zeros + 2) b)) (sym third) ∙ sym second)
    ∙ sym first

-- ---- piece by piece
-- the sum is that of what came before and of the bytes that are gone
abbrev pub IsSumSoFar : ℕ → List ℕ → List ℕ → ℕ → Type 0
IsSumSoFar before bytes rest sum =
    (front : List ℕ) → before ≡ checksum_of front → (gone : List ℕ) × (bytes ≡ gone ++ rest) × (sum ≡ checksum_of (front ++ gone))

one_more : (front bytes rest piece others : List ℕ) (sum next : ℕ) → (gone : List ℕ) × (bytes ≡ gone ++ rest) × (sum ≡ checksum_of (front ++ gone)) →
    rest ≡ piece ++ others → ((f : List ℕ) → sum ≡ checksum_of f → next ≡ checksum_of (f ++ piece)) →
    (gone : List ℕ) × (bytes ≡ gone ++ others) × (next ≡ checksum_of (front ++ gone))
one_more front bytes rest piece others sum next (gone, all, is) split step = (
  gone ++ piece,
  all ∙ ap (λ l. gone ++ l) split ∙ sym (append_assoc gone piece others),
  step (front ++ gone) is ∙ ap checksum_of (append_assoc front gone piece),
)

pub piece_on : (before n : ℕ) (bytes rest piece others : List ℕ) (sum next : ℕ) → IsSumSoFar before bytes rest sum →
    piece ≡ take n rest → others ≡ drop n rest → ((f : List ℕ) → sum ≡ checksum_of f → next ≡ checksum_of (f ++ piece)) → IsSumSoFar before bytes others next
piece_on before n bytes rest piece others sum next so_far first behind step = λ front is.
    let split : rest ≡ piece ++ others = sym (take-append-drop n rest) ∙ ap (λ l. l ++ drop n rest) (sym first) ∙ ap (λ l. piece ++ l) (sym behind) in
    one_more front bytes rest piece others sum next (so_far front is) split step
