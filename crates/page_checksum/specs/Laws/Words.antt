-- Words, each spelled by four bytes with the highest or the lowest first, and an array byte by byte.
use Rattle.std.proofs.Common.{◌≡◌, ℕ, zero, suc, ◌^◌, ◌<◌, List, [], ◌∷◌, ◌++◌, length, get_or, refl, sym, ◌∙◌, ap, arith}
use Rattle.std.specs.Int.{to_be_bytes, to_le_bytes, from_be_bytes, w32}
use Rattle.std.proofs.lemmas.Nat.{be_bytes_4, le_bytes_4}
use Rattle.page_checksum.specs.Checksum.{bytes_of}

-- these four bytes spell this number
pub record IsWord (bytes : List ℕ) (word : ℕ) : Type 0 where
  pub long : length bytes ≡ 4
  pub fits : word < 2 ^ 32
  pub spelled : to_be_bytes w32 word ≡ bytes

-- each word is spelled by its own bytes, and four words by theirs
pub own_word : (word : ℕ) → word < 2 ^ 32 → IsWord (to_be_bytes w32 word) word
own_word word fits = record { long = refl; fits = fits; spelled = refl }

pub four_words : (a b c d : List ℕ) (v w x y : ℕ) → IsWord a v → IsWord b w → IsWord c x → IsWord d y → bytes_of v w x y ≡ a ++ (b ++ (c ++ d))
four_words a b c d v w x y ha hb hc hd =
    ap (λ l. l ++ (to_be_bytes w32 w ++ (to_be_bytes w32 x ++ to_be_bytes w32 y))) ha.spelled
    ∙ ap (λ l. a ++ (l ++ (to_be_bytes w32 x ++ to_be_bytes w32 y))) hb.spelled
    ∙ ap (λ l. a ++ (b ++ (l ++ to_be_bytes w32 y))) hc.spelled
    ∙ ap (λ l. a ++ (b ++ (c ++ l))) hd.spelled

-- ---- an array, byte by byte
abbrev pub gets : ℕ → ℕ → List ℕ → List ℕ
gets k zero xs = []
gets k (suc n) xs = get_or xs k 0 ∷ gets (suc k) n xs

gets-behind : (k n x : ℕ) (xs : List ℕ) → gets (suc k) n (x ∷ xs) ≡ gets k n xs
gets-behind k zero x xs = refl
gets-behind k (suc n) x xs = ap (λ l. get_or xs k 0 ∷ l) (gets-behind (suc k) n x xs)

all_got : (xs : List ℕ) → gets 0 (length xs) xs ≡ xs
all_got [] = refl
all_got (x ∷ xs) = ap (λ l. x ∷ l) (gets-behind 0 (length xs) x xs ∙ all_got xs)

pub bytes_are : (n : ℕ) (xs : List ℕ) → length xs ≡ n → gets 0 n xs ≡ xs
bytes_are n xs h = ap (λ k. gets 0 k xs) (sym h) ∙ all_got xs

four_small : (k : ℕ) (xs : List ℕ) → ((i : ℕ) → get_or xs i 0 < 256) → (i : ℕ) → get_or (gets k 4 xs) i 0 < 256
four_small k xs h zero = h k
four_small k xs h (suc zero) = h (suc k)
four_small k xs h (suc (suc zero)) = h (suc (suc k))
four_small k xs h (suc (suc (suc zero))) = h (suc (suc (suc k)))
four_small k xs h (suc (suc (suc (suc i)))) = omega arith

-- the four bytes from this one on are a word
pub word_of : (k : ℕ) (xs : List ℕ) (word : ℕ) → ((i : ℕ) → get_or xs i 0 < 256) → word ≡ from_be_bytes w32 (gets k 4 xs) → IsWord (gets k 4 xs) word
word_of k xs word small is =
    let each : (i : ℕ) → get_or (gets k 4 xs) i 0 < 256 = four_small k xs small in
    record {
      long = refl;
      fits = omega (arith, is, small k, small (suc k), small (suc (suc k)), small (suc (suc (suc k))));
      spelled = be_bytes_4 (gets k 4 xs) word refl each is;
    }

-- the four bytes from this one on, read from the last to the first, are those of a word with its lowest byte first
pub low_bytes : (k : ℕ) (xs : List ℕ) (word : ℕ) → ((i : ℕ) → get_or xs i 0 < 256) →
    word ≡ from_be_bytes w32 (get_or xs (suc (suc (suc k))) 0 ∷ get_or xs (suc (suc k)) 0 ∷ get_or xs (suc k) 0 ∷ get_or xs k 0 ∷ []) → to_le_bytes w32 word ≡ gets k 4 xs
low_bytes k xs word small is = le_bytes_4 (gets k 4 xs) word refl (four_small k xs small) (omega (arith, is))

two_small : (a b : ℕ) → a < 256 → b < 256 → (i : ℕ) → get_or (a ∷ b ∷ 0 ∷ 0 ∷ []) i 0 < 256
two_small a b ha hb zero = ha
two_small a b ha hb (suc zero) = hb
two_small a b ha hb (suc (suc zero)) = omega arith
two_small a b ha hb (suc (suc (suc zero))) = omega arith
two_small a b ha hb (suc (suc (suc (suc i)))) = omega arith

small_behind : (a b : ℕ) → a < 256 → b < 256 → (i : ℕ) → get_or (0 ∷ 0 ∷ a ∷ b ∷ []) i 0 < 256
small_behind a b ha hb zero = omega arith
small_behind a b ha hb (suc zero) = omega arith
small_behind a b ha hb (suc (suc zero)) = ha
small_behind a b ha hb (suc (suc (suc zero))) = hb
small_behind a b ha hb (suc (suc (suc (suc i)))) = omega arith

-- two bytes with zeros after them, or before them
pub word_of_two : (a b word : ℕ) → a < 256 → b < 256 → word ≡ from_be_bytes w32 (a ∷ b ∷ 0 ∷ 0 ∷ []) → IsWord (a ∷ b ∷ 0 ∷ 0 ∷ []) word
word_of_two a b word ha hb is = word_of 0 (a ∷ b ∷ 0 ∷ 0 ∷ []) word (two_small a b ha hb) is

pub word_behind_two : (a b word : ℕ) → a < 256 → b < 256 → word ≡ from_be_bytes w32 (0 ∷ 0 ∷ a ∷ b ∷ []) → IsWord (0 ∷ 0 ∷ a ∷ b ∷ []) word
word_behind_two a b word ha hb is = word_of 0 (0 ∷ 0 ∷ a ∷ b ∷ []) word (small_behind a b ha hb) is
