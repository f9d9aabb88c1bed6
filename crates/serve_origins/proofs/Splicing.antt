-- What is written of a response that gets a field after its first line.
use Rattle.std.proofs.Common.{◌≡◌, ℕ, zero, suc, ◌+◌, ◌-◌, ◌<◌, ◌≤◌, Bool, true, false, cond, nat_lt, ◌==◌, List, [], ◌∷◌, ◌++◌, Some, None, length, get_or, take, drop, arith, refl, ap, sym, ◌∙◌, append_assoc, take-add, length-append, length-take}
use Rattle.std.proofs.lemmas.Grind.{common_steps}
use Rattle.std.proofs.lemmas.List.{take-append-le, take-append-drop}
use Rattle.std.proofs.lemmas.Bool.{ltb-false}
use Rattle.std.proofs.lemmas.List.Sums.{fails_before_first}
use Rattle.std.proofs.Math.Seq.{take-append-add}
use Rattle.std.specs.List.{position, position_or_len}
use Rattle.serve_origins.specs.Added.{HasWritten, left_of, with_field}
use Rattle.serve_origins.specs.declared.added.Added.{Added}
use Rattle.serve_origins.specs.declared.added.Added.TheVariants.{Nothing, Part}

abbrev pub is_feed : ℕ → Bool
is_feed b = b == 10

skip : (field : List ℕ) (b : ℕ) (rest : List ℕ) → is_feed b ≡ false → with_field field (b ∷ rest) ≡ b ∷ with_field field rest
skip field b rest other = ap (λ is. cond is (b ∷ (field ++ rest)) (b ∷ with_field field rest)) other

ends : (field : List ℕ) (b : ℕ) (rest : List ℕ) → is_feed b ≡ true → with_field field (b ∷ rest) ≡ b ∷ (field ++ rest)
ends field b rest is = ap (λ is. cond is (b ∷ (field ++ rest)) (b ∷ with_field field rest)) is

-- no line feed is among so many
abbrev pub NoFeed : List ℕ → ℕ → Type 0
NoFeed bytes n = (j : ℕ) → j < n → is_feed (get_or bytes j 0) ≡ false

pub within_line : (field bytes : List ℕ) (n : ℕ) → NoFeed bytes n → n ≤ length bytes → (more : List ℕ) → with_field field (take n bytes ++ more) ≡ take n bytes ++ with_field field more
within_line field bytes zero none few more = refl
within_line field [] (suc n) none few more = absurd (omega (arith, few))
within_line field (b ∷ rest) (suc n) none few more =
    skip field b (take n rest ++ more) (none 0 (omega arith))
    ∙ ap (λ l. b ∷ l) (within_line field rest n (λ j small. none (suc j) (omega (arith, small))) (omega (arith, few)) more)

pub at_line : (field bytes : List ℕ) (k : ℕ) → NoFeed bytes k → k < length bytes → is_feed (get_or bytes k 0) ≡ true → (more : List ℕ) → with_field field (take (suc k) bytes ++ more) ≡ take (suc k) bytes ++ (field ++ more)
at_line field [] k none inside is more = absurd (omega (arith, inside))
at_line field (b ∷ rest) zero none inside is more = ends field b more is
at_line field (b ∷ rest) (suc k) none inside is more =
    skip field b (take (suc k) rest ++ more) (none 0 (omega arith))
    ∙ ap (λ l. b ∷ l) (at_line field rest k (λ j small. none (suc j) (omega (arith, small))) (omega (arith, inside)) is more)

-- all of the bytes, of which the line feed is this one
pub whole_line : (field bytes : List ℕ) (k : ℕ) → NoFeed bytes k → k < length bytes → is_feed (get_or bytes k 0) ≡ true → with_field field bytes ≡ take (suc k) bytes ++ (field ++ drop (suc k) bytes)
whole_line field bytes k none inside is =
    ap (with_field field) (sym (take-append-drop (suc k) bytes)) ∙ at_line field bytes k none inside is (drop (suc k) bytes)

-- so many of the first of two texts
pub front_written : (first then more : List ℕ) (count : ℕ) → count ≤ length first → first ++ more ≡ take count (first ++ then) ++ (drop count first ++ more)
front_written first then more count few =
    ap (λ l. l ++ more) (sym (take-append-drop count first))
    ∙ append_assoc (take count first) (drop count first) more
    ∙ ap (λ l. l ++ (drop count first ++ more)) (sym (take-append-le count first then few))

-- all of the first, and so many of the other
pub both_written : (first then more : List ℕ) (count : ℕ) → length first ≤ count → first ++ (take (count - length first) then ++ more) ≡ take count (first ++ then) ++ more
both_written first then more count enough =
    sym (append_assoc first (take (count - length first) then) more)
    ∙ ap (λ l. l ++ more) (sym (take-append-add first then (count - length first)))
    ∙ ap (λ n. take n (first ++ then) ++ more) (omega (arith, enough))

-- ---- how far that is
-- where no line feed is found there is none
pub no_feed : (bytes : List ℕ) → position is_feed bytes ≡ None → NoFeed bytes (length bytes)
no_feed bytes nowhere k inside = fails_before_first is_feed bytes k 0 (by_test (nat_lt (position_or_len is_feed bytes) (length bytes)) refl)
  where
    by_test : (b : Bool) → nat_lt (position_or_len is_feed bytes) (length bytes) ≡ b → k < position_or_len is_feed bytes
    by_test true is =
        absurd (cc (sym (ap (λ b. cond b (Some (position_or_len is_feed bytes)) None) is) ∙ nowhere))
    by_test false is = let past : length bytes ≤ position_or_len is_feed bytes = ltb-false _ _ is in omega (arith, past, inside)

-- what was written is of the first line
pub in_line : (field bytes : List ℕ) (count : ℕ) → NoFeed bytes count → count ≤ length bytes → HasWritten field Nothing bytes count Nothing count
in_line field bytes count none few more =
    within_line field bytes count none few more
    ∙ ap (λ l. l ++ with_field field more) (sym (
    ap (λ l. take count (with_field field l)) (sym (take-append-drop count bytes))
    ∙ ap (take count) (within_line field bytes count none few (drop count bytes))
    ∙ take-append-le count (take count bytes) (with_field field (drop count bytes)) (omega (arith, few, length-take count bytes))
    ∙ whole_front))
  where
    whole_front : take count (take count bytes) ≡ take count bytes
    whole_front = grind (arith, common_steps)

-- no line feed is in what has none
pub without_line : (field bytes : List ℕ) → NoFeed bytes (length bytes) → with_field field bytes ≡ bytes
without_line field bytes none =
    ap (with_field field) (sym all)
    ∙ within_line field bytes (length bytes) none (omega arith) []
    ∙ all
  where
    all : take (length bytes) bytes ++ [] ≡ bytes
    all = grind (arith, common_steps)

-- What was written ends after the first line, and the field and what follows it were written as far as they say.
pub past_line : (field bytes : List ℕ) (k count own : ℕ) (added : Added) → NoFeed bytes k → k < length bytes → is_feed (get_or bytes k 0) ≡ true
    → HasWritten field (Part 0) (drop (suc k) bytes) count added own → HasWritten field Nothing bytes (suc k + count) added (suc k + own)
past_line field bytes k count own added none inside is goes more =
    let front = take (suc k) bytes in
    let rest = drop (suc k) bytes in
    let long : length front ≡ suc k = omega (arith, inside, length-take (suc k) bytes) in
    ap (λ l. with_field field (l ++ more)) (take-add (suc k) own bytes)
    ∙ ap (with_field field) (append_assoc front (take own rest) more)
    ∙ at_line field bytes k none inside is (take own rest ++ more)
    ∙ ap (λ l. front ++ l) (goes more)
    ∙ sym (append_assoc front (take count (field ++ rest)) (left_of added field more))
    ∙ ap (λ l. l ++ left_of added field more) (sym (
    ap (take (suc k + count)) (whole_line field bytes k none inside is)
    ∙ ap (λ n. take (n + count) (front ++ (field ++ rest))) (sym long)
    ∙ take-append-add front (field ++ rest) count))

-- the first line ends within what was written
pub room_after : (field bytes : List ℕ) (k : ℕ) → NoFeed bytes k → k < length bytes → is_feed (get_or bytes k 0) ≡ true → length (with_field field bytes) ≡ suc k + length (field ++ drop (suc k) bytes)
room_after field bytes k none inside is =
    ap length (whole_line field bytes k none inside is)
    ∙ length-append (take (suc k) bytes) (field ++ drop (suc k) bytes)
    ∙ ap (λ n. n + length (field ++ drop (suc k) bytes)) (omega (arith, inside, length-take (suc k) bytes))
