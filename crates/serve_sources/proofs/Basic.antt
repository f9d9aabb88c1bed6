-- A value gives the password if it is Basic credentials with it, and only then.
use Rattle.std.proofs.Common.{◌≡◌, ℕ, suc, ◌+◌, ◌/◌, ◌<◌, ◌≤◌, Bool, true, false, cond, not, nat_le, List, [], ◌∷◌, ◌++◌, ◌==◌, Option, Some, None, Ok, Err, length, take, drop, map, replicate, get_or, slice_index, codes, inl, inr, arith, refl, ap, sym, ◌∙◌, subst, append_assoc, take-append-drop, append-nil}
use Rattle.std.specs.Prelude.{Result}
use Rattle.std.proofs.lemmas.Bool.{and_parts, and_from, cases_lt, eqb-true, leb-true, le-leb, cond-true}
use Rattle.std.proofs.lemmas.List.{take_at, drop_at, take_more, length-take-le, length-append, length-map, map-append, get_or-take, length-replicate, get_or-replicate}
use Rattle.std.proofs.lemmas.List.Quantifiers.{position-Some}
use Rattle.std.proofs.Math.Seq.{drop-cons}
use Rattle.std.proofs.lemmas.Slice.Eq.{bytes_eq-Decides}
use Rattle.std.proofs.lemmas.Str.Ascii.{lowercase_is}
use Rattle.std.specs.Char.{to_ascii_lowercase}
use Rattle.std.specs.List.{position}
use Rattle.base64.specs.declared.decode.DecodeError.{DecodeError}
use Rattle.std.specs.List.{list_all}
use Rattle.std.proofs.lemmas.List.Folds.{list_all_at}
use Rattle.base64.specs.Rfc4648.{encode_symbols, padding_len}
use Rattle.base64.specs.Engines.{standard}
use Rattle.base64.specs.GeneralPurpose.{engine_symbols, decode_of, encode_of, IsBytes}
use Rattle.base64.proofs.EngineFacts.{decode_of-encode_of, decode_of_strict}
use Rattle.serve_sources.specs.Credentials.{IsBasic, decodes_to, has_password, password_behind, text_from, token_authorizes, token_of, value_authorizes, without_spaces}
use Rattle.serve_sources.proofs.Placing.{no_place, none_passes, place_is}

-- ---- spaces
all_same : (x : ℕ) (xs : List ℕ) → ((k : ℕ) → k < length xs → get_or xs k 0 ≡ x) → xs ≡ replicate (length xs) x
all_same x [] same = refl
all_same x (y ∷ xs) same =
    ap (λ l. y ∷ l) (all_same x xs (λ k inside. same (suc k) (omega (arith, inside))))
    ∙ ap (λ z. z ∷ replicate (length xs) x) (same 0 (omega arith))

is_space : (b : Bool) → not b ≡ false → b ≡ true
is_space true h = refl
is_space false h = absurd (cc h)

-- a text is its spaces and the rest
spaces_first : (text : List ℕ) → (k : ℕ) × (text ≡ replicate k 32 ++ without_spaces text)
spaces_first text = by_place (position (λ b. not (b == 32)) text) refl
  where
    by_place : (place : Option ℕ) → position (λ b. not (b == 32)) text ≡ place → (k : ℕ) × (text ≡ replicate k 32 ++ text_from place text)
    by_place None is = (
      length text,
      all_same 32 text (λ k inside. eqb-true _ _ (is_space _ (none_passes (λ b. not (b == 32)) text is k inside)))
          ∙ sym (append-nil (replicate (length text) 32)),
    )
    by_place (Some at) is =
        let (inside, other, before) = position-Some (λ b. not (b == 32)) text at 0 is in
        let size : length (take at text) ≡ at = length-take-le at text (omega (arith, inside)) in
        let spaces : take at text ≡ replicate (length (take at text)) 32 =
        all_same 32 (take at text) (λ k within. get_or-take at text k 0 (omega (arith, within, size)) ∙ eqb-true _ _ (is_space _ (before k (omega (arith, within, size))))) in (
          length (take at text),
          sym (take-append-drop at text) ∙ ap (λ t. t ++ drop at text) spaces,
        )

-- ---- the pair
-- a pair with the password is a user name, a colon and the password
pair_of : (pair password : List ℕ) → has_password pair password ≡ true → (user : List ℕ) × (pair ≡ user ++ 58 ∷ password) × (position (λ b. b == 58) user ≡ None)
pair_of pair password has = by_place (position (λ b. b == 58) pair) refl has
  where
    by_place : (place : Option ℕ) → position (λ b. b == 58) pair ≡ place → password_behind place pair password ≡ true → (user : List ℕ) × (pair ≡ user ++ 58 ∷ password) × (position (λ b. b == 58) user ≡ None)
    by_place None is given = absurd (cc given)
    by_place (Some at) is given =
        let (inside, colon, before) = position-Some (λ b. b == 58) pair at 0 is in
        let next : suc at ≡ at + 1 = omega arith in
        let size : length (take at pair) ≡ at = length-take-le at pair (omega (arith, inside)) in
        let behind : drop (at + 1) pair ≡ password = (bytes_eq-Decides (drop (at + 1) pair) password).0 given in (
          take at pair,
          sym (take-append-drop at pair)
              ∙ ap (λ t. take at pair ++ t) (drop-cons pair at 0 inside ∙ ap (λ x. x ∷ drop (suc at) pair) (eqb-true _ _ colon) ∙ ap (λ n. 58 ∷ drop n pair) next ∙ ap (λ t. 58 ∷ t) behind),
          no_place (λ b. b == 58) (take at pair) (λ k within.
              ap (λ x. x == 58) (get_or-take at pair k 0 (omega (arith, within, size))) ∙ before k (omega (arith, within, size))),
        )

has_pair : (user password : List ℕ) → position (λ b. b == 58) user ≡ None → has_password (user ++ 58 ∷ password) password ≡ true
has_pair user password none =
    let pair : List ℕ = user ++ 58 ∷ password in
    let whole : pair ≡ (user ++ 58 ∷ []) ++ password = sym (append_assoc user (58 ∷ []) password) in
    let size : length (user ++ 58 ∷ []) ≡ length user + 1 = length-append user (58 ∷ []) in
    ap (λ place. password_behind place pair password) (place_is (λ b. b == 58) user 58 password (none_passes (λ b. b == 58) user none) refl)
    ∙ (bytes_eq-Decides (drop (length user + 1) pair) password).1 (ap (drop (length user + 1)) whole ∙ drop_at (user ++ 58 ∷ []) password (length user + 1) size)

-- ---- the token
by_option : (place : Option (List ℕ)) (password : List ℕ) → token_authorizes place password ≡ true → (token : List ℕ) × (place ≡ Some token) × (decodes_to (decode_of standard token) password ≡ true)
by_option None password h = absurd (cc h)
by_option (Some token) password h = (token, refl, h)

-- what is decoded is the pair
by_decoded : (decoded : Result (List ℕ) DecodeError) (password : List ℕ) → decodes_to decoded password ≡ true → (pair : List ℕ) × (decoded ≡ Ok pair) × (has_password pair password ≡ true)
by_decoded (Ok pair) password h = (pair, refl, h)
by_decoded (Err wrong) password h = absurd (cc h)

-- a value that is chosen was there
chosen : (b : Bool) (x y : List ℕ) → cond b (Some x) None ≡ Some y → (b ≡ true) × (x ≡ y)
chosen true x y e = (refl, cc e)
chosen false x y e = absurd (cc e)

-- no letter is a space
lower_space : (c : ℕ) → to_ascii_lowercase c ≡ 32 → c ≡ 32
lower_space c lower =
    elim (cases_lt c 65) [
      | inl below ↦ sym ((lowercase_is c).1 below) ∙ lower
      | inr above ↦ elim (cases_lt 90 c) [
        | inl beyond ↦ sym ((lowercase_is c).2 beyond) ∙ lower
        | inr within ↦ let moved : to_ascii_lowercase c ≡ c + 32 = (lowercase_is c).0 (above, within) in absurd (omega (arith, above, moved, lower))
      ]
    ]

-- the scheme and its space
scheme_of : (value : List ℕ) → 6 ≤ length value → map to_ascii_lowercase (take 6 value) ≡ codes "basic " → (scheme : List ℕ) × (take 6 value ≡ scheme ++ 32 ∷ []) × (map to_ascii_lowercase scheme ≡ codes "basic")
scheme_of value long lower =
    let scheme : List ℕ = take 5 value in
    let last : ℕ = get_or value 5 0 in
    let split : take 6 value ≡ scheme ++ last ∷ [] = take_more value 5 0 (omega (arith, long)) in
    let both : map to_ascii_lowercase scheme ++ to_ascii_lowercase last ∷ [] ≡ codes "basic" ++ 32 ∷ [] =
    sym (map-append to_ascii_lowercase scheme (last ∷ [])) ∙ ap (map to_ascii_lowercase) (sym split) ∙ lower in
    let size : length (map to_ascii_lowercase scheme) ≡ 5 = length-map scheme to_ascii_lowercase ∙ length-take-le 5 value (omega (arith, long)) in
    let name : map to_ascii_lowercase scheme ≡ codes "basic" =
    sym (take_at (map to_ascii_lowercase scheme) (to_ascii_lowercase last ∷ []) 5 size) ∙ ap (take 5) both in
    let space : to_ascii_lowercase last ∷ [] ≡ 32 ∷ [] =
    sym (drop_at (map to_ascii_lowercase scheme) (to_ascii_lowercase last ∷ []) 5 size) ∙ ap (drop 5) both in
    (scheme, split ∙ ap (λ c. scheme ++ c ∷ []) (lower_space last (ap (λ l. slice_index l 0) space)), name)

-- the rest of bytes are bytes
bytes_after : (front rest : List ℕ) → IsBytes (front ++ rest) → IsBytes rest
bytes_after [] rest bytes i = bytes i
bytes_after (x ∷ front) rest bytes i = bytes_after front rest (λ k. bytes (suc k)) i

pub only_basic : (password value : List ℕ) → IsBytes value → value_authorizes value password ≡ true → (user : List ℕ) × IsBasic user password value
only_basic password value bytes given =
    let (token, is_token, decodes) = by_option (token_of value) password given in
    let (test, is) = chosen _ (without_spaces (drop 6 value)) token is_token in
    let (long, lower) = and_parts _ _ test in
    let (scheme, front, basic) = scheme_of value (leb-true _ _ long) ((bytes_eq-Decides _ _).0 lower) in
    let (spaces, behind) = spaces_first (drop 6 value) in
    let whole : value ≡ (scheme ++ 32 ∷ replicate spaces 32) ++ token =
    sym (take-append-drop 6 value)
    ∙ ap (λ t. t ++ drop 6 value) front
    ∙ ap (λ t. (scheme ++ 32 ∷ []) ++ t) (behind ∙ ap (λ t. replicate spaces 32 ++ t) is)
    ∙ append_assoc scheme (32 ∷ []) (replicate spaces 32 ++ token)
    ∙ sym (append_assoc scheme (32 ∷ replicate spaces 32) token) in
    let (pair, decoded, has) = by_decoded (decode_of standard token) password decodes in
    let encoded : token ≡ encode_of standard pair =
    decode_of_strict standard token pair (refl, refl) (bytes_after (scheme ++ 32 ∷ replicate spaces 32) token (subst IsBytes whole bytes)) decoded in
    let (user, split, no_colon) = pair_of pair password has in (
      user,
      record {
        scheme = scheme;
        spaces = spaces;
        basic = basic;
        text = whole ∙ append_assoc scheme (32 ∷ replicate spaces 32) token ∙ ap (λ t. scheme ++ 32 ∷ (replicate spaces 32 ++ t)) (encoded ∙ ap (encode_of standard) split);
        no_colon = no_colon;
      },
    )

-- ---- the other way
-- the symbols of Base64 (RFC 4648, section 4)
abbrev symbols_of_base64 : List ℕ
symbols_of_base64 = engine_symbols standard

all_symbols : list_all (λ s. not (s == 32)) symbols_of_base64 ≡ true
all_symbols = refl

-- no symbol of Base64 is a space
no_space_symbol : (i : ℕ) → i < 64 → (get_or symbols_of_base64 i 0 == 32) ≡ false
no_space_symbol i inside = by_test (get_or symbols_of_base64 i 0 == 32) refl
  where
    by_test : (b : Bool) → (get_or symbols_of_base64 i 0 == 32) ≡ b → (get_or symbols_of_base64 i 0 == 32) ≡ false
    by_test false is = is
    by_test true is =
        let none : list_all (λ s. not (s == 32)) symbols_of_base64 ≡ false =
        list_all_at (λ s. not (s == 32)) symbols_of_base64 i 0 inside (ap not is) in
        absurd (cc (none, all_symbols))

-- the encoding of some bytes begins with a symbol
first_symbol : (x : ℕ) (xs : List ℕ) → (rest : List ℕ) × (encode_symbols symbols_of_base64 (x ∷ xs) ≡ slice_index symbols_of_base64 (x / 4) ∷ rest)
unfolding encode_symbols
first_symbol x [] = (_, refl)
first_symbol x (y ∷ []) = (_, refl)
first_symbol x (y ∷ z ∷ rest) = (_, refl)

begins_with_symbol : (x : ℕ) (xs : List ℕ) → IsBytes (x ∷ xs) → (s : ℕ) × (rest : List ℕ) × (encode_of standard (x ∷ xs) ≡ s ∷ rest) × ((s == 32) ≡ false)
begins_with_symbol x xs bytes =
    let (rest, symbols) = first_symbol x xs in
    let small : x < 256 = bytes 0 in (
      slice_index symbols_of_base64 (x / 4),
      _,
      ap (λ l. l ++ replicate (padding_len (length (x ∷ xs))) 61) symbols,
      no_space_symbol (x / 4) (omega (arith, small)),
    )

-- the text after its spaces
without_all : (spaces s : ℕ) (rest : List ℕ) → (s == 32) ≡ false → without_spaces (replicate spaces 32 ++ s ∷ rest) ≡ s ∷ rest
without_all spaces s rest other =
    let q : ℕ → Bool = λ b. not (b == 32) in
    let front : List ℕ = replicate spaces 32 in
    let size : length front ≡ spaces = length-replicate spaces 32 in
    let place : position q (front ++ s ∷ rest) ≡ Some (length front) =
    place_is q front s rest
    (λ k inside. ap q (get_or-replicate spaces k 32 0 (omega (arith, inside, size)))) (ap not other) in
    ap (λ o. text_from o (front ++ s ∷ rest)) place
    ∙ drop_at front (s ∷ rest) (length front) refl

-- a list with an element in it
joined : (user password : List ℕ) → (x : ℕ) × (xs : List ℕ) × (user ++ 58 ∷ password ≡ x ∷ xs)
joined [] password = (58, password, refl)
joined (x ∷ user) password = (x, user ++ 58 ∷ password, refl)

pub each_basic : (user password value : List ℕ) → IsBytes (user ++ 58 ∷ password) → IsBasic user password value → value_authorizes value password ≡ true
each_basic user password value bytes is =
    let pair : List ℕ = user ++ 58 ∷ password in
    let (x, xs, split) = joined user password in
    let (s, rest, encoded, other) = begins_with_symbol x xs (subst IsBytes split bytes) in
    let token : List ℕ = encode_of standard pair in
    let begun : token ≡ s ∷ rest = ap (encode_of standard) split ∙ encoded in
    let behind : List ℕ = replicate is.spaces 32 ++ token in
    let front : List ℕ = is.scheme ++ 32 ∷ [] in
    let scheme_size : length is.scheme ≡ 5 = sym (length-map is.scheme to_ascii_lowercase) ∙ ap length is.basic in
    let size : length front ≡ 6 = length-append is.scheme (32 ∷ []) ∙ ap (λ n. n + 1) scheme_size in
    let whole : value ≡ front ++ behind = is.text ∙ sym (append_assoc is.scheme (32 ∷ []) behind) in
    let sizes : length value ≡ length front + length behind = ap length whole ∙ length-append front behind in
    let long : nat_le 6 (length value) ≡ true = le-leb _ _ (omega (arith, sizes, size)) in
    let lower : map to_ascii_lowercase (take 6 value) ≡ codes "basic " =
    ap (λ v. map to_ascii_lowercase (take 6 v)) whole
    ∙ ap (map to_ascii_lowercase) (take_at front behind 6 size)
    ∙ map-append to_ascii_lowercase is.scheme (32 ∷ [])
    ∙ ap (λ t. t ++ 32 ∷ []) is.basic in
    let left : without_spaces (drop 6 value) ≡ token =
    ap (λ v. without_spaces (drop 6 v)) whole
    ∙ ap without_spaces (drop_at front behind 6 size)
    ∙ ap (λ t. without_spaces (replicate is.spaces 32 ++ t)) begun
    ∙ without_all is.spaces s rest other
    ∙ sym begun in
    ap (λ o. token_authorizes o password)
    (cond-true _ (Some (without_spaces (drop 6 value))) None (and_from _ _ long ((bytes_eq-Decides _ _).1 lower)) ∙ ap (λ t. Some t) left)
    ∙ ap (λ decoded. decodes_to decoded password) (decode_of-encode_of standard pair refl bytes)
    ∙ has_pair user password is.no_colon
