-- Long division of polynomials over two elements, byte by byte.
use Rattle.std.proofs.Common.{◌≡◌, ℕ, zero, suc, ◌+◌, ◌≤◌, Bool, true, false, List, [], ◌∷◌, ◌++◌, length, replicate, refl, sym, ◌∙◌, ap, arith}
use Rattle.page_checksum.specs.Checksum.{bits_of, exclusive_or, add, divisor, remainder}

-- this number of zero coefficients
abbrev pub zeros : ℕ → List Bool
zeros n = replicate n false

or_zero : (x : Bool) → exclusive_or x false ≡ x
or_zero true = refl
or_zero false = refl

or_same : (x y d : Bool) → exclusive_or (exclusive_or x d) (exclusive_or y d) ≡ exclusive_or x y
or_same true true true = refl
or_same true true false = refl
or_same true false true = refl
or_same true false false = refl
or_same false true true = refl
or_same false true false = refl
or_same false false true = refl
or_same false false false = refl

or_left : (x y d : Bool) → exclusive_or (exclusive_or x y) d ≡ exclusive_or (exclusive_or x d) y
or_left true true true = refl
or_left true true false = refl
or_left true false true = refl
or_left true false false = refl
or_left false true true = refl
or_left false true false = refl
or_left false false true = refl
or_left false false false = refl

or_right : (x y d : Bool) → exclusive_or (exclusive_or x y) d ≡ exclusive_or x (exclusive_or y d)
or_right true true true = refl
or_right true true false = refl
or_right true false true = refl
or_right true false false = refl
or_right false true true = refl
or_right false true false = refl
or_right false false true = refl
or_right false false false = refl

pub length-add : (xs ys : List Bool) → length (add xs ys) ≡ length xs
unfolding add
length-add [] ys = refl
length-add (x ∷ xs) [] = refl
length-add (x ∷ xs) (y ∷ ys) = ap suc (length-add xs ys)

pub add-nil : (xs : List Bool) → add xs [] ≡ xs
unfolding add
add-nil [] = refl
add-nil (x ∷ xs) = refl

-- a short addend leaves what comes after it
pub add-append : (xs zs ys : List Bool) → length ys ≤ length xs → add (xs ++ zs) ys ≡ add xs ys ++ zs
unfolding add
add-append [] [] [] h = refl
add-append [] (z ∷ zs) [] h = refl
add-append [] zs (y ∷ ys) h = absurd (omega arith)
add-append (x ∷ xs) zs [] h = refl
add-append (x ∷ xs) zs (y ∷ ys) h = ap (λ l. exclusive_or x y ∷ l) (add-append xs zs ys (omega arith))

-- two addends, part by part
pub add_parts : (xs us ys vs : List Bool) → length xs ≡ length ys → add (xs ++ us) (ys ++ vs) ≡ add xs ys ++ add us vs
unfolding add
add_parts [] us [] vs h = refl
add_parts [] us (y ∷ ys) vs h = absurd (omega arith)
add_parts (x ∷ xs) us [] vs h = absurd (omega arith)
add_parts (x ∷ xs) us (y ∷ ys) vs h = ap (λ l. exclusive_or x y ∷ l) (add_parts xs us ys vs (omega arith))

pub add-zeros : (n : ℕ) (xs : List Bool) → add xs (zeros n) ≡ xs
unfolding add
add-zeros zero xs = add-nil xs
add-zeros (suc n) [] = refl
add-zeros (suc n) (x ∷ xs) = ap (λ b. b ∷ add xs (zeros n)) (or_zero x) ∙ ap (λ l. x ∷ l) (add-zeros n xs)

pub zeros-add : (xs : List Bool) → add (zeros (length xs)) xs ≡ xs
unfolding add
zeros-add [] = refl
zeros-add (x ∷ xs) = ap (λ l. x ∷ l) (zeros-add xs)

add_same : (xs ys ds : List Bool) → length xs ≡ length ys → add (add xs ds) (add ys ds) ≡ add xs ys
unfolding add
add_same [] [] ds h = refl
add_same [] (y ∷ ys) ds h = absurd (omega arith)
add_same (x ∷ xs) [] ds h = absurd (omega arith)
add_same (x ∷ xs) (y ∷ ys) [] h = refl
add_same (x ∷ xs) (y ∷ ys) (d ∷ ds) h =
    ap (λ b. b ∷ add (add xs ds) (add ys ds)) (or_same x y d) ∙ ap (λ l. exclusive_or x y ∷ l) (add_same xs ys ds (omega arith))

add_left : (xs ys ds : List Bool) → length xs ≡ length ys → add (add xs ys) ds ≡ add (add xs ds) ys
unfolding add
add_left [] [] ds h = refl
add_left [] (y ∷ ys) ds h = absurd (omega arith)
add_left (x ∷ xs) [] ds h = absurd (omega arith)
add_left (x ∷ xs) (y ∷ ys) [] h = refl
add_left (x ∷ xs) (y ∷ ys) (d ∷ ds) h =
    ap (λ b. b ∷ add (add xs ys) ds) (or_left x y d) ∙ ap (λ l. exclusive_or (exclusive_or x d) y ∷ l) (add_left xs ys ds (omega arith))

add_right : (xs ys ds : List Bool) → length xs ≡ length ys → add (add xs ys) ds ≡ add xs (add ys ds)
unfolding add
add_right [] [] ds h = refl
add_right [] (y ∷ ys) ds h = absurd (omega arith)
add_right (x ∷ xs) [] ds h = absurd (omega arith)
add_right (x ∷ xs) (y ∷ ys) [] h = refl
add_right (x ∷ xs) (y ∷ ys) (d ∷ ds) h =
    ap (λ b. b ∷ add (add xs ys) ds) (or_right x y d) ∙ ap (λ l. exclusive_or x (exclusive_or y d) ∷ l) (add_right xs ys ds (omega arith))

length-divisor : length divisor ≡ 32
unfolding divisor bits_of
length-divisor = refl

-- n steps of the division reach the first n + 32 coefficients
pub remainder-append : (n : ℕ) (xs ys : List Bool) → n + 32 ≤ length xs → remainder n (xs ++ ys) ≡ remainder n xs ++ ys
unfolding remainder
remainder-append zero xs ys h = refl
remainder-append (suc n) [] ys h = absurd (omega arith)
remainder-append (suc n) (false ∷ xs) ys h = remainder-append n xs ys (omega arith)
remainder-append (suc n) (true ∷ xs) ys h =
    ap (remainder n) (add-append xs ys divisor (omega (arith, length-divisor)))
    ∙ remainder-append n (add xs divisor) ys (omega (arith, length-add xs divisor))

-- the remainder of a sum is the sum of the remainders
pub remainder-add : (n : ℕ) (xs ys : List Bool) → length xs ≡ length ys → remainder n (add xs ys) ≡ add (remainder n xs) (remainder n ys)
unfolding remainder add
remainder-add zero xs ys h = refl
remainder-add (suc n) [] [] h = refl
remainder-add (suc n) [] (y ∷ ys) h = absurd (omega arith)
remainder-add (suc n) (x ∷ xs) [] h = absurd (omega arith)
remainder-add (suc n) (false ∷ xs) (false ∷ ys) h = remainder-add n xs ys (omega arith)
remainder-add (suc n) (true ∷ xs) (true ∷ ys) h =
    ap (remainder n) (sym (add_same xs ys divisor (omega arith)))
    ∙ remainder-add n (add xs divisor) (add ys divisor) (omega (arith, length-add xs divisor, length-add ys divisor))
remainder-add (suc n) (true ∷ xs) (false ∷ ys) h =
    ap (remainder n) (add_left xs ys divisor (omega arith))
    ∙ remainder-add n (add xs divisor) ys (omega (arith, length-add xs divisor))
remainder-add (suc n) (false ∷ xs) (true ∷ ys) h =
    ap (remainder n) (add_right xs ys divisor (omega arith))
    ∙ remainder-add n xs (add ys divisor) (omega (arith, length-add ys divisor))

pub remainder-zeros : (n : ℕ) (ys : List Bool) → remainder n (zeros n ++ ys) ≡ ys
unfolding remainder
remainder-zeros zero ys = refl
remainder-zeros (suc n) ys = remainder-zeros n ys

pub remainder-more : (m n : ℕ) (xs : List Bool) → remainder (m + n) xs ≡ remainder n (remainder m xs)
unfolding remainder
remainder-more zero n xs = ap (λ k. remainder k xs) (omega arith)
remainder-more (suc m) n [] = ap (λ k. remainder k []) (let e : suc m + n ≡ suc (m + n) = omega arith in e) ∙ sym (remainder_nil n)
  where
    remainder_nil : (k : ℕ) → remainder k [] ≡ []
    remainder_nil zero = refl
    remainder_nil (suc k) = refl
remainder-more (suc m) n (false ∷ xs) = ap (λ k. remainder k (false ∷ xs)) (let e : suc m + n ≡ suc (m + n) = omega arith in e) ∙ remainder-more m n xs
remainder-more (suc m) n (true ∷ xs) = ap (λ k. remainder k (true ∷ xs)) (let e : suc m + n ≡ suc (m + n) = omega arith in e) ∙ remainder-more m n (add xs divisor)

pub length-remainder : (n : ℕ) (xs : List Bool) → n ≤ length xs → length (remainder n xs) + n ≡ length xs
unfolding remainder
length-remainder zero xs h = omega arith
length-remainder (suc n) [] h = absurd (omega arith)
length-remainder (suc n) (false ∷ xs) h = omega (arith, length-remainder n xs (omega arith))
length-remainder (suc n) (true ∷ xs) h =
    omega (arith, length-remainder n (add xs divisor) (omega (arith, length-add xs divisor)), length-add xs divisor)
