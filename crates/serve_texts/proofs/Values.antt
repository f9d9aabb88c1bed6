-- The lengths of values.
use Rattle.std.proofs.Common.{◌≡◌, ◌<◌, ◌≤◌, ◌^◌, ◌/◌, ℕ, List, ◌++◌, length, codes, arith, ap}
use Rattle.std.specs.Fmt.{decimal}
use Rattle.std.proofs.lemmas.Fmt.{length-decimal-le}
use Rattle.std.proofs.lemmas.List.{length-append}
use Rattle.serve_texts.specs.Status.{three_digits}

pub whole_is_short : (n : ℕ) (text : List ℕ) → n < 2 ^ 64 → text ≡ decimal n ++ codes "\n" → length text ≤ 25
whole_is_short n text fits is =
    let digits : length (decimal n) ≤ 20 = length-decimal-le 20 n (omega arith) (omega (arith, fits)) fits in
    omega (arith, digits, ap length is, length-append (decimal n) (codes "\n"))

pub thousandths_are_short : (n : ℕ) (text : List ℕ) → n < 2 ^ 64 → text ≡ decimal (n / 1000) ++ (codes "." ++ (three_digits n ++ codes "\n")) → length text ≤ 25
thousandths_are_short n text fits is =
    let least : n / 1000 < 2 ^ 64 = omega (arith, fits) in
    let digits : length (decimal (n / 1000)) ≤ 20 = length-decimal-le 20 (n / 1000) (omega arith) (omega (arith, least)) least in
    omega (arith, digits, ap length is, length-append (decimal (n / 1000)) (codes "." ++ (three_digits n ++ codes "\n")))
