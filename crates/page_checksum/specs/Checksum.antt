-- The checksum of a page (RFC 3533, section 6): a cyclic redundancy check of 32 bits, most significant bit first,
-- from 0 on and with no final change. The definition uses long division of polynomials over two elements; a
-- polynomial is the list of its coefficients, the highest first.
use Rattle.std.specs.Prelude.{ℕ, zero, suc, ◌+◌, ◌/◌, ◌%◌, ◌^◌, Bool, true, false, not, nat_eq, if◌then◌else◌, List, [], ◌∷◌, ◌++◌, length, replicate}
use Rattle.std.specs.List.{flat_map}
use Rattle.std.specs.Int.{to_be_bytes, w32}

-- the low n bits of a number, the highest first
unfoldable pub bits_of : ℕ → ℕ → List Bool
bits_of zero x = []
bits_of (suc n) x = nat_eq (x / 2 ^ n % 2) 1 ∷ bits_of n x

-- the number that these bits spell
unfoldable pub number_of : List Bool → ℕ
number_of [] = 0
number_of (b ∷ bits) = (if b then 2 ^ length bits else 0) + number_of bits

-- bytes as bits, each byte's highest first
unfoldable pub message_bits : List ℕ → List Bool
message_bits bytes = flat_map (bits_of 8) bytes

abbrev pub exclusive_or : Bool → Bool → Bool
exclusive_or true b = not b
exclusive_or false b = b

-- the first polynomial with the second added to its leading coefficients; to add is also to subtract
unfoldable pub add : List Bool → List Bool → List Bool
add [] ys = []
add (x ∷ xs) [] = x ∷ xs
add (x ∷ xs) (y ∷ ys) = exclusive_or x y ∷ add xs ys

-- the divisor after its leading coefficient, which is that of x ^ 32
unfoldable pub divisor : List Bool
divisor = bits_of 32 0x04C11DB7

-- Long division: n times the leading coefficient goes, and if it was 1 the divisor is subtracted.
unfoldable pub remainder : ℕ → List Bool → List Bool
remainder zero dividend = dividend
remainder (suc n) [] = []
remainder (suc n) (b ∷ rest) = remainder n (if b then add rest divisor else rest)

-- the remainder of the message, multiplied by x ^ 32
unfoldable pub checksum_of : List ℕ → ℕ
checksum_of bytes = let message = message_bits bytes in number_of (remainder (length message) (message ++ replicate 32 false))

-- the checksum of a byte with this number of zeros after it
abbrev pub entry_before : ℕ → ℕ → ℕ
entry_before zeros byte = checksum_of (byte ∷ replicate zeros 0)

-- sixteen bytes that are spelled by four words, each with its highest byte first
abbrev pub bytes_of : ℕ → ℕ → ℕ → ℕ → List ℕ
bytes_of first second third fourth = to_be_bytes w32 first ++ to_be_bytes w32 second ++ to_be_bytes w32 third ++ to_be_bytes w32 fourth
