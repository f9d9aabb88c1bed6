-- Numbers as bytes: the lowest byte first.
use Rattle.std.specs.Prelude.{ℕ, ℤ, List, ◌++◌, FitsSigned}
use Rattle.std.specs.Int.{w64, cast_unsigned}
use Rattle.byteorder.specs.Endian.{little_bytes}

unfoldable pub u16_bytes : ℕ → List ℕ
u16_bytes n = little_bytes 2 n

unfoldable pub u32_bytes : ℕ → List ℕ
u32_bytes n = little_bytes 4 n

unfoldable pub u64_bytes : ℕ → List ℕ
u64_bytes n = little_bytes 8 n

-- a number with a sign, as two's complement
unfoldable pub i64_bytes : ℤ → List ℕ
i64_bytes n = little_bytes 8 (cast_unsigned w64 n)

-- a numerator and a denominator
abbrev pub fraction_bytes : ℤ × ℤ → List ℕ
fraction_bytes fraction = i64_bytes fraction.0 ++ i64_bytes fraction.1

-- a numerator and a denominator of 64 bits each, with a sign
abbrev pub IsFraction : ℤ × ℤ → Type 0
IsFraction fraction = FitsSigned w64 fraction.0 × FitsSigned w64 fraction.1
