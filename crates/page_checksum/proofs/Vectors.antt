-- The definition computes: the checksum's vectors.
use Rattle.std.proofs.Common.{◌≡◌, [], ◌∷◌, refl}
use Rattle.page_checksum.specs.Checksum.{checksum_of, message_bits, number_of, remainder, bits_of, add, divisor}

of_nothing : checksum_of [] ≡ 0
unfolding checksum_of message_bits number_of remainder bits_of add divisor
of_nothing = refl

of_1 : checksum_of (1 ∷ []) ≡ 0x04C11DB7
unfolding checksum_of message_bits number_of remainder bits_of add divisor
of_1 = refl

of_80 : checksum_of (0x80 ∷ []) ≡ 0x690CE0EE
unfolding checksum_of message_bits number_of remainder bits_of add divisor
of_80 = refl

of_digits : checksum_of (49 ∷ 50 ∷ 51 ∷ 52 ∷ 53 ∷ 54 ∷ 55 ∷ 56 ∷ 57 ∷ []) ≡ 0x89A1897F
unfolding checksum_of message_bits number_of remainder bits_of add divisor
of_digits = refl
