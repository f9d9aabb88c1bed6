-- Folding: a byte of a message is taken out, and added to six bytes behind it, without a change of the checksum.
use Rattle.std.specs.Prelude.{ℕ, ◌-◌, bit_xor}

-- what the bytes before this place, once they are taken out, add to the byte there
abbrev pub pending_at : (ℕ → ℕ) → ℕ → ℕ
pending_at bytes at =
    bit_xor (bit_xor (bit_xor (bit_xor (bit_xor (bytes (at - 247)) (bytes (at - 240))) (bytes (at - 186))) (bytes (at - 154))) (bytes (at - 151))) (bytes (at - 149))
