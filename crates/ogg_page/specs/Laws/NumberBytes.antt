-- Numbers as bytes: what was read is written so, and what was written begins no other's bytes.
use Rattle.std.proofs.Common.{◌≡◌, ℕ, ◌<◌, ◌^◌, append_assoc, List, [], ◌∷◌, ◌++◌, length, refl, sym, ap, ◌∙◌, arith, zero, suc, subst, take, drop, take-append-drop}
use mir.ValLaws.{of_z_fits}
use Rattle.std.specs.List.{AllByRecursion}
use Rattle.std.specs.Prelude.{ℤ, FitsSigned}
use Rattle.std.specs.Int.{w16, w64, from_le_bytes, cast_unsigned, cast_signed}
use Rattle.std.proofs.lemmas.Nat.{le_bytes_2, le_bytes_4, le_bytes_8, from_le_bytes-to_le_bytes_2}
use Rattle.std.proofs.lemmas.Int.{to_z-of_z, of_z-to_z}
use Rattle.byteorder.specs.Endian.{little_number}
use Rattle.ogg_page.specs.Numbers.{u16_bytes, u32_bytes, u64_bytes, i64_bytes, fraction_bytes, IsFraction}
use Rattle.ogg_page.specs.Page.{IsByte, AreBytes}
use Rattle.ogg_page.specs.Laws.Prefixes.{same_fronts, same_4, same_8}

-- ---- ranges and lengths

abbrev pub IsU16 : ℕ → Type 0
IsU16 n = n < 2 ^ 16

abbrev pub IsU32 : ℕ → Type 0
IsU32 n = n < 2 ^ 32

abbrev pub IsU64 : ℕ → Type 0
IsU64 n = n < 2 ^ 64

abbrev pub IsI64 : ℤ → Type 0
IsI64 n = FitsSigned w64 n

pub length-u16_bytes : (n : ℕ) → length (u16_bytes n) ≡ 2
unfolding u16_bytes
length-u16_bytes n = refl

pub length-u32_bytes : (n : ℕ) → length (u32_bytes n) ≡ 4
unfolding u32_bytes
length-u32_bytes n = refl

pub length-u64_bytes : (n : ℕ) → length (u64_bytes n) ≡ 8
unfolding u64_bytes
length-u64_bytes n = refl

pub length-i64_bytes : (n : ℤ) → length (i64_bytes n) ≡ 8
unfolding i64_bytes
length-i64_bytes n = refl

-- ---- what was read is written so

written_u16 : (xs : List ℕ) (n : ℕ) → length xs ≡ 2 → AreBytes xs → n ≡ little_number 2 xs → u16_bytes n ≡ xs
unfolding u16_bytes
written_u16 xs n l small e = le_bytes_2 xs n l small (omega (arith, e))

written_u32 : (xs : List ℕ) (n : ℕ) → length xs ≡ 4 → AreBytes xs → n ≡ little_number 4 xs → u32_bytes n ≡ xs
unfolding u32_bytes
written_u32 xs n l small e = le_bytes_4 xs n l small (omega (arith, e))

written_u64 : (xs : List ℕ) (n : ℕ) → length xs ≡ 8 → AreBytes xs → n ≡ little_number 8 xs → u64_bytes n ≡ xs
unfolding u64_bytes
written_u64 xs n l small e = le_bytes_8 xs n l small (omega (arith, e))

-- the bytes in front of a cut are bytes
front_bytes : (n : ℕ) (xs : List ℕ) → AreBytes xs → AreBytes (take n xs)
front_bytes zero xs small i = omega arith
front_bytes (suc n) [] small i = omega arith
front_bytes (suc n) (x ∷ xs) small zero = small 0
front_bytes (suc n) (x ∷ xs) small (suc i) = front_bytes n xs (λ k. small (suc k)) i

cut_bytes : (n : ℕ) (xs front : List ℕ) → AreBytes xs → front ≡ take n xs → AreBytes front
cut_bytes n xs front small cut = subst AreBytes (sym cut) (front_bytes n xs small)

joined : (n : ℕ) (xs front rest number : List ℕ) → front ≡ take n xs → rest ≡ drop n xs → number ≡ front → xs ≡ number ++ rest
joined n xs front rest number cut back same = sym (take-append-drop n xs) ∙ ap (λ l. l ++ drop n xs) (sym cut ∙ sym same) ∙ ap (λ l. number ++ l) (sym back)

-- the number in front of a cut
pub front_u16 : (xs front rest : List ℕ) (n : ℕ) → AreBytes xs → length front ≡ 2 → front ≡ take 2 xs → rest ≡ drop 2 xs → n ≡ little_number 2 front
    → xs ≡ u16_bytes n ++ rest
front_u16 xs front rest n small l cut back is =
    joined 2 xs front rest (u16_bytes n) cut back (written_u16 front n l (cut_bytes 2 xs front small cut) is)

pub front_u32 : (xs front rest : List ℕ) (n : ℕ) → AreBytes xs → length front ≡ 4 → front ≡ take 4 xs → rest ≡ drop 4 xs → n ≡ little_number 4 front
    → xs ≡ u32_bytes n ++ rest
front_u32 xs front rest n small l cut back is =
    joined 4 xs front rest (u32_bytes n) cut back (written_u32 front n l (cut_bytes 4 xs front small cut) is)

pub front_u64 : (xs front rest : List ℕ) (n : ℕ) → AreBytes xs → length front ≡ 8 → front ≡ take 8 xs → rest ≡ drop 8 xs → n ≡ little_number 8 front
    → xs ≡ u64_bytes n ++ rest
front_u64 xs front rest n small l cut back is =
    joined 8 xs front rest (u64_bytes n) cut back (written_u64 front n l (cut_bytes 8 xs front small cut) is)

-- eight bytes with a sign, and without one
same_bytes : (z : ℤ) → u64_bytes (cast_unsigned w64 z) ≡ i64_bytes z
unfolding u64_bytes i64_bytes
same_bytes z = refl

pub from_u64 : (n : ℕ) (z : ℤ) → n < 2 ^ 64 → z ≡ cast_signed w64 n → u64_bytes n ≡ i64_bytes z
from_u64 n z small is = ap u64_bytes (sym (of_z-to_z w64 n small) ∙ ap (cast_unsigned w64) (sym is)) ∙ same_bytes z

byte_at : (xs : List ℕ) → AllByRecursion IsByte xs → AreBytes xs
byte_at [] h i = omega arith
byte_at (x ∷ xs) h zero = h.0
byte_at (x ∷ xs) h (suc i) = byte_at xs h.1 i

-- four bytes are some number's
pub read_u32 : (xs : List ℕ) → length xs ≡ 4 → AllByRecursion IsByte xs → (n : ℕ) × IsU32 n × (u32_bytes n ≡ xs)
read_u32 xs l all =
    let small : AreBytes xs = byte_at xs all in
    let a = small 0 in
    let b = small 1 in
    let c = small 2 in
    let d = small 3 in
    (little_number 4 xs, omega (arith, a, b, c, d), written_u32 xs (little_number 4 xs) l small refl)

-- ---- what was written begins no other's bytes

-- what follows a number doesn't depend on the number
pub behind_u16 : (m n : ℕ) (x y : List ℕ) → u16_bytes m ++ x ≡ u16_bytes n ++ y → x ≡ y
behind_u16 m n x y e = (same_fronts (u16_bytes m) (u16_bytes n) x y (length-u16_bytes m ∙ sym (length-u16_bytes n)) e).1

pub behind_u32 : (m n : ℕ) (x y : List ℕ) → u32_bytes m ++ x ≡ u32_bytes n ++ y → x ≡ y
behind_u32 m n x y e = (same_fronts (u32_bytes m) (u32_bytes n) x y (length-u32_bytes m ∙ sym (length-u32_bytes n)) e).1

pub same_u16 : (m n : ℕ) (x y : List ℕ) → IsU16 m → IsU16 n → u16_bytes m ++ x ≡ u16_bytes n ++ y → (m ≡ n) × (x ≡ y)
unfolding u16_bytes
same_u16 m n x y hm hn e =
    let both = same_fronts (u16_bytes m) (u16_bytes n) x y refl e in
    (sym (from_le_bytes-to_le_bytes_2 m hm) ∙ ap (from_le_bytes w16) both.0 ∙ from_le_bytes-to_le_bytes_2 n hn, both.1)

pub same_u32 : (m n : ℕ) (x y : List ℕ) → IsU32 m → IsU32 n → u32_bytes m ++ x ≡ u32_bytes n ++ y → (m ≡ n) × (x ≡ y)
unfolding u32_bytes
same_u32 m n x y hm hn e = let both = same_fronts (u32_bytes m) (u32_bytes n) x y refl e in (same_4 m n hm hn both.0, both.1)

pub same_u64 : (m n : ℕ) (x y : List ℕ) → IsU64 m → IsU64 n → u64_bytes m ++ x ≡ u64_bytes n ++ y → (m ≡ n) × (x ≡ y)
unfolding u64_bytes
same_u64 m n x y hm hn e = let both = same_fronts (u64_bytes m) (u64_bytes n) x y refl e in (same_8 m n hm hn both.0, both.1)

unsigned_lt : (n : ℤ) → IsI64 n → cast_unsigned w64 n < 2 ^ 64
unsigned_lt n h = (of_z_fits w64 n h).fits

pub same_i64 : (m n : ℤ) (x y : List ℕ) → IsI64 m → IsI64 n → i64_bytes m ++ x ≡ i64_bytes n ++ y → (m ≡ n) × (x ≡ y)
same_i64 m n x y hm hn e =
    let unsigned = ap (λ l. l ++ x) (same_bytes m) ∙ e ∙ ap (λ l. l ++ y) (sym (same_bytes n)) in
    let both = same_u64 (cast_unsigned w64 m) (cast_unsigned w64 n) x y (unsigned_lt m hm) (unsigned_lt n hn) unsigned in
    (sym (to_z-of_z w64 m hm) ∙ ap (cast_signed w64) both.0 ∙ to_z-of_z w64 n hn, both.1)

pub same_fraction : (a b : ℤ × ℤ) (x y : List ℕ) → IsFraction a → IsFraction b → fraction_bytes a ++ x ≡ fraction_bytes b ++ y → (a ≡ b) × (x ≡ y)
same_fraction a b x y ha hb e =
    let whole = sym (append_assoc (i64_bytes a.0) (i64_bytes a.1) x) ∙ e ∙ append_assoc (i64_bytes b.0) (i64_bytes b.1) y in
    let numerators = same_i64 a.0 b.0 (i64_bytes a.1 ++ x) (i64_bytes b.1 ++ y) ha.0 hb.0 whole in
    let denominators = same_i64 a.1 b.1 x y ha.1 hb.1 numerators.1 in
    (λ i. (numerators.0 i, denominators.0 i), denominators.1)
