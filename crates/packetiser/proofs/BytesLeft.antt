-- The bytes that are left of a run, piece by piece.
use Rattle.std.proofs.Common.{◌≡◌, ℕ, zero, suc, ◌-◌, ◌≤◌, min, List, [], ◌∷◌, ◌++◌, length, take, drop, refl, ◌∙◌, ap, arith, length-drop}
use Rattle.std.proofs.lemmas.List.{drop-append-le}
use Rattle.packetiser.specs.Run.{Timed, run_bytes}
use Rattle.packetiser.specs.Place.{bytes_left, IsWithin}

-- a front of two lists
pub take_both : (n : ℕ) (xs ys : List ℕ) → take n (xs ++ ys) ≡ take n xs ++ take (n - length xs) ys
take_both zero xs ys = ap (λ k. take k ys) (let e : 0 ≡ 0 - length xs = omega arith in e)
take_both (suc n) [] ys = ap (λ k. take k ys) (let e : suc n ≡ suc n - 0 = omega arith in e)
take_both (suc n) (x ∷ xs) ys =
    ap (λ l. x ∷ l) (take_both n xs ys)
    ∙ ap (λ k. x ∷ (take n xs ++ take k ys)) (let e : n - length xs ≡ suc n - suc (length xs) = omega arith in e)

-- no more than there is
pub take_there : (n m : ℕ) (xs : List ℕ) → m ≡ min (length xs) n → take m xs ≡ take n xs
take_there zero m xs e = ap (λ k. take k xs) (let z : m ≡ 0 = omega (arith, e) in z)
take_there (suc n) m [] e = ap (λ k. take {A = ℕ} k []) (let z : m ≡ 0 = omega (arith, e) in z)
take_there (suc n) m (x ∷ xs) e =
    ap (λ k. take k (x ∷ xs)) (let z : m ≡ suc (min (length xs) n) = omega (arith, e) in z)
    ∙ ap (λ l. x ∷ l) (take_there n (min (length xs) n) xs refl)

-- nothing is left of no packets
pub none_left : (done : ℕ) (rest : List Timed) → length rest ≡ 0 → length (bytes_left done rest) ≡ 0
unfolding run_bytes
none_left done [] none = omega (arith, length-drop {A = ℕ} done [])
none_left done (item ∷ rest) none = absurd (omega (arith, none))

pub start : (rest : List Timed) → IsWithin 0 rest
start [] = refl
start (item ∷ rest) = omega arith

-- what is left of a packet and of those after it
pub left_of : (done : ℕ) (item : Timed) (others : List Timed) → done ≤ length item.packet →
    bytes_left done (item ∷ others) ≡ drop done item.packet ++ run_bytes others
unfolding run_bytes
left_of done item others h = drop-append-le done item.packet (run_bytes others) h
