-- A write in parts.
use Rattle.std.proofs.Common.{◌≡◌, inl, inr, ⊎_elim, ℕ, ◌+◌, ◌-◌, ◌≤◌, List, ◌++◌, length, take, drop, sym, ◌∙◌, ap, arith, append_assoc, length-append, length-drop, take-add}
use Rattle.std.proofs.lemmas.List.{take_at, take_rest, drop-drop, length-take-le}
use Rattle.std.proofs.Math.Seq.{drop-append-add, take-append-add, take-append-le}
use Rattle.disk_model.specs.Image.{DiskState, IsWithin, overwritten, after_write}
use Rattle.disk_model.specs.Torn.{unwritten}
use Rattle.disk_model.proofs.Images.{outside}

pub rest_long : (bytes : List ℕ) (done : ℕ) → length (take (length bytes - done) (drop done bytes)) ≡ length bytes - done
rest_long bytes done = ap length (take_rest bytes done) ∙ length-drop done bytes

twice : (old xs ys : List ℕ) (at : ℕ) → at ≤ length old → overwritten (overwritten old at xs) (at + length xs) ys ≡ overwritten old at (xs ++ ys)
twice old xs ys at room =
    let front = take at old ++ xs in
    let back = drop (at + length xs) old in
    let long : length front ≡ at + length xs = omega (arith, length-append (take at old) xs, length-take-le at old room) in
    let front_is : take (at + length xs) (front ++ back) ≡ front = take_at front back (at + length xs) long in
    let back_is : drop (at + length xs + length ys) (front ++ back) ≡ drop (at + length (xs ++ ys)) old =
    ap (λ (k : ℕ). drop (k + length ys) (front ++ back)) (sym long) ∙ drop-append-add front back (length ys) ∙ drop-drop (length ys) (at + length xs) old
    ∙ ap (λ (k : ℕ). drop k old) (omega (arith, length-append xs ys)) in
    (λ i. (front_is i ++ ys) ++ back_is i) ∙ ap (λ (l : List ℕ). l ++ drop (at + length (xs ++ ys)) old) (append_assoc (take at old) xs ys)

pub part_more : (old mid new bytes : List ℕ) (at done n : ℕ) → at ≤ length old → done ≤ length bytes → mid ≡ overwritten old at (take done bytes)
    → new ≡ overwritten mid (at + done) (take n (take (length bytes - done) (drop done bytes))) → new ≡ overwritten old at (take (done + n) bytes)
part_more old mid new bytes at done n room within before is =
    let xs = take done bytes in
    let ys = take n (drop done bytes) in
    let size : done ≡ length xs = sym (length-take-le done bytes within) in
    is ∙ (λ i. overwritten (before i) (at + size i) (take n (take_rest bytes done i))) ∙ twice old xs ys at room ∙ ap (λ (l : List ℕ). overwritten old at l) (sym (take-add done n bytes))

-- a read in parts
pub filled : (xs ys post contents : List ℕ) (done n at : ℕ) → done ≤ length xs → n ≤ length ys → take done xs ≡ take done (drop at contents) → take n ys ≡ take n (drop (at + done) contents)
    → take (done + n) (take done xs ++ (ys ++ post)) ≡ take (done + n) (drop at contents)
filled xs ys post contents done n at within few so_far more =
    let size : length (take done xs) ≡ done = length-take-le done xs within in
    ap (λ (k : ℕ). take (k + n) (take done xs ++ (ys ++ post))) (sym size) ∙ take-append-add (take done xs) (ys ++ post) n
    ∙ (λ i. so_far i ++ (take-append-le n ys post few ∙ more ∙ ap (λ (l : List ℕ). take n l) (sym (drop-drop done at contents))) i) ∙ sym (take-add done n (drop at contents))

-- a write inside the range of an earlier one
pub within_range : (old mid : DiskState) (at n p m : ℕ) → IsWithin mid (after_write at n old) → at ≤ p → p + m ≤ at + n → IsWithin (after_write p m mid) (after_write at n old)
within_range old mid at n p m within from to = record {
  synced = within.synced;
  unwritten = λ k none. unwritten mid.written p m k (within.unwritten k none) (⊎_elim (λ before. inl (omega (arith, before, from))) (λ behind. inr (omega (arith, behind, to))) (outside old.written at n k none));
  least = within.least;
  greatest = omega (arith, within.greatest, to);
}
