-- A vector whose items were lent.
use Rattle.std.proofs.Common.{◌≡◌, ℕ, List, ◌++◌, length, take, drop, sym, ◌∙◌, ap}
use Rattle.std.proofs.Math.Seq.{take-append_seam}

-- all items were lent, so exactly what they are now is given back
pub given_back : {X : Type 0} (now was : List X) (n : ℕ) → length now ≡ n → take n (now ++ drop (length now) was) ≡ now
given_back now was n e = ap (λ k. take k (now ++ drop (length now) was)) (sym e) ∙ take-append_seam now (drop (length now) was)
