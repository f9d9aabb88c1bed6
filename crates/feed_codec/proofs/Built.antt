-- What is built where one part after the other is taken off the front, as often as was counted.
use Rattle.std.proofs.Common.{◌≡◌, ℕ, ◌+◌, ◌-◌, ◌<◌, ◌≤◌, List, [], ◌∷◌, ◌++◌, sym, subst, arith, Vec, vec_len, vec_capacity}
use Rattle.std.specs.List.{flat_map}
use Rattle.feed_codec.specs.Payload.{Begins, AreMany}
use Rattle.feed_codec.proofs.Spellings.{PrefixFree}
use Rattle.feed_codec.proofs.PayloadFacts.{built_more, left_behind}

-- as many parts have been built as turns were taken, the others stand in front, and there is room for them
abbrev pub AreBuilt : {X A : Type 0} → (X → Type 0) → (X → List ℕ) → ℕ → ℕ → List ℕ → List ℕ → List ℕ → Vec X A → Type 0
AreBuilt Is spell count turns bytes rest more parts =
    AreMany Is turns parts.items × (bytes ≡ flat_map spell parts.items ++ rest) × Begins (AreMany Is (count - turns)) (flat_map spell) rest more
    × (vec_len parts ≡ turns) × (count ≤ vec_capacity parts)

-- one more is built
pub part_built : {X A : Type 0} (Is : X → Type 0) (spell : X → List ℕ) → PrefixFree Is spell → (count turns : ℕ) (bytes rest behind more : List ℕ) (parts new : Vec X A) (x : X) → turns < count
    → AreBuilt Is spell count turns bytes rest more parts → Is x → rest ≡ spell x ++ behind
    → new.items ≡ parts.items ++ x ∷ [] → vec_len new ≡ vec_len parts + 1 → vec_capacity new ≡ vec_capacity parts → AreBuilt Is spell count (turns + 1) bytes behind more new
part_built Is spell free count turns bytes rest behind more parts new x l (many, whole, left, len, room) one front items longer same =
    let built = built_more Is spell bytes rest behind turns parts.items x many whole one front in (
      subst (AreMany Is (turns + 1)) (sym items) built.0,
      subst (λ all. bytes ≡ flat_map spell all ++ behind) (sym items) built.1,
      left_behind Is spell free rest behind more turns count x l left one front,
      omega (arith, longer, len),
      omega (arith, same, room),
    )
