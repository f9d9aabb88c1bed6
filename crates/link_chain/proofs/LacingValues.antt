-- Lacing values of a page, as a program goes over them.
use Rattle.std.proofs.Common.{◌≡◌, ◌≤◌, ◌-◌, ℕ, suc, Bool, true, false, List, [], ◌∷◌, length, take, slice_index_or, refl, sym, ◌∙◌, ap, arith}
use Rattle.std.specs.Prelude.{nat_eq, nat_lt, ◌&&◌}
use Rattle.std.specs.List.{list_all}
use Rattle.link_chain.specs.Taking.{is_one_packet}

abbrev pub are_full : List ℕ → Bool
are_full values = list_all (λ (value : ℕ). nat_eq value 255) values

pub one_packet_at : (lacing : List ℕ) → 1 ≤ length lacing →
    is_one_packet lacing ≡ (are_full (take (length lacing - 1) lacing) && nat_lt (slice_index_or lacing (length lacing - 1) 0) 255)
one_packet_at [] some = absurd (omega arith)
one_packet_at (value ∷ []) some = refl
one_packet_at (value ∷ next ∷ values) some =
    let last : length (value ∷ next ∷ values) - 1 ≡ suc (length (next ∷ values) - 1) = omega arith in
    ap (λ b. nat_eq value 255 && b) (one_packet_at (next ∷ values) (omega arith))
    ∙ both (nat_eq value 255) (are_full (take (length (next ∷ values) - 1) (next ∷ values))) (nat_lt (slice_index_or (next ∷ values) (length (next ∷ values) - 1) 0) 255)
    ∙ ap (λ k. are_full (take k (value ∷ next ∷ values)) && nat_lt (slice_index_or (value ∷ next ∷ values) k 0) 255) (sym last)
  where
    both : (a b c : Bool) → (a && (b && c)) ≡ ((a && b) && c)
    both true b c = refl
    both false b c = refl
