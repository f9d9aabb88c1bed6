-- What is put in the place of a value that was found under a key.
use Rattle.std.proofs.Common.{◌≡◌, ◌<◌, ℕ, List, Option, Some, None, length, get_or, set, ap, sym, ◌∙◌, inl, inr}
use Rattle.std.proofs.lemmas.Bool.Decides.{leb_tells}
use Rattle.std.proofs.lemmas.List.{get_or_past, get_or-set_same, set-get_or}
use Rattle.slab.specs.Slab.{SameValues, Slab, get, with_value}

module _ {X : Type 0} where
  pub same : (one other : X) → Some one ≡ Some other → one ≡ other
  same one other e = cc

  none_is_none : (value : X) → None ≡ Some value → ⊥
  none_is_none value e = cc

  is_inside : (slots : Slab X) (key : ℕ) (value : X) → get slots key ≡ Some value → key < length slots.slots
  is_inside slots key value is = elim (leb_tells (length slots.slots) key) [
    | inl past ↦ absurd (none_is_none value (sym (get_or_past slots.slots key None past.1) ∙ is))
    | inr inside ↦ inside.1
  ]

  pub placed : (slots : Slab X) (key : ℕ) (old new : X) → get slots key ≡ Some old → get (with_value slots key new) key ≡ Some new
  placed slots key old new is = get_or-set_same slots.slots key (Some new) None (is_inside slots key old is)

  -- what was there is put back
  pub put_back : (slots : Slab X) (key : ℕ) (value : X) → get slots key ≡ Some value → SameValues slots (with_value slots key value)
  put_back slots key value is other =
      ap (λ (all : List (Option X)). get_or all other None) (ap (set slots.slots key) (sym is) ∙ set-get_or slots.slots key None)
