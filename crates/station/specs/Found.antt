-- The connection that was found, and what is put in its place.
use Rattle.std.proofs.Common.{◌≡◌, ◌<◌, ℕ, Some, None, length, sym, ◌∙◌, inl, inr}
use Rattle.std.proofs.lemmas.Bool.Decides.{leb_tells}
use Rattle.std.proofs.lemmas.List.{get_or_past, get_or-set_same}
use Rattle.slab.specs.Slab.{Slab, get, with_value}
use Rattle.serve_clients.specs.Client.{ClientState}

pub same_client : (one other : ClientState) → Some one ≡ Some other → one ≡ other
same_client one other e = cc

none_is_none : (client : ClientState) → None ≡ Some client → ⊥
none_is_none client e = cc

is_inside : (slots : Slab ClientState) (key : ℕ) (client : ClientState) → get slots key ≡ Some client → key < length slots.slots
is_inside slots key client is = elim (leb_tells (length slots.slots) key) [
  | inl past ↦ absurd (none_is_none client (sym (get_or_past slots.slots key None past.1) ∙ is))
  | inr inside ↦ inside.1
]

pub placed : (slots : Slab ClientState) (key : ℕ) (old new : ClientState) → get slots key ≡ Some old → get (with_value slots key new) key ≡ Some new
placed slots key old new is = get_or-set_same slots.slots key (Some new) None (is_inside slots key old is)
