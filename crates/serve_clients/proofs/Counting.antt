-- How many connections are of a kind.
use Rattle.std.proofs.Common.{◌≡◌, ◌≤◌, ◌+◌, ℕ, Bool, true, false, count_by, Option, Some, None, length, take, refl, sym, ◌∙◌, ap, inl, inr, arith}
use Rattle.std.proofs.lemmas.Bool.Decides.{leb_tells}
use Rattle.std.proofs.lemmas.List.{get_or_past, length-take, take_all}
use Rattle.std.proofs.lemmas.List.Sums.{count_by-le-length, count_by_more_no, count_by_more_yes}
use Rattle.slab.specs.Slab.{Slab, get}
use Rattle.serve_clients.specs.Client.{ClientState}
use Rattle.serve_clients.specs.Kinds.{count_of, is_of, kind_of, same}
use Rattle.serve_clients.specs.declared.kinds.Kind.{Kind}

true_false : true ≡ false → ⊥
true_false e = cc

-- how many of those before this key are
abbrev pub count_before : Kind → Slab ClientState → ℕ → ℕ
count_before kind slots key = count_by (is_of kind) (take key slots.slots)

-- what is known of one connection
pub tells : (kind : Kind) (found : Option ClientState) (is : Bool) → ((client : ClientState) → found ≡ Some client → is ≡ same kind (kind_of client.stage)) → (found ≡ None → is ≡ false)
    → is_of kind found ≡ is
tells kind None is some none = sym (none refl)
tells kind (Some client) is some none = sym (some client refl)

-- one more is
pub one_more : (kind : Kind) (slots : Slab ClientState) (key : ℕ) → is_of kind (get slots key) ≡ true → count_before kind slots (key + 1) ≡ count_before kind slots key + 1
one_more kind slots key is = elim (leb_tells (length slots.slots) key) [
  | inl past ↦ absurd (true_false (sym is ∙ ap (is_of kind) (get_or_past slots.slots key None past.1)))
  | inr inside ↦ count_by_more_yes (is_of kind) slots.slots key None inside.1 is
]

-- or the next one doesn't
pub as_many : (kind : Kind) (slots : Slab ClientState) (key : ℕ) → is_of kind (get slots key) ≡ false → count_before kind slots (key + 1) ≡ count_before kind slots key
as_many kind slots key isnt = elim (leb_tells (length slots.slots) key) [
  | inl past ↦ ap (count_by (is_of kind)) (take_all (key + 1) slots.slots (omega (arith, past.1)) ∙ sym (take_all key slots.slots past.1))
  | inr inside ↦ count_by_more_no (is_of kind) slots.slots key None inside.1 isnt
]

-- there are at most as many as keys
pub at_most : (kind : Kind) (slots : Slab ClientState) (key : ℕ) → count_before kind slots key ≤ key
at_most kind slots key = omega (arith, count_by-le-length (is_of kind) (take key slots.slots), length-take key slots.slots)

-- before the last key stand all
pub are_all : (kind : Kind) (slots : Slab ClientState) (key : ℕ) → length slots.slots ≤ key → count_before kind slots key ≡ count_of kind slots
are_all kind slots key past = ap (count_by (is_of kind)) (take_all key slots.slots past)
