-- Packets and message fields one after the other.
use Rattle.std.proofs.Common.{◌≡◌, ℕ, zero, suc, ◌<◌, Bool, true, false, List, [], ◌∷◌, ◌++◌, refl, sym, ◌∙◌, ap, length}
use Rattle.std.proofs.Common.{arith, take, drop, get_or, append_assoc}
use Rattle.std.specs.Prelude.{not, ◌&&◌, if◌then◌else◌, Some, None}
use Rattle.std.specs.List.{list_all}
use Rattle.skeleton3.specs.Fields.{NamedValue, is_content_type, is_field}
use Rattle.import_changes.specs.Said.{further}

-- an element, those before it and those after it
pub cut_at : {X : Type 0} (xs : List X) (i : ℕ) (d : X) → i < length xs → xs ≡ take i xs ++ get_or xs i d ∷ drop (suc i) xs
cut_at [] i d less = absurd (omega (arith, less))
cut_at (x ∷ xs) zero d less = refl
cut_at (x ∷ xs) (suc i) d less = ap (λ l. x ∷ l) (cut_at xs i d (omega (arith, less)))

-- ---- fields that are kept
pub all_push_field : (now : List NamedValue) (field : NamedValue) → list_all is_field now ≡ true → is_field field ≡ true
    → list_all is_field (now ++ field ∷ []) ≡ true
all_push_field [] field all e = ap (λ b. b && true) e
all_push_field (other ∷ now) field all e = by (λ all. all_push_field now field all e) (is_field other) all
  where
    by : (list_all is_field now ≡ true → list_all is_field (now ++ field ∷ []) ≡ true) → (b : Bool)
        → (b && list_all is_field now) ≡ true → (b && list_all is_field (now ++ field ∷ [])) ≡ true
    by rest true all = rest all
    by rest false all = all

pub some_field : (b : Bool) (field kept : NamedValue) → (if b then Some field else None) ≡ Some kept → (b ≡ true) × (kept ≡ field)
some_field true field kept e = (refl, value e)
  where
    value : Some field ≡ Some kept → kept ≡ field
    value f = cc
some_field false field kept e = absurd (none e)
  where
    none : None ≡ Some kept → ⊥
    none e = cc

pub further_push : (message now left right : List NamedValue) (field : NamedValue) → further message ≡ now ++ further left
    → left ≡ field ∷ right → not (is_content_type field.0) ≡ true → further message ≡ (now ++ field ∷ []) ++ further right
further_push message now left right field fields is other =
    fields ∙ ap (λ l. now ++ further l) is ∙ ap (λ b. now ++ (if b then field ∷ further right else further right)) other
    ∙ sym (append_assoc now (field ∷ []) (further right))
