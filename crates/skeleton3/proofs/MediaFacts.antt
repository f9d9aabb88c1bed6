-- A media type is read as it was written.
use Rattle.std.proofs.Common.{◌≡◌, ◌≢◌, ℕ, zero, suc, ◌+◌, ◌-◌, ◌<◌, ◌≤◌, List, [], ◌∷◌, length, take, drop, get_or, Bool, true, false, not, ◌&&◌, ◌||◌, ◌==◌, nat_eq, nat_le, refl, sym, ap, ◌∙◌, arith, drop-cons}
use Rattle.std.proofs.Math.ListN.{drop_of_length-le}
use Rattle.std.proofs.lemmas.Bool.{and_parts, or_parts, not-true, leb-true, ne_eqb, eqb-false}
use Rattle.std.proofs.lemmas.List.{take_all}
use Rattle.std.proofs.lemmas.List.Sums.{prefix_len_is, suffix_len_is}
use Rattle.std.specs.List.{list_all, list_any, prefix_len, suffix_len}
use Rattle.skeleton3.specs.Fields.{NamedValue, is_media_type, is_name_byte, is_field, IsField, IsFieldValue, is_blank, trimmed, without_end_blanks}

abbrev is_printable : ℕ → Bool
is_printable c = nat_le 0x20 c && nat_le c 0x7e

-- a printing character that isn't a space isn't blank
not_blank : (b : ℕ) → 32 ≤ b → nat_eq 32 b ≡ false → is_blank b ≡ false
not_blank b printable other = ap (λ t. t || b == 9) (ne_eqb b 32 (λ e. eqb-false 32 b other (sym e))) ∙ ne_eqb b 9 (λ e. omega arith)

printable_at : (media : List ℕ) (k d : ℕ) → list_all is_printable media ≡ true → k < length media → 32 ≤ get_or media k d
printable_at [] k d all l = absurd (omega arith)
printable_at (x ∷ xs) zero d all l = leb-true 32 x (and_parts _ _ (and_parts _ _ all).0).0
printable_at (x ∷ xs) (suc k) d all l = printable_at xs k d (and_parts _ _ all).1 (omega arith)

first_of : (p : ℕ → Bool) (x : ℕ) (xs : List ℕ) → not (list_any p (x ∷ xs)) ≡ true → p x ≡ false
first_of p x xs none = (or_parts (p x) (list_any p xs) (not-true _ none)).0

front_one : (media : List ℕ) → 0 < length media → take 1 media ≡ get_or media 0 0 ∷ []
front_one [] some = absurd (omega arith)
front_one (x ∷ xs) some = refl

last_one : (media : List ℕ) → 0 < length media → drop (length media - 1) media ≡ get_or media (length media - 1) 0 ∷ []
last_one media some =
    let i : ℕ = length media - 1 in
    drop-cons media i 0 (omega arith) ∙ ap (λ rest. get_or media i 0 ∷ rest) (drop_of_length-le media {i = suc i} (omega arith))

-- the value of a media type: it is printing, and neither end is a space
pub media_is_value : (media : List ℕ) → is_media_type media ≡ true → IsFieldValue media
media_is_value media h =
    let space : ℕ → Bool = nat_eq 0x20 in
    let last = and_parts _ _ h in
    let first = and_parts _ _ last.0 in
    let printable = and_parts _ _ first.0 in
    let sizes = and_parts _ _ printable.0 in
    let some : 0 < length media = let size = leb-true 1 (length media) sizes.0 in omega arith in
    let at_front = first_of space (get_or media 0 0) [] (sym (ap (λ l. not (list_any space l)) (front_one media some)) ∙ first.1) in
    let at_end = first_of space (get_or media (length media - 1) 0) [] (sym (ap (λ l. not (list_any space l)) (last_one media some)) ∙ last.1) in
    let blanks_in_front : prefix_len is_blank media ≡ 0 = prefix_len_is is_blank media 0 0 (omega arith) (λ k l. absurd (omega arith))
    (λ l. not_blank _ (printable_at media 0 0 printable.1 l) at_front) in
    let blanks_at_end : suffix_len is_blank media ≡ length media - length media = suffix_len_is is_blank media (length media) 0 (omega arith) (λ k l m. absurd (omega arith))
    (λ l. not_blank _ (printable_at media (length media - 1) 0 printable.1 (omega arith)) at_end) in
    record {
      line = λ k d l e. let low = printable_at media k d printable.1 l in omega arith;
      ends =
          ap (λ n. without_end_blanks (drop n media)) blanks_in_front
          ∙ take_all (length media - suffix_len is_blank media) media (omega (arith, blanks_at_end));
    }

-- a space in front of a value is dropped
pub trimmed_behind_space : (value : List ℕ) → trimmed value ≡ value → trimmed (32 ∷ value) ≡ value
trimmed_behind_space value h =
    let next : 1 + prefix_len is_blank value ≡ suc (prefix_len is_blank value) = omega arith in
    ap (λ n. without_end_blanks (drop n (32 ∷ value))) next ∙ h

-- a byte of a name is neither LF nor a colon
name_byte : (b : ℕ) → is_name_byte b ≡ true → (b ≢ 10) × (b ≢ 58)
name_byte b is = (λ e. cc (ap is_name_byte e, is), λ e. cc (ap is_name_byte e, is))

name_byte_at : (name : List ℕ) (k d : ℕ) → list_all is_name_byte name ≡ true → k < length name → is_name_byte (get_or name k d) ≡ true
name_byte_at [] k d all l = absurd (omega arith)
name_byte_at (x ∷ xs) zero d all l = (and_parts _ _ all).0
name_byte_at (x ∷ xs) (suc k) d all l = name_byte_at xs k d (and_parts _ _ all).1 (omega arith)

-- the field of a command can be carried
pub field_is_field : (field : NamedValue) → is_field field ≡ true → IsField field
field_is_field field h =
    let parts = and_parts _ _ h in
    let named = and_parts _ _ parts.0 in
    let bytes = (and_parts _ _ named.0).1 in (
      record {
        line = λ k d l. (name_byte _ (name_byte_at field.0 k d bytes l)).0;
        colon = λ k d l. (name_byte _ (name_byte_at field.0 k d bytes l)).1;
      },
      media_is_value field.1 parts.1,
    )
