-- Message fields that are written are read as they were.
use Rattle.std.proofs.Common.{◌≡◌, ◌≢◌, ℕ, suc, ◌+◌, ◌-◌, List, [], ◌∷◌, ◌++◌, length, take, drop, get_or, false, cond, not, ◌==◌, Some, None, option_map, codes, refl, sym, ap, ◌∙◌, arith, rules, append_assoc, length-append}
use Rattle.std.proofs.Math.Seq.{take-append_seam, get_or-append_seam}
use Rattle.std.proofs.lemmas.Bool.{lt-ltb, ne_eqb, eq-eqb, cond-true}
use Rattle.std.proofs.lemmas.Grind.{common_steps}
use Rattle.std.proofs.lemmas.List.Elements.{All-append, All-from_recursion}
use Rattle.std.proofs.lemmas.List.Splits.{slice_split_at}
use Rattle.std.proofs.lemmas.List.Sums.{position_or_len_is}
use Rattle.std.specs.List.{All, AllByRecursion, position, position_or_len, flat_map}
use Rattle.std.specs.Option.{option_and_then}
use Rattle.std.specs.Str.Lines.{strip_carriage_return}
use Rattle.skeleton3.specs.Fields.{NamedValue, IsField, IsFieldName, IsFieldValue, trimmed, field_line, field_of, fields_of, fields_of_lines, kept_line, lines_of, media_in, message_of}
use Rattle.skeleton3.proofs.FieldFacts.{is_feed, lines_of_pieces}
use Rattle.skeleton3.proofs.MediaFacts.{trimmed_behind_space}

-- a field's line without its end
abbrev line_of : NamedValue → List ℕ
line_of field = field.0 ++ (58 ∷ 32 ∷ field.1)

colon_at : (name rest : List ℕ) → IsFieldName name → position (λ b. b == 58) (name ++ 58 ∷ rest) ≡ Some (length name)
colon_at name rest is =
    let line : List ℕ = name ++ 58 ∷ rest in
    let size : length line ≡ length name + suc (length rest) = length-append name (58 ∷ rest) in
    let place : position_or_len (λ b. b == 58) line ≡ length name =
    position_or_len_is (λ b. b == 58) line (length name) 0 (omega (arith, size))
    (λ k l. let same : get_or line k 0 ≡ get_or name k 0 = grind (arith, common_steps) in ne_eqb _ 58 (λ e. is.colon k 0 l (sym same ∙ e)))
    (λ l. eq-eqb _ 58 (get_or-append_seam name 58 rest 0)) in
    ap (λ n. cond (Rattle.std.specs.Prelude.nat_lt n (length line)) (Some n) None) place
    ∙ cond-true _ (Some (length name)) None (lt-ltb (length name) (length line) (omega (arith, size)))

behind_colon : (name rest : List ℕ) → drop (length name + 1) (name ++ 58 ∷ rest) ≡ rest
behind_colon [] rest = refl
behind_colon (x ∷ name) rest = let next : suc (length name) + 1 ≡ suc (length name + 1) = omega arith in ap (λ n. drop n (x ∷ (name ++ 58 ∷ rest))) next ∙ behind_colon name rest

field_of_line : (field : NamedValue) → IsField field → field_of (line_of field) ≡ Some field
field_of_line field is =
    let line : List ℕ = line_of field in
    ap (option_map (λ at. (take at line, trimmed (drop (at + 1) line)))) (colon_at field.0 (32 ∷ field.1) is.0)
    ∙ ap (λ name. Some (name, trimmed (drop (length field.0 + 1) line))) (take-append_seam field.0 (58 ∷ 32 ∷ field.1))
    ∙ ap (λ value. Some (field.0, value)) (ap trimmed (behind_colon field.0 (32 ∷ field.1)) ∙ trimmed_behind_space field.1 is.1.ends)

no_feed : (field : NamedValue) → IsField field → All (λ b. is_feed b ≡ false) (line_of field ++ 13 ∷ [])
no_feed field is =
    let P : ℕ → Type 0 = λ b. is_feed b ≡ false in
    let between : AllByRecursion P (58 ∷ 32 ∷ []) = (refl, (refl, tt)) in
    let last : AllByRecursion P (13 ∷ []) = (refl, tt) in
    All-append P (line_of field) (13 ∷ [])
    (All-append P field.0 (58 ∷ 32 ∷ field.1) (λ k d l. ne_eqb _ 10 (is.0.line k d l))
    (All-append P (58 ∷ 32 ∷ []) field.1 (All-from_recursion P (58 ∷ 32 ∷ []) between) (λ k d l. ne_eqb _ 10 (is.1.line k d l))))
    (All-from_recursion P (13 ∷ []) last)

without_return : (line : List ℕ) → strip_carriage_return (line ++ 13 ∷ []) ≡ line
without_return line =
    let size : length (line ++ 13 ∷ []) - 1 ≡ length line = omega (arith, length-append line (13 ∷ [])) in
    ap (λ n. cond (get_or (line ++ 13 ∷ []) n 0 == 13) (take n (line ++ 13 ∷ [])) (line ++ 13 ∷ [])) size
    ∙ cond-true _ (take (length line) (line ++ 13 ∷ [])) (line ++ 13 ∷ []) (eq-eqb _ 13 (get_or-append_seam line 13 [] 0))
    ∙ take-append_seam line (13 ∷ [])

in_turn : (field : NamedValue) (rest : List ℕ) → field_line field ++ rest ≡ (line_of field ++ 13 ∷ []) ++ (10 ∷ rest)
in_turn field rest = simp append_assoc

-- a line that was written is read as its field, and the fields of the rest follow
line_is_read : (field : NamedValue) (rest : List ℕ) → IsField field → fields_of (field_line field ++ rest) ≡ option_map (λ fields. field ∷ fields) (fields_of rest)
line_is_read field rest is =
    let line : List ℕ = line_of field in
    let some : (length line == 0) ≡ false = ne_eqb _ 0 (λ e. omega (arith, e, length-append field.0 (58 ∷ 32 ∷ field.1))) in
    ap fields_of (in_turn field rest)
    ∙ ap (λ pieces. fields_of_lines (lines_of_pieces pieces)) (slice_split_at is_feed (line ++ 13 ∷ []) 10 rest (no_feed field is) refl)
    ∙ ap (λ l. fields_of_lines (kept_line l (lines_of rest))) (without_return line)
    ∙ ap (λ b. fields_of_lines (cond (not b) (line ∷ lines_of rest) (lines_of rest))) some
    ∙ ap (option_and_then (λ f. option_map (λ fields. f ∷ fields) (fields_of rest))) (field_of_line field is)

lines_are_read : (fields : List NamedValue) → AllByRecursion IsField fields → fields_of (flat_map field_line fields) ≡ Some fields
lines_are_read [] are = refl
lines_are_read (field ∷ fields) are =
    line_is_read field (flat_map field_line fields) are.0 ∙ ap (option_map (λ rest. field ∷ rest)) (lines_are_read fields are.1)

-- the media type's field
abbrev media_field : List ℕ → NamedValue
media_field media = (codes "Content-Type", media)

content_type_is_name : IsFieldName (codes "Content-Type")
content_type_is_name =
    let line : AllByRecursion (λ b. b ≢ 10) (codes "Content-Type") = search rules in
    let colon : AllByRecursion (λ b. b ≢ 58) (codes "Content-Type") = search rules in
    record { line = All-from_recursion (λ b. b ≢ 10) (codes "Content-Type") line; colon = All-from_recursion (λ b. b ≢ 58) (codes "Content-Type") colon }

-- the fields that are written are read, the media type's first
pub message_is_read : (media : List ℕ) (fields : List NamedValue) → IsFieldValue media → AllByRecursion IsField fields
    → fields_of (message_of media fields) ≡ Some (media_field media ∷ fields)
message_is_read media fields value are =
    line_is_read (media_field media) (flat_map field_line fields) (content_type_is_name, value)
    ∙ ap (option_map (λ rest. media_field media ∷ rest)) (lines_are_read fields are)

-- the media type is found among them
pub media_is_read : (media : List ℕ) (fields : List NamedValue) → IsFieldValue media → AllByRecursion IsField fields → media_in (message_of media fields) ≡ Some media
media_is_read media fields value are = ap (option_and_then (λ fs. option_map (λ f. f.1) (Rattle.std.specs.Prelude.find (λ f. Rattle.skeleton3.specs.Fields.is_content_type f.0) fs))) (message_is_read media fields value are)
