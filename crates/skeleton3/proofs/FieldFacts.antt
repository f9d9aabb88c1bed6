-- The message fields of a text, line by line.
use Rattle.std.proofs.Common.{◌≡◌, ℕ, List, [], ◌∷◌, ◌++◌, length, get_or, Bool, true, false, cond, not, ◌==◌, filter, map, find, Option, Some, None, option_map, refl, sym, ap, ◌∙◌, arith}
use Rattle.std.proofs.lemmas.Grind.{common_steps}
use Rattle.std.proofs.lemmas.List.Splits.{slice_split_none, slice_split_at}
use Rattle.std.specs.Bool.{MatchBool}
use Rattle.std.specs.List.{All, IsFirstMatchOrLen, slice_split}
use Rattle.std.specs.Option.{is_some, option_or, option_and_then}
use Rattle.std.specs.Str.Lines.{strip_carriage_return}
use Rattle.skeleton3.specs.Fields.{NamedValue, field_of, fields_of_lines, is_content_type}

-- the bytes that end a line
abbrev pub is_feed : ℕ → Bool
is_feed b = b == 10

-- the pieces that are left to a `split` in this state
abbrev pub pieces_left : Bool → List ℕ → List (List ℕ)
pieces_left done rest = cond done [] (slice_split is_feed rest)

-- one piece is taken off
one_piece : (rest piece behind : List ℕ) (done : Bool) → MatchBool done (rest ≡ piece) ((y : ℕ) × (rest ≡ piece ++ (y ∷ behind)))
    → IsFirstMatchOrLen is_feed rest (length piece) → slice_split is_feed rest ≡ piece ∷ pieces_left done behind
one_piece rest piece behind true e h =
    ap (slice_split is_feed) e
    ∙ slice_split_none is_feed piece (λ k d l. let same : get_or rest k d ≡ get_or piece k d = ap (λ xs. get_or xs k d) e in ap is_feed (sym same) ∙ h.0 k d (omega arith) l)
one_piece rest piece behind false e h =
    let same = e.1 in
    let front : All (λ b. is_feed b ≡ false) piece = λ k d l. let a = h.0 k d (omega arith) l in grind (arith, common_steps) in
    let hit : is_feed e.0 ≡ true = let a = h.1 (grind (arith, common_steps)) e.0 in grind (arith, common_steps) in
    ap (slice_split is_feed) same ∙ slice_split_at is_feed piece e.0 behind front hit

abbrev pub lines_of_pieces : List (List ℕ) → List (List ℕ)
lines_of_pieces pieces = filter (λ line. not (length line == 0)) (map strip_carriage_return pieces)

-- the media type, if this one was found before these fields
abbrev chosen : Option (List ℕ) → List NamedValue → Option (List ℕ)
chosen found fields = option_or found (option_map (λ field. field.1) (find (λ field. is_content_type field.0) fields))

-- the media type, if this one was found before these pieces
abbrev pub media_from : Option (List ℕ) → List (List ℕ) → Option (List ℕ)
media_from found pieces = option_and_then (chosen found) (fields_of_lines (lines_of_pieces pieces))

-- at the end the media type is the one that was found
pub nothing_left : (found : Option (List ℕ)) → media_from found [] ≡ found
nothing_left None = refl
nothing_left (Some media) = refl

-- an empty line is passed over
pub empty_line : (found : Option (List ℕ)) (piece : List ℕ) (pieces : List (List ℕ)) → (length (strip_carriage_return piece) == 0) ≡ true
    → media_from found (piece ∷ pieces) ≡ media_from found pieces
empty_line found piece pieces is =
    ap (λ b. option_and_then (chosen found) (fields_of_lines (cond (not b) (strip_carriage_return piece ∷ lines_of_pieces pieces) (lines_of_pieces pieces)))) is

with_line : (found : Option (List ℕ)) (piece : List ℕ) (pieces : List (List ℕ)) → (length (strip_carriage_return piece) == 0) ≡ false
    → media_from found (piece ∷ pieces) ≡ option_and_then (chosen found) (fields_of_lines (strip_carriage_return piece ∷ lines_of_pieces pieces))
with_line found piece pieces isnt =
    ap (λ b. option_and_then (chosen found) (fields_of_lines (cond (not b) (strip_carriage_return piece ∷ lines_of_pieces pieces) (lines_of_pieces pieces)))) isnt

-- after a line without a colon there is no media type
pub no_field : (found : Option (List ℕ)) (piece : List ℕ) (pieces : List (List ℕ)) → (length (strip_carriage_return piece) == 0) ≡ false
    → field_of (strip_carriage_return piece) ≡ None → media_from found (piece ∷ pieces) ≡ None
no_field found piece pieces isnt none =
    with_line found piece pieces isnt
    ∙ ap (λ field. option_and_then (chosen found) (option_and_then (λ f. option_map (λ fs. f ∷ fs) (fields_of_lines (lines_of_pieces pieces))) field)) none

-- the media type that was found, once this field was read
abbrev pub chosen_with : Option (List ℕ) → NamedValue → Option (List ℕ)
chosen_with found field = option_or found (cond (is_content_type field.0) (Some field.1) None)

in_front : (found : Option (List ℕ)) (field : NamedValue) (fields : List NamedValue) (b : Bool) →
    option_or found (option_map (λ f. f.1) (cond b (Some field) (find (λ f. is_content_type f.0) fields))) ≡ chosen (option_or found (cond b (Some field.1) None)) fields
in_front (Some media) field fields b = refl
in_front None field fields true = refl
in_front None field fields false = refl

in_front_of : (found : Option (List ℕ)) (field : NamedValue) (rest : Option (List NamedValue)) → option_and_then (chosen found) (option_map (λ fs. field ∷ fs) rest) ≡ option_and_then (chosen (chosen_with found field)) rest
in_front_of found field None = refl
in_front_of found field (Some fields) = in_front found field fields (is_content_type field.0)

-- a line's field is chosen if none was chosen before and it is named Content-Type
pub one_field : (found : Option (List ℕ)) (piece : List ℕ) (pieces : List (List ℕ)) (field : NamedValue) → (length (strip_carriage_return piece) == 0) ≡ false
    → field_of (strip_carriage_return piece) ≡ Some field → media_from found (piece ∷ pieces) ≡ media_from (chosen_with found field) pieces
one_field found piece pieces field isnt is =
    let rest : Option (List NamedValue) = fields_of_lines (lines_of_pieces pieces) in
    with_line found piece pieces isnt
    ∙ ap (λ o. option_and_then (chosen found) (option_and_then (λ f. option_map (λ fs. f ∷ fs) rest) o)) is
    ∙ in_front_of found field rest

pub chosen_now : (found : Option (List ℕ)) (field : NamedValue) → is_some found ≡ false → is_content_type field.0 ≡ true → chosen_with found field ≡ Some field.1
chosen_now None field none is = ap (λ b. cond b (Some field.1) None) is
chosen_now (Some media) field none is = absurd (cc none)

pub not_chosen : (found : Option (List ℕ)) (field : NamedValue) → is_content_type field.0 ≡ false → chosen_with found field ≡ found
not_chosen None field isnt = ap (λ b. cond b (Some field.1) None) isnt
not_chosen (Some media) field isnt = refl

pub chosen_before : (found : Option (List ℕ)) (field : NamedValue) → is_some found ≡ true → chosen_with found field ≡ found
chosen_before None field some = absurd (cc some)
chosen_before (Some media) field some = refl

pub is_some-map : {X Y : Type 0} (f : X → Y) (o : Option X) → is_some (option_map f o) ≡ is_some o
is_some-map f None = refl
is_some-map f (Some x) = refl

-- the same, of the state before
pub next_piece : (rest piece behind : List ℕ) (was done : Bool) → was ≡ false → MatchBool done (rest ≡ piece) ((y : ℕ) × (rest ≡ piece ++ (y ∷ behind)))
    → IsFirstMatchOrLen is_feed rest (length piece) → pieces_left was rest ≡ piece ∷ pieces_left done behind
next_piece rest piece behind was done begun e h = ap (λ b. pieces_left b rest) begun ∙ one_piece rest piece behind done e h
