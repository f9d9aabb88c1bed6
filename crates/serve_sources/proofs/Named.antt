-- Fields by their name, one after another.
use Rattle.std.proofs.Common.{◌≡◌, ℕ, ◌+◌, ◌<◌, true, cond, List, [], ◌∷◌, ◌++◌, Option, Some, None, length, take, drop, map, get_or, ap, sym, ◌∙◌, take-append-drop, option_copied}
use Rattle.std.specs.Borrow.{Bor}
use Rattle.std.specs.Option.{option_to_list, is_some}
use Rattle.std.proofs.lemmas.List.{map-append, map_more}
use Rattle.std.proofs.lemmas.Grind.{flat_map-append}
use Rattle.http1.specs.Fields.{Header, is_named, values_named}
use Rattle.serve_sources.specs.Fields.{single}

-- a value that is copied is there
pub copied_some : (found : Option (Bor (List ℕ))) → is_some found ≡ true → is_some (option_copied found) ≡ true
copied_some None some = some
copied_some (Some v) some = some

-- the values in two parts of the fields
values-append : (name : List ℕ) (xs ys : List Header) → values_named name (xs ++ ys) ≡ values_named name xs ++ values_named name ys
values-append name xs ys = flat_map-append (λ h. cond (is_named name h) (h.1 ∷ []) []) xs ys

-- if one value was found, and the next field has the name too, there are at least two
pub two_named : {X : Type 0} (f : X → Header) (name : List ℕ) (xs : List X) (i : ℕ) (d : X) (found : Option (List ℕ)) → i < length xs → values_named name (map f (take i xs)) ≡ option_to_list found → is_some found ≡ true → is_named name (f (get_or xs i d)) ≡ true → single (values_named name (map f xs)) ≡ None
two_named f name xs i d None inside before some named = absurd (cc some)
two_named f name xs i d (Some v) inside before some named =
    let x = get_or xs i d in
    let here : values_named name (f x ∷ []) ≡ (f x).1 ∷ [] = ap (λ b. cond b ((f x).1 ∷ []) [] ++ []) named in
    let up_to : values_named name (map f (take (i + 1) xs)) ≡ v ∷ (f x).1 ∷ [] =
    ap (values_named name) (map_more f xs i d inside)
    ∙ values-append name (map f (take i xs)) (f x ∷ [])
    ∙ ap (λ vs. vs ++ values_named name (f x ∷ [])) before
    ∙ ap (λ vs. v ∷ vs) here in
    ap (λ fields. single (values_named name fields)) (ap (map f) (sym (take-append-drop (i + 1) xs)) ∙ map-append f (take (i + 1) xs) (drop (i + 1) xs))
    ∙ ap single (values-append name (map f (take (i + 1) xs)) (map f (drop (i + 1) xs)))
    ∙ ap (λ vs. single (vs ++ values_named name (map f (drop (i + 1) xs)))) up_to
