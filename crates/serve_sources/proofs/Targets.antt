-- A target that has come in part may still name something, if the whole one does.
use Rattle.std.proofs.Common.{◌≡◌, ℕ, zero, suc, ◌+◌, ◌<◌, ◌≤◌, Bool, true, false, cond, nat_eq, List, [], ◌∷◌, ◌++◌, ◌⊎◌, ◌||◌, ◌&&◌, ◌==◌, Some, None, length, take, drop, map, min, get_or, codes, inl, inr, arith, refl, ap, sym, ◌∙◌, subst, append_assoc, take-append-drop}
use Rattle.std.proofs.lemmas.Bool.{and_parts, cases_lt, ltb-true, ne_eqb, or_left, or_right}
use Rattle.std.specs.Option.{is_some}
use Rattle.std.proofs.lemmas.List.{take-append-le, take_at, take-take, drop-append-le, length-append, length-take}
use Rattle.std.proofs.Math.Seq.{take-append-add}
use Rattle.std.proofs.Math.ListN.{get_or-append}
use Rattle.std.proofs.lemmas.Slice.Eq.{bytes_eq-Decides}
use Rattle.std.specs.Char.{to_ascii_lowercase}
use Rattle.std.specs.List.{starts_with, position}
use Rattle.std.specs.Str.{bytes_eq}
use Rattle.httparse.specs.Grammar.{AllPass, is_uri_byte}
use Rattle.ogg_http.specs.Target.{has_scheme, path_of, path_from, first_slash}
use Rattle.serve_sources.specs.Asking.{may_go_on, may_name_own}
use Rattle.serve_sources.specs.declared.own.OwnResource.{OwnResource}
use Rattle.serve_sources.specs.declared.own.OwnResource.TheVariants.{Live, Player, Status}
use Rattle.serve_sources.specs.Own.{ends_path, is_at, may_be_at, may_be_own_path, may_be_own_target, may_have_scheme, own_at, own_of}
use Rattle.serve_sources.proofs.Placing.{no_place, place_is}
use Rattle.serve_sources.proofs.Fronts.{began}
use Rattle.serve_sources.proofs.Methods.{begins}

-- what ends a path ends it when more has come
ends_front : (rest more : List ℕ) → ends_path (rest ++ more) ≡ true → ends_path rest ≡ true
ends_front [] more h = refl
ends_front (b ∷ rest) more h = h

and_both : (a b : Bool) → a ≡ true → b ≡ true → (a && b) ≡ true
and_both true b _ h = h
and_both false b h _ = h

-- a path that is this one in the end may be it
at_on : (name path more : List ℕ) → is_at name (path ++ more) ≡ true → may_be_at name path ≡ true
at_on name path more at =
    let parts = and_parts _ _ at in
    elim (began path more name parts.0) [
      | inl whole ↦
          let size : length path ≡ length name + length (drop (length name) path) =
          ap length (begins path name whole) ∙ length-append name (drop (length name) path) in
          let rests : drop (length name) (path ++ more) ≡ drop (length name) path ++ more =
          drop-append-le (length name) path more (omega (arith, size)) in
          or_right _ _ (and_both _ _ whole (ends_front (drop (length name) path) more (ap ends_path (sym rests) ∙ parts.1)))
      | inr part ↦ or_left _ _ part.1
    ]

-- the path at which something stands is one of these
which_of : (a b c d : Bool) (resource : OwnResource) → cond (a || b) (Some Live) (cond c (Some Player) (cond d (Some Status) None)) ≡ Some resource → (a ≡ true) ⊎ ((b ≡ true) ⊎ ((c ≡ true) ⊎ (d ≡ true)))
which_of true b c d resource e = inl refl
which_of false true c d resource e = inr (inl refl)
which_of false false true d resource e = inr (inr (inl refl))
which_of false false false true resource e = inr (inr (inr refl))
which_of false false false false resource e = absurd (cc e)

one_of : (a b c d : Bool) → (a ≡ true) ⊎ ((b ≡ true) ⊎ ((c ≡ true) ⊎ (d ≡ true))) → (a || b || c || d) ≡ true
one_of true b c d h = refl
one_of false true c d h = refl
one_of false false true d h = refl
one_of false false false true h = refl
one_of false false false false (inl h) = h
one_of false false false false (inr (inl h)) = h
one_of false false false false (inr (inr (inl h))) = h
one_of false false false false (inr (inr (inr h))) = h

-- the same of paths
path_on : (resource : OwnResource) (path more : List ℕ) → own_at (path ++ more) ≡ Some resource → may_be_own_path path ≡ true
path_on resource path more own =
    let live : List ℕ = codes "/live" in
    let named : List ℕ = codes "/live.ogg" in
    let player : List ℕ = codes "/player" in
    let status : List ℕ = codes "/status" in
    one_of (may_be_at live path) (may_be_at named path) (may_be_at player path) (may_be_at status path)
    (elim (which_of (is_at live (path ++ more)) (is_at named (path ++ more)) (is_at player (path ++ more)) (is_at status (path ++ more)) resource own) [
      | inl h ↦ inl (at_on live path more h)
      | inr (inl h) ↦ inr (inl (at_on named path more h))
      | inr (inr (inl h)) ↦ inr (inr (inl (at_on player path more h)))
      | inr (inr (inr h)) ↦ inr (inr (inr (at_on status path more h)))
    ])

either : (a b : Bool) → (a ≡ true) ⊎ (b ≡ true) → (a || b) ≡ true
either true b h = refl
either false true h = refl
either false false (inl h) = h
either false false (inr h) = h

map_take : (f : ℕ → ℕ) (n : ℕ) (xs : List ℕ) → map f (take n xs) ≡ take n (map f xs)
map_take f zero [] = refl
map_take f zero (x ∷ xs) = refl
map_take f (suc n) [] = refl
map_take f (suc n) (x ∷ xs) = ap (λ t. f x ∷ t) (map_take f n xs)

-- and of the scheme
scheme_on : (target more : List ℕ) → has_scheme (target ++ more) ≡ true → may_have_scheme target ≡ true
scheme_on target more scheme =
    let count = min (length target) 7 in
    let part : take count target ≡ take count (take 7 (target ++ more)) =
    sym (take-append-le count target more (omega arith)) ∙ sym (take-take count 7 (target ++ more) (omega arith)) in
    let whole : map to_ascii_lowercase (take 7 (target ++ more)) ≡ codes "http://" = (bytes_eq-Decides _ _).0 scheme in
    (bytes_eq-Decides _ _).1
    (ap (map to_ascii_lowercase) part ∙ map_take to_ascii_lowercase count (take 7 (target ++ more)) ∙ ap (take count) whole ∙ sym (map_take to_ascii_lowercase count (codes "http://")))

-- and of targets
pub target_on : (resource : OwnResource) (target more : List ℕ) → own_of (target ++ more) ≡ Some resource → may_be_own_target target ≡ true
target_on resource target more own = by_scheme (has_scheme (target ++ more)) refl
  where
    by_scheme : (scheme : Bool) → has_scheme (target ++ more) ≡ scheme → may_be_own_target target ≡ true
    by_scheme true is = either _ _ (inr (scheme_on target more is))
    by_scheme false is =
        let plain : path_of (target ++ more) ≡ target ++ more =
        ap (λ b. cond b (path_from (first_slash (drop 7 (target ++ more))) (drop 7 (target ++ more))) (target ++ more)) is in
        either _ _ (inl (path_on resource target more (ap own_at (sym plain) ∙ own)))

-- a byte of a target is no space
no_space : (target : List ℕ) → AllPass is_uri_byte target → (k : ℕ) → k < length target → (get_or target k 0 == 32) ≡ false
no_space target pass k inside =
    let visible : 32 < get_or target k 0 = ltb-true _ _ (and_parts _ _ (pass k 0 inside)).0 in
    ne_eqb _ _ (λ e. omega (arith, e, visible))

-- so the first space is the one after it
first_space : (target rest : List ℕ) → AllPass is_uri_byte target → position (λ b. b == 32) (target ++ 32 ∷ rest) ≡ Some (length target)
first_space target rest pass = place_is (λ b. b == 32) target 32 rest (no_space target pass) refl

-- and in a part of it there is none
nowhere : (part more : List ℕ) → AllPass is_uri_byte (part ++ more) → position (λ b. b == 32) part ≡ None
nowhere part more pass =
    let whole : length (part ++ more) ≡ length part + length more = length-append part more in
    no_place (λ b. b == 32) part (λ k inside.
    ap (λ x. x == 32) (sym (get_or-append part more 0 k inside)) ∙ no_space (part ++ more) pass k (omega (arith, inside, whole)))

-- what has come after the method, if a target that names something is there in the end
pub names_on : (resource : OwnResource) (come more target after : List ℕ) (n : ℕ) → take n (come ++ more) ≡ target ++ 32 ∷ after → AllPass is_uri_byte target → own_of target ≡ Some resource → may_name_own come ≡ true
names_on resource come more target after n reads pass own =
    let sizes : length (target ++ 32 ∷ after) ≡ length target + length (32 ∷ after) = length-append target (32 ∷ after) in
    let enough : length target < n = omega (arith, ap length reads, sizes, length-take-most n (come ++ more)) in
    elim (cases_lt (length target) (length come)) [
      | inl beyond ↦
          let part : take (length target + 1) come ≡ target ++ 32 ∷ [] =
          sym (take-append-le (length target + 1) come more (omega (arith, beyond)))
          ∙ sym (take-take (length target + 1) n (come ++ more) (omega (arith, enough)))
          ∙ ap (take (length target + 1)) reads
          ∙ take-append-add target (32 ∷ after) 1 in
          let whole : come ≡ target ++ 32 ∷ drop (length target + 1) come =
          sym (take-append-drop (length target + 1) come)
          ∙ ap (λ t. t ++ drop (length target + 1) come) part
          ∙ append_assoc target (32 ∷ []) (drop (length target + 1) come) in
          let place : position (λ b. b == 32) come ≡ Some (length target) =
          ap (position (λ b. b == 32)) whole ∙ first_space target (drop (length target + 1) come) pass in
          ap (λ o. may_go_on o come) place
          ∙ ap (λ t. is_some (own_of t)) (ap (take (length target)) whole ∙ take_at target (32 ∷ drop (length target + 1) come) (length target) refl)
          ∙ ap is_some own
      | inr within ↦
          let part : come ≡ take (length come) target =
          sym (take_at come more (length come) refl)
          ∙ sym (take-take (length come) n (come ++ more) (omega (arith, enough, within)))
          ∙ ap (take (length come)) reads
          ∙ take-append-le (length come) target (32 ∷ after) within in
          let whole : target ≡ come ++ drop (length come) target =
          sym (take-append-drop (length come) target) ∙ ap (λ t. t ++ drop (length come) target) (sym part) in
          ap (λ o. may_go_on o come) (nowhere come (drop (length come) target) (subst (AllPass is_uri_byte) whole pass))
          ∙ target_on resource come (drop (length come) target) (ap own_of (sym whole) ∙ own)
    ]
  where
    length-take-most : (m : ℕ) (xs : List ℕ) → length (take m xs) ≤ m
    length-take-most m xs = omega (arith, length-take m xs)
