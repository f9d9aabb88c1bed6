-- What a pull returns, and what a writer takes of it.
use Rattle.std.proofs.Common.{◌≡◌, ℕ, ◌+◌, ◌<◌, ◌≤◌, ◌-◌, true, false, Option, List, [], ◌∷◌, ◌++◌, length, take, drop, refl, sym, ◌∙◌, ap, subst, arith, length-append, append-nil}
use Rattle.std.specs.Io.KnownBytes.{Appends}
use Rattle.std.proofs.lemmas.List.{take-append-drop, take-append-le, length-drop}
use Rattle.ogg_page.specs.Output.{WritesPrefix}
use Rattle.serve_machine.specs.Hub.{HubState, Given, is_nothing}
use Rattle.serve_machine.specs.Own.{HasPulled}

-- nothing is left
none_left : (rest : List ℕ) → is_nothing rest ≡ true → rest ≡ []
none_left [] e = refl
none_left (byte ∷ rest) e = cc

pub all_given : (id : ℕ) (rest : List ℕ) (size : ℕ) (given : Given) (after : HubState) → HasPulled id rest size given after → given.done ≡ true → given.bytes ≡ rest
all_given id rest size given after pulled done =
    let left : drop size rest ≡ [] = none_left (drop size rest) (sym pulled.done ∙ done) in
    pulled.bytes ∙ sym (append-nil (take size rest)) ∙ ap (λ (l : List ℕ). take size rest ++ l) (sym left) ∙ take-append-drop size rest

pub all_short : (id : ℕ) (rest : List ℕ) (size : ℕ) (given : Given) (after : HubState) → HasPulled id rest size given after → given.done ≡ true → length rest ≤ size
all_short id rest size given after pulled done =
    let left : drop size rest ≡ [] = none_left (drop size rest) (sym pulled.done ∙ done) in
    let none : length rest - size ≡ 0 = sym (length-drop size rest) ∙ ap (λ (l : List ℕ). length l) left in
    omega (arith, none)

-- something is left
some_left : (rest : List ℕ) → is_nothing rest ≡ false → 0 < length rest
some_left [] e = cc
some_left (byte ∷ rest) e = omega arith

pub more_left : (id : ℕ) (rest : List ℕ) (size : ℕ) (given : Given) (after : HubState) → HasPulled id rest size given after
    → given.done ≡ false → size < length rest
more_left id rest size given after pulled going =
    let some : 0 < length (drop size rest) = some_left (drop size rest) (sym pulled.done ∙ going) in
    omega (arith, some, length-drop size rest)

-- a prefix of the front is a prefix of the whole
pub prefix_of_all : (old new : Option (List ℕ)) (size : ℕ) (bytes rest : List ℕ) → bytes ≡ take size rest
    → WritesPrefix old new bytes → WritesPrefix old new rest
prefix_of_all old new size bytes rest e (n, low, wrote) =
    let whole : bytes ++ drop size rest ≡ rest = ap (λ (l : List ℕ). l ++ drop size rest) e ∙ take-append-drop size rest in
    let long : length bytes + length (drop size rest) ≡ length rest = sym (length-append bytes (drop size rest)) ∙ ap (λ (l : List ℕ). length l) whole in
    let same : take n bytes ≡ take n rest = sym (take-append-le n bytes (drop size rest) low) ∙ ap (take n) whole in
    (n, omega (arith, low, long), subst (Appends old new) same wrote)
