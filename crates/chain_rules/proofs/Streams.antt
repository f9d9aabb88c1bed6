-- A new link's streams, checked one after the other.
use Rattle.std.proofs.Common.{◌≡◌, ℕ, ◌+◌, ◌<◌, Bool, true, false, List, [], ◌∷◌, ◌++◌, length, map, take, drop, get_or, refl, sym, ◌∙◌, ap}
use Rattle.std.specs.Prelude.{nat_eq, reverse, ◌||◌}
use Rattle.std.specs.List.{list_any}
use Rattle.std.proofs.lemmas.List.{take_more, drop_more, reverse-append}
use Rattle.std.proofs.lemmas.List.Folds.{list_any-append}
use Rattle.ogg_command.specs.declared.command.NewStream.{NewStream}
use Rattle.link_chain.specs.ChainState.{ChainState}
use Rattle.chain_rules.specs.Decision.{stream_rules, streams_rules}

abbrev pub serial_of : NewStream → ℕ
serial_of stream = stream.serial

-- the serials of earlier streams, the last of them first
abbrev pub before : List NewStream → List ℕ
before streams = reverse (map serial_of streams)

map-push : (xs : List NewStream) (x : NewStream) → map serial_of (xs ++ x ∷ []) ≡ map serial_of xs ++ x.serial ∷ []
map-push [] x = refl
map-push (y ∷ xs) x = ap (λ l. y.serial ∷ l) (map-push xs x)

before-push : (xs : List NewStream) (x : NewStream) → before (xs ++ x ∷ []) ≡ x.serial ∷ before xs
before-push xs x = ap reverse (map-push xs x) ∙ reverse-append (map serial_of xs) (x.serial ∷ [])

pub stream_next : (chain : ChainState) (described : Bool) (skeleton : List ℕ) (streams : List NewStream) (i : ℕ) (stream : NewStream) → i < length streams → stream ≡ get_or streams i stream →
    streams_rules chain described (before (take i streams) ++ skeleton) (drop i streams)
    ≡ stream_rules chain described (before (take i streams) ++ skeleton) stream ++ streams_rules chain described (before (take (i + 1) streams) ++ skeleton) (drop (i + 1) streams)
stream_next chain described skeleton streams i stream lt is =
    let more : take (i + 1) streams ≡ take i streams ++ stream ∷ [] = take_more streams i stream lt ∙ ap (λ (s : NewStream). take i streams ++ s ∷ []) (sym is) in
    ap (streams_rules chain described (before (take i streams) ++ skeleton)) (drop_more streams i stream lt ∙ ap (λ (s : NewStream). s ∷ drop (i + 1) streams) (sym is))
    ∙ ap (λ l. stream_rules chain described (before (take i streams) ++ skeleton) stream ++ streams_rules chain described (l ++ skeleton) (drop (i + 1) streams))
    (sym (ap before more ∙ before-push (take i streams) stream))

or_swap : (a b : Bool) → (a || (b || false)) ≡ (b || a)
or_swap true true = refl
or_swap true false = refl
or_swap false true = refl
or_swap false false = refl

pub any-before : (serial : ℕ) (streams : List NewStream) → list_any (nat_eq serial) (before streams) ≡ list_any (λ (s : NewStream). nat_eq serial s.serial) streams
any-before serial [] = refl
any-before serial (stream ∷ streams) =
    ap (list_any (nat_eq serial)) (reverse-append (stream.serial ∷ []) (map serial_of streams))
    ∙ list_any-append (nat_eq serial) (before streams) (stream.serial ∷ [])
    ∙ ap (λ b. b || (nat_eq serial stream.serial || false)) (any-before serial streams)
    ∙ or_swap (list_any (λ (s : NewStream). nat_eq serial s.serial) streams) (nat_eq serial stream.serial)
