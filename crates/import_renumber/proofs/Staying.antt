-- Serials that are free stay.
use Rattle.std.proofs.Common.{◌≡◌, ℕ, true, false, List, [], ◌∷◌, map, Option, Some, refl, sym, ◌∙◌, ap, inl, inr}
use Rattle.std.specs.Prelude.{nat_eq, ◌||◌}
use Rattle.std.specs.List.{AllByRecursion, list_any}
use Rattle.std.specs.Option.{unwrap_or}
use Rattle.std.specs.Map.{keys_of, lookup}
use Rattle.std.proofs.lemmas.Bool.{cases_Bool, cond-true, cond-false, eqb-true, false≢true}
use Rattle.ogg_command.specs.declared.command.NewStream.{NewStream}
use Rattle.import_changes.specs.Naming.{IsFreshName, name_of, serials_of, stream_named}

-- a free serial is its own name
own_name : (taken : List ℕ) (names : List (ℕ × ℕ)) (serial other : ℕ) → AllByRecursion (IsFreshName taken) names → list_any (nat_eq serial) taken ≡ false
    → list_any (nat_eq serial) (keys_of names) ≡ true → unwrap_or (name_of names serial) other ≡ serial
own_name taken [] serial other each free known = absurd (false≢true known)
own_name taken ((key, name) ∷ names) serial other (fresh, each) free known =
    elim (cases_Bool (nat_eq serial key)) [
      | inl same ↦
          (let is : serial ≡ key = eqb-true serial key same in
          ap (λ (o : Option ℕ). unwrap_or o other) (cond-true (nat_eq serial key) (Some name) (lookup (nat_eq serial) names) same)
          ∙ fresh.kept (ap (λ n. list_any (nat_eq n) taken) (sym is) ∙ free) ∙ sym is)
      | inr differs ↦
          ap (λ (o : Option ℕ). unwrap_or o other) (cond-false (nat_eq serial key) (Some name) (lookup (nat_eq serial) names) differs)
          ∙ own_name taken names serial other each free (sym (ap (λ b. b || list_any (nat_eq serial) (keys_of names)) differs) ∙ known)
    ]

pub stays : (taken : List ℕ) (names : List (ℕ × ℕ)) (serial other : ℕ) → AllByRecursion (IsFreshName taken) names → list_any (nat_eq serial) taken ≡ false
    → list_any (nat_eq serial) (keys_of names) ≡ true → unwrap_or (name_of names serial) other ≡ serial
stays taken names serial other each free known = own_name taken names serial other each free known

pub streams_stay : (taken : List ℕ) (names : List (ℕ × ℕ)) (streams : List NewStream) → AllByRecursion (IsFreshName taken) names
    → AllByRecursion (λ serial. list_any (nat_eq serial) taken ≡ false) (serials_of streams)
    → AllByRecursion (λ serial. list_any (nat_eq serial) (keys_of names) ≡ true) (serials_of streams) → map (stream_named names) streams ≡ streams
streams_stay taken names [] each free known = refl
streams_stay taken names (stream ∷ streams) each (free, others_free) (known, others_known) =
    ap (λ s. (record stream { serial = s }) ∷ map (stream_named names) streams) (own_name taken names stream.serial stream.serial each free known)
    ∙ ap (λ l. stream ∷ l) (streams_stay taken names streams each others_free others_known)
