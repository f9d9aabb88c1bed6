-- Serials below which all are given, after more are given.
use Rattle.std.proofs.Common.{◌≡◌, ℕ, Bool, true, false, List, [], ◌∷◌, ◌++◌, map, refl, sym, ◌∙◌, ap, subst, append_assoc}
use Rattle.std.specs.Prelude.{nat_eq, ◌||◌}
use Rattle.std.specs.List.{AllZip, IsDistinct, list_any}
use Rattle.std.specs.Map.{keys_of, values_of}
use Rattle.std.proofs.lemmas.List.Folds.{list_any-append}
use Rattle.ogg_command.specs.declared.command.NewStream.{NewStream}
use Rattle.import_changes.specs.Naming.{AreNamed, AreOnlyOf, IsLow, serials_of, stream_named}
use Rattle.import_changes.specs.Steps.{IsDescribedUnder}
use Rattle.import_changes.proofs.Begins.{described_serials}
use Rattle.import_changes.proofs.Renumbers.{names_are}
use Rattle.import_changes.proofs.Steps.{named_serials}
use Rattle.std.proofs.Math.Bool.{or-false}

or_more : (a b c : Bool) → (a || c) ≡ true → ((a || b) || c) ≡ true
or_more true b c e = refl
or_more false true c e = refl
or_more false false c e = e

-- more serials are given
pub low_given : (given more serials : List ℕ) (low : ℕ) → IsLow given serials low → IsLow (given ++ more) serials low
low_given given more serials low is n less =
    ap (λ b. b || list_any (nat_eq n) serials) (list_any-append (nat_eq n) given more)
    ∙ or_more (list_any (nat_eq n) given) (list_any (nat_eq n) more) (list_any (nat_eq n) serials) (is n less)

-- all names are given
pub low_begun : (given : List ℕ) (names : List (ℕ × ℕ)) (stay : List NewStream) (low : ℕ) → IsDistinct nat_eq (keys_of names)
    → AreNamed names (serials_of stay) → AreOnlyOf names (serials_of stay) → IsLow given (values_of names) low
    → IsLow (given ++ serials_of (map (stream_named names) stay)) [] low
low_begun given names stay low once all only is n less =
    or-false (list_any (nat_eq n) (given ++ serials_of (map (stream_named names) stay)))
    ∙ list_any-append (nat_eq n) given (serials_of (map (stream_named names) stay))
    ∙ ap (λ b. list_any (nat_eq n) given || b) (ap (list_any (nat_eq n)) (named_serials names stay)
    ∙ sym (names_are names (serials_of stay) once all only n)) ∙ is n less

-- the same with a Skeleton's serial before them
pub low_described : (given : List ℕ) (serial : ℕ) (names : List (ℕ × ℕ)) (said : List (List ℕ)) (stay now : List NewStream) (low : ℕ)
    → IsDistinct nat_eq (keys_of names) → AreNamed names (serials_of stay) → AreOnlyOf names (serials_of stay)
    → AllZip (IsDescribedUnder names said) stay now → IsLow given (values_of names) low
    → IsLow (given ++ serial ∷ serials_of now) [] low
low_described given serial names said stay now low once all only described is =
    subst (λ l. IsLow (given ++ serial ∷ l) [] low) (sym (described_serials names said stay now described))
    (subst (λ l. IsLow l [] low) (append_assoc given (serial ∷ []) (serials_of (map (stream_named names) stay)))
    (low_begun (given ++ serial ∷ []) names stay low once all only (low_given given (serial ∷ []) (values_of names) low is)))
