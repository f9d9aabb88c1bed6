-- The streams that are kept, and whether there are some. Nobody needs these to read a contract.
use Rattle.std.proofs.Common.{◌≡◌, ℕ, true, false, List, [], ◌∷◌, length, map, refl, sym, ◌∙◌, ap, arith, inl, inr}
use Rattle.std.specs.Prelude.{nat_eq, not, ◌||◌}
use Rattle.std.specs.List.{list_any}
use Rattle.std.proofs.lemmas.Bool.{ne_eqb, eq-eqb, cases_eq, false≢true}
use Rattle.import_gather.specs.Kept.{KeptStream, has_kept, has_some}

abbrev pub serials : List KeptStream → List ℕ
serials streams = map (λ (stream : KeptStream). stream.serial) streams

-- a stream that is there
pub has_from : (serial : ℕ) (streams : List KeptStream) → list_any (nat_eq serial) (serials streams) ≡ true → has_kept serial streams ≡ true
has_from serial [] e = e
has_from serial (k ∷ streams) e =
    elim (cases_eq k.serial serial) [
      | inl same ↦ ap (λ b. b || has_kept serial streams) (eq-eqb k.serial serial same)
      | inr other ↦
          ap (λ b. b || has_kept serial streams) (ne_eqb k.serial serial other)
          ∙ has_from serial streams (sym (ap (λ b. b || list_any (nat_eq serial) (serials streams)) (ne_eqb serial k.serial (λ f. other (sym f)))) ∙ e)
    ]

pub none_kept : (streams : List KeptStream) → serials streams ≡ [] → streams ≡ []
none_kept [] e = refl
none_kept (k ∷ streams) e = cc

pub some_is : {A : Type 0} (x : A) (list : List A) → has_some (x ∷ list) ≡ true
some_is x list = ap not (ne_eqb (length (x ∷ list)) 0 (λ e. absurd (omega (arith, e))))

pub nothing_in : {A : Type 0} (list : List A) → has_some list ≡ false → list ≡ []
nothing_in [] e = refl
nothing_in (x ∷ list) e = absurd (false≢true (sym e ∙ some_is x list))
