-- What holds of a writer's bytes. These are laws, to be cited.
use Rattle.std.proofs.Common.{◌≡◌, ℕ, suc, ◌+◌, ◌≤◌, ◌<◌, Option, List, [], ◌∷◌, ◌++◌, length, take, sym, ◌∙◌, ap, subst, arith, length-append}
use Rattle.std.specs.Io.KnownBytes.{Appends}
use Rattle.std.proofs.KnownBytes.{Appends-trans}
use Rattle.std.proofs.lemmas.List.{take-append-le}
use Rattle.ogg_page.specs.Output.{WritesPrefix}

front_of : (written more : List ℕ) (n : ℕ) → take (length written + n) (written ++ more) ≡ written ++ take n more
front_of [] more n = ap (λ k. take k more) (let none : 0 + n ≡ n = omega arith in none)
front_of (byte ∷ written) more n =
    let one : length (byte ∷ written) + n ≡ suc (length written + n) = omega arith in
    ap (λ k. take k (byte ∷ written ++ more)) one ∙ ap (λ l. byte ∷ l) (front_of written more n)

-- what was written, and then a front of the next part, are a front of all
pub front_part : (all written part rest : List ℕ) (n : ℕ) → all ≡ written ++ (part ++ rest) → n ≤ length part → take (length written + n) all ≡ written ++ take n part
front_part all written part rest n e le =
    ap (take (length written + n)) e ∙ front_of written (part ++ rest) n ∙ ap (λ l. written ++ l) (take-append-le n part rest le)

-- after what was written, a prefix of the next part is a prefix of the whole text
pub prefix_on : (old mid now : Option (List ℕ)) (text written part rest : List ℕ) → text ≡ written ++ (part ++ rest) → Appends old mid written → WritesPrefix mid now part
    → WritesPrefix old now text
prefix_on old mid now text written part rest e before (n, le, more) =
    let front : take (length written + n) text ≡ written ++ take n part = front_part text written part rest n e le in (
      length written + n,
      omega (arith, le, ap length e, length-append written (part ++ rest), length-append part rest),
      subst (Appends old now) (sym front) (Appends-trans old mid now written (take n part) before more),
    )
