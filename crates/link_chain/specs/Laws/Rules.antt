-- Rules of which none is broken, and rules that are checked group by group.
use Rattle.std.proofs.Common.{◌≡◌, Bool, true, false, cond, List, [], ◌∷◌, ◌++◌, refl, sym, ◌∙◌, Option, None, Some}
use Rattle.std.specs.Prelude.{is_some}
use Rattle.std.specs.List.{AllByRecursion}
use Rattle.std.proofs.lemmas.Bool.{cond-false}
use Rattle.link_chain.specs.Rules.{Rule, first_broken}

abbrev pub NoneBroken : {Fault : Type 0} → List (Rule Fault) → Type 0
NoneBroken rules = AllByRecursion (λ rule. rule.0 ≡ false) rules

of_cond : {Fault : Type 0} (broken : Bool) (fault : Fault) (rest : Option Fault) → cond broken (Some fault) rest ≡ None → (broken ≡ false) × (rest ≡ None)
of_cond true fault rest e = cc
of_cond false fault rest e = (refl, e)

pub none_broken : {Fault : Type 0} (rules : List (Rule Fault)) → first_broken rules ≡ None → NoneBroken rules
none_broken [] e = tt
none_broken (rule ∷ rules) e =
    let head : (rule.0 ≡ false) × (first_broken rules ≡ None) = of_cond rule.0 rule.1 (first_broken rules) e in
    (head.0, none_broken rules head.1)

pub no_fault : {Fault : Type 0} (rules : List (Rule Fault)) → NoneBroken rules → first_broken rules ≡ None
no_fault [] h = refl
no_fault (rule ∷ rules) h = cond-false rule.0 (Some rule.1) (first_broken rules) h.0 ∙ no_fault rules h.1

-- a group that breaks no rule passes on to the next
pub passes : {Fault : Type 0} (xs ys : List (Rule Fault)) → first_broken xs ≡ None → first_broken (xs ++ ys) ≡ first_broken ys
passes [] ys e = refl
passes (rule ∷ xs) ys e = passed rule.0 rule.1 (first_broken xs) (first_broken (xs ++ ys)) (first_broken ys) (passes xs ys) e
  where
    passed : {Fault : Type 0} (b : Bool) (fault : Fault) (own both later : Option Fault) → (own ≡ None → both ≡ later) → cond b (Some fault) own ≡ None → cond b (Some fault) both ≡ later
    passed true fault own both later h e = cc
    passed false fault own both later h e = h e

-- a group that breaks one settles it
pub settles : {Fault : Type 0} (xs ys : List (Rule Fault)) (fault : Fault) → first_broken xs ≡ Some fault → first_broken (xs ++ ys) ≡ Some fault
settles [] ys fault e = cc
settles (rule ∷ xs) ys fault e = settled rule.0 rule.1 (first_broken xs) (first_broken (xs ++ ys)) fault (settles xs ys fault) e
  where
    settled : {Fault : Type 0} (b : Bool) (first : Fault) (own both : Option Fault) (fault : Fault) → (own ≡ Some fault → both ≡ Some fault) →
        cond b (Some first) own ≡ Some fault → cond b (Some first) both ≡ Some fault
    settled true first own both fault h e = e
    settled false first own both fault h e = h e

-- the same, if the question was whether a rule is broken
pub none_if : {X : Type 0} (o : Option X) → is_some o ≡ false → o ≡ None
none_if None e = refl
none_if (Some x) e = cc

pub passes_by : {Fault : Type 0} (broken : Option Fault) (xs ys : List (Rule Fault)) → broken ≡ first_broken xs → is_some broken ≡ false → first_broken (xs ++ ys) ≡ first_broken ys
passes_by broken xs ys e h = passes xs ys (sym e ∙ none_if broken h)

pub settled_by : {Fault : Type 0} (broken : Option Fault) (xs ys : List (Rule Fault)) → broken ≡ first_broken xs → is_some broken ≡ true → broken ≡ first_broken (xs ++ ys)
settled_by None xs ys e h = cc
settled_by (Some fault) xs ys e h = sym (settles xs ys fault (sym e))
