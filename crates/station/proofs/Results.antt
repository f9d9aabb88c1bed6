-- What is known once it was looked whether a call has failed.
use Rattle.std.proofs.Common.{◌≡◌, Bool, true, false, Result, Ok, Err, is_err, OnOk, OnErr, Option, Some, None, refl, sym, ◌∙◌}

true_false : true ≡ false → ⊥
true_false e = cc

pub ok_of : {A E : Type 0} (P : Type 0) (result : Result A E) (b : Bool) → b ≡ is_err result → b ≡ false → OnOk result P → P
ok_of P (Ok x) b value isnt holds = holds
ok_of P (Err e) b value isnt holds = absurd (true_false (sym value ∙ isnt))

pub err_of : {A E : Type 0} (P : Type 0) (result : Result A E) (b : Bool) → b ≡ is_err result → b ≡ true → OnErr result P → P
err_of P (Ok x) b value is holds = absurd (true_false (sym is ∙ value))
err_of P (Err e) b value is holds = holds

pub none_if : {A : Type 0} (found : Option A) → ((one : A) → found ≡ Some one → ⊥) → found ≡ None
none_if None isnt = refl
none_if (Some one) isnt = absurd (isnt one refl)
