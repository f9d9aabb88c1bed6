use Rattle.std.proofs.Common.{◌≡◌, ◌+◌, ℕ, Bool, List, cond, drop, get_or, sym, ◌∙◌, ap, arith}
use Rattle.std.specs.Prelude.{nat_lt}
use Rattle.std.proofs.lemmas.Bool.{le-ltb, lt-ltb, cond-true, cond-false}
use Rattle.import_mend.specs.Mended.{ends_some, whole_values}
use Rattle.import_mend.proofs.Values.{whole_start, whole_step}
use Rattle.import_mend.proofs.cutting.whole_values.Goals as goal
use Rattle.import_mend.proofs.cutting.whole_values.Goals.{then-value-lt-FULL_VALUE, else-value-lt-FULL_VALUE}

pub loop-value-init : goal.loop-value-init
loop-value-init c = record { passed = omega arith; within = omega arith; later = whole_start c.args.lacing.now }

pub loop-value-preserved : goal.loop-value-preserved
loop-value-preserved c =
    let lacing : List ℕ = c.args.lacing.now in
    let i : ℕ = c.loop-value.value-index in
    let small : Bool = nat_lt (get_or lacing i 0) 255 in
    let passed : c.loop-value.passed + 1 ≡ i + 1 = omega (arith, c.loop-value.invariant.passed) in
    let counted : c.if-value-lt-FULL_VALUE.count ≡ cond (nat_lt (get_or lacing i 0) 255) (i + 1) c.loop-value.count =
    elim c.if-value-lt-FULL_VALUE.branch [
      | then-value-lt-FULL_VALUE w ↦ w.count-is ∙ passed ∙ sym (cond-true small (i + 1) c.loop-value.count (lt-ltb (get_or lacing i 0) 255 w.if-value-lt-FULL_VALUE.true))
      | else-value-lt-FULL_VALUE w ↦ w.count-is ∙ sym (cond-false small (i + 1) c.loop-value.count (le-ltb (get_or lacing i 0) 255 w.if-value-lt-FULL_VALUE.false))
    ] in
    record {
      passed = passed;
      within = elim c.if-value-lt-FULL_VALUE.branch [
        | then-value-lt-FULL_VALUE w ↦ omega (arith, w.count-is)
        | else-value-lt-FULL_VALUE w ↦ omega (arith, w.count-is, c.loop-value.invariant.within)
      ];
      later = whole_step lacing i 0 c.loop-value.count (whole_values lacing) c.loop-value-test.true c.loop-value.invariant.later
          ∙ ap (cond (ends_some (drop (i + 1) lacing)) (i + 1 + whole_values (drop (i + 1) lacing))) (sym counted);
    }
