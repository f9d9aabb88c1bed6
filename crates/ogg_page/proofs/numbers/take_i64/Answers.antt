use Rattle.std.proofs.Common.{◌∙◌, ap, ◌++◌, List, ℕ, to_z, of_z}
use Rattle.std.specs.Int.{w64}
use Rattle.std.proofs.lemmas.Int.{of_z-to_z}
use Rattle.ogg_page.specs.Laws.NumberBytes.{from_u64}
use Rattle.ogg_page.proofs.numbers.take_i64.Goals as goal

pub returns-clause-value : goal.returns-clause-value
returns-clause-value c =
    let n : ℕ = c.take_u64-number.result.0 in
    let rest : List ℕ = c.take_u64-number.result.1.now in
    c.take_u64-number.ensures.value
    ∙ ap (λ l. l ++ rest)
    (from_u64 n (to_z w64 (of_z w64 c.cast_signed.result)) c.take_u64-number.ensures.fits
    (ap (λ v. to_z w64 (of_z w64 v)) c.cast_signed.ensures ∙ ap (to_z w64) (of_z-to_z w64 n c.take_u64-number.ensures.fits)))
