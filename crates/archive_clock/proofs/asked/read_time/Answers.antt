use Rattle.std.proofs.Common.{◌≡◌, ◌∷◌, ◌-◌, List, ℕ, length, take, drop, ap, sym, subst, ◌∙◌, arith}
use Rattle.std.proofs.Math.Seq.{take-length}
use Rattle.archive_clock.specs.Span.{IsSpan}
use Rattle.archive_clock.proofs.asked.read_time.Goals as goal

-- what follows the dash
behind : (text span : List ℕ) → text ≡ 45 ∷ span → take (length text - 1) (drop 1 text) ≡ span
behind text span e =
    let long : length (45 ∷ span) - 1 ≡ length span = omega arith in
    ap (λ (t : List ℕ). take (length t - 1) (drop 1 t)) e ∙ ap (λ n. take n span) long ∙ take-length span

pub returns-else-eq-clause-back : goal.returns-else-eq-clause-back
returns-else-eq-clause-back c span seconds time e some is back =
    c.read_back.ensures.each seconds time
    (subst (λ (t : List ℕ). IsSpan t seconds) (sym (behind c.as_bytes.result.now span (c.as_bytes.ensures.value ∙ e))) is) back
