use Rattle.std.proofs.Common.{◌≡◌, ◌==◌, ℕ, true, List, [], ◌∷◌, length, refl, arith, rules, sym, ◌∙◌}
use Rattle.std.proofs.lemmas.Bool.{eqb-true}
use Rattle.archive_fetch.proofs.fetches.Fetches.has_heard_all.Goals as goal

empty : (bytes : List ℕ) → true ≡ (length bytes == 0) → bytes ≡ []
empty [] e = refl
empty (byte ∷ bytes) e = let none = eqb-true (length (byte ∷ bytes)) 0 (sym e) in absurd (omega (arith, none))

pub returns-then-is_empty-clause-only : goal.returns-then-is_empty-clause-only
returns-then-is_empty-clause-only g c all = (
  c.in-Some.client.now,
  c.in-Some-session.id,
  c.in-Hearing-Some-Heard.heard,
  search rules,
  sym c.unsent.ensures ∙ empty c.unsent.result.now (sym c.if-is_empty.true ∙ c.is_empty.ensures),
  search rules,
  search rules,
  search rules,
)
