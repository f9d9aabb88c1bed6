use Rattle.std.proofs.Common.{inl, inr, arith}
use Rattle.feed_run.proofs.laws.records_without_pages_are_run.Goals as goal

pub returns : goal.returns
returns g c = λ waits pages new_pages lines new_lines reply before reached after stops.
    elim stops [
      | inl at_pages ↦ absurd (omega (arith, at_pages.0.1))
      | inr at_line ↦ at_line
    ]
