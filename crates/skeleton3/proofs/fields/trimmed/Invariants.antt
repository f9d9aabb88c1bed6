use Rattle.std.proofs.Common.{◌≡◌, length}
use Rattle.skeleton3.specs.Fields.{without_front_blanks, without_end_blanks, trimmed}
use Rattle.skeleton3.proofs.fields.trimmed.Given as goal

abbrev pub invariant-loop-rest : goal.invariant-loop-rest
invariant-loop-rest l = without_front_blanks l.rest ≡ without_front_blanks l.text

abbrev pub decreases-loop-rest : goal.decreases-loop-rest
decreases-loop-rest l = length l.rest

abbrev pub invariant-loop-rest-2 : goal.invariant-loop-rest-2
invariant-loop-rest-2 l = without_end_blanks l.rest ≡ trimmed l.text

abbrev pub decreases-loop-rest-2 : goal.decreases-loop-rest-2
decreases-loop-rest-2 l = length l.rest
