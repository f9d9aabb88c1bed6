use Rattle.std.proofs.Common.{◌≡◌, length}
use Rattle.skeleton3.specs.Fields.{fields_of}
use Rattle.skeleton3.proofs.message.next_field.Given as goal

-- the same fields are left
abbrev pub invariant-loop-rest : goal.invariant-loop-rest
invariant-loop-rest l = fields_of l.rest ≡ fields_of l.text

abbrev pub decreases-loop-rest : goal.decreases-loop-rest
decreases-loop-rest l = length l.rest
