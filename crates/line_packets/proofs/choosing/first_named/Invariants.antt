use Rattle.std.proofs.Common.{◌≡◌}
use Rattle.line_packets.specs.Choosing.{first_named}
use Rattle.line_packets.proofs.choosing.first_named.Given as goal

-- the fields so far have other names
abbrev pub invariant-loop-name : goal.invariant-loop-name
invariant-loop-name l =
    (goal.iterator-loop-name).can_next l.name-iterator ×
    (goal.iterator-loop-name).is_finite l.name-iterator ×
    (first_named l.name-iterator ≡ first_named l.fn.fields)
