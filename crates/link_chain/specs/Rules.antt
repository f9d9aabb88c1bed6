-- Rules that are checked in order. The first broken one counts. Ours.
use Rattle.std.specs.Prelude.{Bool, if◌then◌else◌, Option, Some, None, List, [], ◌∷◌}

-- a rule: the test that breaks it, and the fault that is reported then
abbrev pub Rule : Type 0 → Type 0
Rule Fault = Bool × Fault

-- the fault of the first broken rule
abbrev pub first_broken : {Fault : Type 0} → List (Rule Fault) → Option Fault
first_broken [] = None
first_broken (rule ∷ rules) = if rule.0 then Some rule.1 else first_broken rules
