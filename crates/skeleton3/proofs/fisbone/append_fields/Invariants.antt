use Rattle.std.proofs.Common.{◌≡◌, ◌+◌, ◌≤◌, ◌++◌, drop, length, vec_len, vec_capacity}
use Rattle.std.specs.List.{flat_map}
use Rattle.skeleton3.specs.Fields.{field_line}
use Rattle.skeleton3.proofs.fisbone.append_fields.Given as goal

-- what is written and the lines that are left make the whole, and there is room for these lines
abbrev pub invariant-loop-field : goal.invariant-loop-field
invariant-loop-field l =
    (l.out.items ++ flat_map field_line (drop l.field-index l.fields) ≡ l.initial.out.items ++ flat_map field_line l.fields) ×
    (vec_len l.out + length (flat_map field_line (drop l.field-index l.fields)) ≤ vec_capacity l.out)
