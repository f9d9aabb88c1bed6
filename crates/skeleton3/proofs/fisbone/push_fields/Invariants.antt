use Rattle.std.proofs.Common.{◌≡◌, ◌+◌, ◌≤◌, ◌++◌, drop, length}
use Rattle.arrayvec.specs.ArrayVec.{array_vec_len}
use Rattle.std.specs.List.{flat_map}
use Rattle.skeleton3.specs.Fields.{field_line}
use Rattle.skeleton3.proofs.fisbone.push_fields.Given as goal

-- what is written and the lines that are left make the whole, and there is room for these lines
abbrev pub invariant-loop-field : goal.invariant-loop-field
invariant-loop-field l =
    (l.packet.items ++ flat_map field_line (drop l.field-index l.fields) ≡ l.initial.packet.items ++ flat_map field_line l.fields) ×
    (array_vec_len l.packet + length (flat_map field_line (drop l.field-index l.fields)) ≤ 5491)
