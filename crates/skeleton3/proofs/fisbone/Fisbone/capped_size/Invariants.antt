use Rattle.std.proofs.Common.{◌≡◌, ◌+◌, ◌-◌, ◌^◌, ◌<◌, min, drop, length}
use Rattle.std.specs.List.{flat_map}
use Rattle.skeleton3.specs.Fields.{field_line}
use Rattle.skeleton3.specs.Fisbone.{fisbone_of, fisbone_bytes_with}
use Rattle.skeleton3.proofs.fisbone.Fisbone.capped_size.Given as goal

-- the size so far and the lines that are left make the whole size
abbrev pub invariant-loop-field : goal.invariant-loop-field
invariant-loop-field l =
    (l.size < 2 ^ 64) ×
    (min (l.size + length (flat_map field_line (drop l.field-index l.fields))) (2 ^ 64 - 1)
    ≡ min (length (fisbone_bytes_with l.fields (fisbone_of l.self))) (2 ^ 64 - 1))
