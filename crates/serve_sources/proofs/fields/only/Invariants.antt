use Rattle.std.proofs.Common.{◌≡◌, ◌≤◌, take, map, length, option_copied}
use Rattle.std.specs.Prelude.{option_to_list, IfSome}
use Rattle.httparse.specs.Spans.{header_bytes}
use Rattle.http1.specs.Fields.{values_named}
use Rattle.serve_sources.proofs.fields.only.Given as goal

-- the values so far are the one that was found, or none
abbrev pub invariant-loop-field : goal.invariant-loop-field
invariant-loop-field l =
    (values_named l.name (map (header_bytes l.bytes) (take l.field-index l.fields)) ≡ option_to_list (option_copied l.found))
    × IfSome l.found (λ value. length value.now ≤ length l.bytes)
