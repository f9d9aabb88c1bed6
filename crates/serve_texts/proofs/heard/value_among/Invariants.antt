use Rattle.std.proofs.Common.{◌≡◌}
use Rattle.serve_texts.specs.Heard.{value_among}
use Rattle.serve_texts.proofs.heard.value_among.Given as goal

-- the lines that are left have what is looked for
abbrev pub invariant-loop-left : goal.invariant-loop-left
invariant-loop-left l = value_among l.left l.name l.rest ≡ value_among l.lines l.name l.text

abbrev pub decreases-loop-left : goal.decreases-loop-left
decreases-loop-left l = l.left
