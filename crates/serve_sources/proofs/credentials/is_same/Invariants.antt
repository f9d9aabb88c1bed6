use Rattle.std.proofs.Common.{◌≡◌, ◌↔◌, take}
use Rattle.serve_sources.proofs.credentials.is_same.Given as goal

-- there is a difference if the bytes so far differ
abbrev pub invariant-loop-i : goal.invariant-loop-i
invariant-loop-i l = (l.difference ≡ 0) ↔ (take l.i l.given ≡ take l.i l.kept)
