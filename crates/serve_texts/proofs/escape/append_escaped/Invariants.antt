use Rattle.std.proofs.Common.{◌≡◌, ◌≤◌, ◌+◌, ◌++◌, ℕ, List, length, drop, vec_len}
use Rattle.std.specs.Prelude.{vec_capacity}
use Rattle.serve_texts.specs.Escape.{escaped}
use Rattle.serve_texts.proofs.escape.append_escaped.Given as goal

-- the bytes so far are appended, and the rest is left
abbrev pub invariant-loop-byte : goal.invariant-loop-byte
invariant-loop-byte l = record {
  items : l.out.items ++ escaped (drop l.byte-index l.text) ≡ l.initial.out.items ++ escaped l.text;
  kept : (added : List ℕ) × (l.out.items ≡ l.initial.out.items ++ added);
  counted : vec_len l.out + length (escaped (drop l.byte-index l.text)) ≡ vec_len l.initial.out + length (escaped l.text);
  capacity : vec_capacity l.initial.out ≤ vec_capacity l.out;
}
