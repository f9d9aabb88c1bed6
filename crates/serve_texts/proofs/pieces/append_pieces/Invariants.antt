use Rattle.std.proofs.Common.{◌≡◌, ◌≤◌, ◌+◌, ◌++◌, ℕ, List, length, drop, vec_len}
use Rattle.std.specs.Prelude.{vec_capacity}
use Rattle.serve_texts.specs.Response.{joined}
use Rattle.serve_texts.proofs.pieces.append_pieces.Given as goal

-- the pieces so far are appended, and the rest is left
abbrev pub invariant-loop-piece : goal.invariant-loop-piece
invariant-loop-piece l = record {
  items : l.out.items ++ joined (drop l.piece-index l.pieces) ≡ l.initial.out.items ++ joined l.pieces;
  kept : (added : List ℕ) × (l.out.items ≡ l.initial.out.items ++ added);
  counted : vec_len l.out + length (joined (drop l.piece-index l.pieces)) ≡ vec_len l.initial.out + length (joined l.pieces);
  capacity : vec_capacity l.initial.out ≤ vec_capacity l.out;
}
