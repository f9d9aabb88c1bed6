-- Which lines are told to be safe. Ours.
use Rattle.std.specs.Prelude.{ℕ, List, ◌∷◌, [], ◌++◌, codes, Bool, not, ◌&&◌, nat_eq}
use Rattle.std.specs.Fmt.{decimal}
use Rattle.line_packets.specs.declared.acks.Acks.{Acks}

-- All lines that have come are on the disk, and there are some that weren't told: nothing waits for a commit, the disk
-- hasn't failed, and nothing was lost before.
abbrev pub is_due : Acks → ℕ → Bool → Bool
is_due acks waiting failed = nat_eq waiting 0 && not failed && not acks.lost && not (nat_eq acks.taken acks.told)

abbrev pub kept_line : ℕ → List ℕ
kept_line lines = codes "kept " ++ (decimal lines ++ 10 ∷ [])
