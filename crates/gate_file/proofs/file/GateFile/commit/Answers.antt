use Rattle.std.proofs.Common.{refl, arith}
use Rattle.gate_file.proofs.Kept.{kept_ready, not_whole}
use Rattle.gate_file.proofs.Staged.{grown_only}
use Rattle.gate_file.proofs.file.GateFile.commit.Goals as goal

pub invariant_of-self-2 : goal.invariant_of-self-2
invariant_of-self-2 g c =
    kept_ready g.D.Disk _ _ 0 _ (omega (arith, c.self.invariant.short)) refl (not_whole 0)
    (λ now. (c.in_ok-commit_staged.ensures.grown (c.commit_staged.ensures.frame.honest.1 now)).ready)

pub returns-clause-only : goal.returns-clause-only
returns-clause-only g c = rw (← c.self.view_is) (λ honest. grown_only _ _ _ _ _ (c.in_ok-commit_staged.ensures.grown honest))
