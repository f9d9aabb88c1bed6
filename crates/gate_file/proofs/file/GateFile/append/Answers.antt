use Rattle.std.proofs.Common.{◌≡◌, ap, ◌∙◌, arith}
use Rattle.gate_file.specs.Gate.{pages_in}
use Rattle.gate_file.proofs.Kept.{kept_ready}
use Rattle.gate_file.proofs.Staged.{grown_only}
use Rattle.gate_file.proofs.file.GateFile.append.Goals as goal

pub invariant_of-self-2 : goal.invariant_of-self-2
invariant_of-self-2 g c =
    let none : c.self.inside.staged ≡ 0 = ap (λ f. f.staged) c.self.view_is ∙ c.requires.none in
    kept_ready g.D.Disk _ _ _ _ (omega (arith, c.in_ok-append_pages.ensures.short)) none c.self.invariant.some
    (λ now. (c.in_ok-append_pages.ensures.grown (c.append_pages.ensures.frame.honest.1 now)).ready)

pub returns-clause-only : goal.returns-clause-only
returns-clause-only g c = rw (← c.self.view_is) (λ honest. grown_only (pages_in c.args.bytes.now) _ _ _ _ (c.in_ok-append_pages.ensures.grown honest))
