-- What a `GateFile` always holds.
use Rattle.std.proofs.Common.{◌≡◌, ℕ, ◌+◌, ◌<◌, ◌≤◌, ◌^◌, Bool, true, false, List, length, take, sym, subst, arith}
use Rattle.std.proofs.lemmas.Grind.{common_steps}
use Rattle.disk_model.specs.declared.disk.Disk.{Ghosts as DiskModel}
use Rattle.gate_file.specs.Gate.{IsStaged, IsStagedWhole, IsReadyAt}
use Rattle.gate_file.specs.GateFile.{gate_state, IsKept}
use Rattle.gate_file.proofs.Staged.{ready_staged}

pub inside : (contents : List ℕ) (end : ℕ) → end ≡ length (take end contents) → end ≤ length contents
inside contents end is = grind (arith, common_steps)

kept_staged : {D : Type 0} (model : DiskModel D) (disk : D) (end staged : ℕ) (whole : Bool) → end + staged < 2 ^ 63 → (whole ≡ true → 0 < staged)
    → (model.is_honest disk → IsStaged end staged (model.state disk)) → (whole ≡ true → model.is_honest disk → IsStagedWhole end staged (model.state disk)) → IsKept model (gate_state disk end staged whole false)
kept_staged model disk end staged whole short some is is_whole = record {
  short = short;
  some = some;
  front = λ honest. inside (model.state disk).contents end (is honest).long;
  staged = λ good honest. is honest;
  whole = λ good sure honest. is_whole sure honest;
}

pub kept_ready : {D : Type 0} (model : DiskModel D) (disk : D) (end staged : ℕ) (whole : Bool) → end < 2 ^ 63 → staged ≡ 0 → (whole ≡ true → 0 < staged)
    → (model.is_honest disk → IsReadyAt end (model.state disk)) → IsKept model (gate_state disk end staged whole false)
kept_ready model disk end staged whole short none some is =
    kept_staged model disk end staged whole (omega (arith, short, none)) some
    (λ honest. subst (λ (n : ℕ). IsStaged end n (model.state disk)) (sym none) (ready_staged (model.state disk) end (is honest)))
    (λ sure honest. absurd (omega (arith, some sure, none)))

pub not_whole : (staged : ℕ) → false ≡ true → 0 < staged
not_whole staged e = absurd cc
