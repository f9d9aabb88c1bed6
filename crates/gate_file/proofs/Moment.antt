-- A disk's contents, as an image of this moment.
use Rattle.std.proofs.Common.{ℕ, List, ◌≡◌, ◌≤◌, ◌<◌, ◌-◌, ◌^◌, inl, inr, ⊎_elim, arith}
use Rattle.std.proofs.Math.Nat.{eq-or-lt_of_le}
use Rattle.disk_model.specs.Fault.{Rises}
use Rattle.disk_model.specs.declared.disk.Disk.{Ghosts as DiskModel}
use Rattle.disk_model.specs.Clock.{HasImages}
use Rattle.disk_model.specs.Leaving.{LeavesOnly}

-- what each image since a moment has, the contents have now
pub contents_have : {D : Type 0} (model : DiskModel D) (old new : D) (P : List ℕ → Type 0)
    → HasImages (model.state new) (model.moment new) (model.images_since new) → LeavesOnly model old new P → P (model.state new).contents
contents_have model old new P has run = run.each _ (has.counts_now _ _ run.later has.contents_is_image)

-- what rises between two moments rises from an earlier one to a later one
pub rises_over : (first before now last : ℕ) → first ≤ before → before ≤ now → now ≤ last → Rises before now → Rises first last
rises_over first before now last le later on rises =
    ⊎_elim
    (λ (same : first ≡ last). inr (⊎_elim (λ (less : before < now). omega (arith, same, le, less, on)) (λ (top : now ≡ 2 ^ 64 - 1). omega (arith, same, le, later, on, top)) rises))
    inl
    (eq-or-lt_of_le (omega (arith, le, later, on)))
