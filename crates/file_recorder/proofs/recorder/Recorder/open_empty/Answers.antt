use Rattle.std.proofs.Common.{◌≡◌, [], ◌∙◌, ℕ, List, refl, sym, ap, subst, arith}
use Rattle.disk_model.specs.declared.disk.Disk.{Ghosts as DiskModel}
use Rattle.disk_model.specs.Clock.{HasImages}
use Rattle.disk_model.specs.Image.{DiskState, IsImage, IsWithin, settled}
use Rattle.disk_model.specs.Leaving.{LeavesOnly, weakened, started}
use Rattle.disk_model.specs.Torn.{settled_image}
use Rattle.gate_file.specs.Commit.{CommitsTo}
use Rattle.gate_file.specs.CommitLaws.{commits_to, no_pages}
use Rattle.gate_file.specs.Found.{found_bytes}
use Rattle.gate_file.specs.Gate.{EachImage}
use Rattle.link_chain.specs.Recording.{Holds}
use Rattle.history.specs.Showing.{IsAsBefore}
use Rattle.file_recorder.specs.Recovery.{Shows}
use Rattle.file_recorder.specs.Taking.{HoldsChain}
use Rattle.file_recorder.proofs.Opened.{commits_as_before, shows_earlier, images_have, is_opened, is_in_opened, finds, holds_of}
use Rattle.file_recorder.proofs.recorder.Recorder.open_empty.Goals as goal

-- no byte is committed in an empty image
commits_nothing : (image : List ℕ) → image ≡ [] → CommitsTo [] image
commits_nothing image is = commits_to [] [] image no_pages is tt

-- and there is no other one
empty_image : (state : DiskState) (image : List ℕ) → state ≡ settled [] → IsImage state image → image ≡ []
empty_image state image same is =
    let within : IsWithin (settled []) (settled []) = record { synced = refl; unwritten = λ k none. none; least = omega arith; greatest = omega arith } in
    settled_image state [] image (subst (λ (s : DiskState). IsWithin s (settled [])) (sym same) within) is

module _ {D : Type 0} (model : DiskModel D) (disk : D) (same : model.state disk ≡ settled []) (has : HasImages (model.state disk) (model.moment disk) (model.images_since disk)) where
  nothing_done : LeavesOnly model disk disk (CommitsTo [])
  nothing_done = started model disk (CommitsTo []) (λ image since. commits_nothing image (empty_image (model.state disk) image same (has.only_now image since)))

  was_nothing : CommitsTo [] (model.state disk).contents
  was_nothing = commits_nothing (model.state disk).contents (ap (λ s. s.contents) same)

  -- what commits to nothing shows what was shown
  as_before : (new : D) → LeavesOnly model disk new (CommitsTo []) → LeavesOnly model disk new (IsAsBefore Shows (model.state disk))
  as_before new leaves =
      shows_earlier model disk new (model.state disk)
      (weakened model disk new _ _ leaves (λ image now. commits_as_before (model.state disk) [] (model.state disk).contents image has.contents_is_image was_nothing now))

pub returns-in-Err-clause-any_moment_err : goal.returns-in-Err-clause-any_moment_err
returns-in-Err-clause-any_moment_err g c = λ honest.
    let d = g.D.Disk in
    subst (λ new. LeavesOnly d c.args.disk new (CommitsTo [])) (sym c.in-Err.ensures.same) (nothing_done d c.args.disk (c.requires honest) (g.met.D.Disk.laws c.args.disk honest))

pub invariant_of-result : goal.invariant_of-result
invariant_of-result g c =
    let d = g.D.Disk in
    let found = c.in-Ok.found.found in
    let file = c.in-Ok-ready.file in
    let before : d.is_honest file.disk → d.is_honest found.disk = c.in-Ok-ready.ensures.frame.honest.1 in
    let none : found_bytes d.state found ≡ [] = ap (λ f. found_bytes d.state f) c.in-Ok.ensures.found in
    is_opened d file c.in-Ok.found.shape.chain 0
    (ap (λ f. f.failed) c.in-Ok-ready.ensures.ready) (ap (λ f. f.staged) c.in-Ok-ready.ensures.ready) ([], c.in-Ok.ensures.chain)
    (λ now. subst (λ (l : List ℕ). HoldsChain l c.in-Ok.found.shape.chain) (sym (c.in-Ok-ready.ensures.same (before now) ∙ none)) c.in-Ok.ensures.chain)
    (λ now. subst (λ (l : List ℕ). EachImage (d.state file.disk) (CommitsTo l)) (sym (c.in-Ok-ready.ensures.same (before now)))
    (images_have d found.disk file.disk d.state (CommitsTo (found_bytes d.state found)) (g.met.D.Disk.laws file.disk now) (c.in-Ok-ready.ensures.any_moment (before now))))

pub returns-in-Ok-ready-clause-any_moment : goal.returns-in-Ok-ready-clause-any_moment
returns-in-Ok-ready-clause-any_moment g c = λ honest.
    let d = g.D.Disk in
    let found = c.in-Ok.found.found in
    let disk_is : found.disk ≡ c.args.disk = ap (λ f. f.disk) c.in-Ok.ensures.found in
    let none : found_bytes d.state found ≡ [] = ap (λ f. found_bytes d.state f) c.in-Ok.ensures.found in
    let here = subst d.is_honest (sym disk_is) honest in
    subst (λ old. LeavesOnly d old c.in-Ok-ready.file.disk (CommitsTo [])) disk_is
    (subst (λ (l : List ℕ). LeavesOnly d found.disk c.in-Ok-ready.file.disk (CommitsTo l)) none (c.in-Ok-ready.ensures.any_moment here))

pub returns-in-Err-ready-clause-any_moment_err : goal.returns-in-Err-ready-clause-any_moment_err
returns-in-Err-ready-clause-any_moment_err g c = λ honest.
    let d = g.D.Disk in
    let found = c.in-Ok.found.found in
    let disk_is : found.disk ≡ c.args.disk = ap (λ f. f.disk) c.in-Ok.ensures.found in
    let none : found_bytes d.state found ≡ [] = ap (λ f. found_bytes d.state f) c.in-Ok.ensures.found in
    let here = subst d.is_honest (sym disk_is) honest in
    subst (λ old. LeavesOnly d old c.in-Err-ready.fault.1 (CommitsTo [])) disk_is
    (subst (λ (l : List ℕ). LeavesOnly d found.disk c.in-Err-ready.fault.1 (CommitsTo l)) none (c.in-Err-ready.ensures.any_moment_err here))

pub returns-in-Ok-ready-clause-step : goal.returns-in-Ok-ready-clause-step
returns-in-Ok-ready-clause-step g c = λ first w stands closed honest.
    let d = g.D.Disk in
    let found = c.in-Ok.found.found in
    let file = c.in-Ok-ready.file in
    let shape = c.in-Ok.found.shape in
    let disk_is : found.disk ≡ c.args.disk = ap (λ f. f.disk) c.in-Ok.ensures.found in
    let none : found_bytes d.state found ≡ [] = ap (λ f. found_bytes d.state f) c.in-Ok.ensures.found in
    let here = subst d.is_honest (sym disk_is) honest in
    let now = c.in-Ok-ready.ensures.frame.honest.0 here in
    let laws = g.met.D.Disk.laws c.args.disk honest in
    let chain = c.in-Ok.ensures.chain in
    let leaves = returns-in-Ok-ready-clause-any_moment g c honest in
    let each = images_have d c.args.disk file.disk d.state (CommitsTo []) (g.met.D.Disk.laws file.disk now) leaves in
    let opened = c.disks_stand_in_their_world.ensures.opened first w c.args.disk file.disk chain.recording stands (as_before d c.args.disk (c.requires honest) laws file.disk leaves)
    (finds (d.state c.args.disk) (d.state file.disk) [] chain.recording laws.contents_is_image (was_nothing d c.args.disk (c.requires honest) laws) each (holds_of [] shape.chain chain)) in (
      opened.0,
      (closed, opened.2, now),
      is_in_opened d file shape.chain 0 first w opened.0 chain.recording
          (ap (λ f. f.failed) c.in-Ok-ready.ensures.ready) (ap (λ f. f.staged) c.in-Ok-ready.ensures.ready)
          (λ _. subst (λ (l : List ℕ). Holds l chain.recording) (sym (c.in-Ok-ready.ensures.same here ∙ none)) (holds_of [] shape.chain chain)) opened.1,
    )

pub returns-in-Err-ready-clause-step_err : goal.returns-in-Err-ready-clause-step_err
returns-in-Err-ready-clause-step_err g c = λ first w closed honest.
    let d = g.D.Disk in
    let disk_is : c.in-Ok.found.found.disk ≡ c.args.disk = ap (λ f. f.disk) c.in-Ok.ensures.found in (
      closed,
      as_before d c.args.disk (c.requires honest) (g.met.D.Disk.laws c.args.disk honest) c.in-Err-ready.fault.1 (returns-in-Err-ready-clause-any_moment_err g c honest),
      c.in-Err-ready.ensures.frame_err.honest.0 (subst d.is_honest (sym disk_is) honest),
    )
