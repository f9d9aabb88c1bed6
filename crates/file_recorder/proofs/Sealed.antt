-- A flush and a sealing by one call, as two steps of a history.
use Rattle.std.proofs.Common.{◌≡◌, true, ◌++◌, refl, sym, subst}
use Rattle.std.proofs.lemmas.Grind.{fold-append}
use Rattle.std.specs.List.{fold}
use Rattle.disk_model.specs.declared.disk.Disk.{Ghosts as DiskModel}
use Rattle.disk_model.specs.Clock.{HasImages}
use Rattle.disk_model.specs.Leaving.{LeavesOnly, started}
use Rattle.gate_file.specs.Commit.{CommitsTo, CommitsToEither}
use Rattle.gate_file.specs.Gate.{EachImage}
use Rattle.link_chain.specs.Recording.{Recording, Holds}
use Rattle.chain_rules.specs.Recording.{add}
use Rattle.ogg_command.specs.declared.command.Command.{Command}
use Rattle.history.specs.Recovery.{lift_group, recovers_only}
use Rattle.history.specs.Showing.{ShowsOnly}
use Rattle.history.specs.World.{World, Flushed, Sealed, happens, now_in}
use Rattle.file_recorder.specs.Recovery.{Commits, Shows}
use Rattle.file_recorder.specs.Recorder.{RecorderState, IsIn, committed, staged, IsRecorderStep}

module _ {D : Type 0} (model : DiskModel D) (first : Recording) (w : World Command) (old : RecorderState D) where
  pub flushed_and_sealed : IsIn model first w old → w.is_open ≡ true → model.is_honest old.file.disk → (new : D) → model.is_honest new
      → HasImages (model.state new) (model.moment new) (model.images_since new)
      → LeavesOnly model old.file.disk new (CommitsToEither (committed model.state old) (staged model.state old))
      → EachImage (model.state new) (CommitsTo (committed model.state old ++ staged model.state old))
      → IsRecorderStep model first w Flushed old.file.disk new × IsRecorderStep model first (happens w Flushed) Sealed new new
  flushed_and_sealed is_in opened honest new now has leaves only =
      let holds = is_in.all opened honest in
      let shown : ShowsOnly Shows (model.state new) (fold add (now_in add first w) w.held) =
      recovers_only Commits Holds (model.state new) (committed model.state old ++ staged model.state old) (fold add (now_in add first w) w.held) holds only in
      let same : now_in add first (happens w Flushed) ≡ fold add (now_in add first w) w.held = fold-append add first w.acknowledged w.held in (
        (
          opened,
          (
            lift_group Commits Holds model old.file.disk new (committed model.state old) (staged model.state old) (now_in add first w) (fold add (now_in add first w) w.held) (is_in.kept honest) holds leaves,
            shown,
          ),
          now,
        ),
        (
          refl,
          started model new (λ image. Shows image (now_in add first (happens w Flushed)))
              (λ image since. subst (λ (r : Recording). Shows image r) (sym same) (shown image (has.only_now image since))),
          now,
        ),
      )
