-- A file that was read.
use Rattle.std.proofs.Common.{◌≡◌, ℕ, ◌≤◌, Option, Some, List, [], ◌++◌, take, sym, ◌∙◌, ap, subst}
use Rattle.std.specs.Prelude.{if◌then◌else◌}
use Rattle.std.specs.List.{fold}
use Rattle.disk_model.specs.declared.disk.Disk.{Ghosts as DiskModel}
use Rattle.disk_model.specs.Image.{DiskState, IsImage}
use Rattle.disk_model.specs.Leaving.{weakened}
use Rattle.gate_file.specs.Gate.{EachImage, staged_in}
use Rattle.gate_file.specs.Reading.{OnlyReads}
use Rattle.link_chain.specs.Recording.{Recording, Holds}
use Rattle.chain_rules.specs.Recording.{add}
use Rattle.history.specs.Showing.{IsAsBefore}
use Rattle.history.specs.World.{World, now_in}
use Rattle.ogg_command.specs.declared.command.Command.{Command}
use Rattle.file_recorder.specs.Recorder.{RecorderState, IsIn, over_disk}
use Rattle.file_recorder.specs.Recovery.{Shows as ShowsImage}
use Rattle.serve_machine.specs.Hub.{HubState, Session}
use Rattle.serve_hub.specs.Images.{IfFile, Reads}
use Rattle.serve_hub.specs.Showing.{Commits, ShowsFile}

pub if_both : {R : Type 0} (P : R → R → Type 0) (old new : Option R) (a b : R) → old ≡ Some a → new ≡ Some b → P a b → IfFile P old new
if_both P old new a b e f p = subst (λ (o : Option _). IfFile P o new) (sym e) (subst (λ (o : Option _). IfFile P (Some a) o) (sym f) p)

module _ {D : Type 0} (model : DiskModel D) where
  -- over a disk in the same state
  over : (disk : D) (old : RecorderState D) (m : HubState) (left : List Session) → ShowsFile model old m → model.is_honest disk → model.state disk ≡ model.state old.file.disk
      → ShowsFile model (over_disk disk old) (record m { sessions = left })
  over disk old m left s honest same = record {
    honest = honest;
    has_file = s.has_file;
    committed_is = s.committed_is ∙ ap (λ (d : DiskState). take old.file.end d.contents) (sym same);
    held_is = s.held_is ∙ ap (λ (d : DiskState). if old.file.failed then [] else staged_in old.file.end old.file.staged d.contents) (sym same);
    waiting_is = s.waiting_is;
    most_is = s.most_is;
    count_is = s.count_is;
    failed_is = s.failed_is;
    images = subst (λ (d : DiskState). EachImage d (Commits m)) (sym same) s.images;
  }

  pub still_shows : (old new : RecorderState D) (m : HubState) (left : List Session) → ShowsFile model old m → model.is_honest new.file.disk
      → model.state new.file.disk ≡ model.state old.file.disk → new ≡ over_disk new.file.disk old → ShowsFile model new (record m { sessions = left })
  still_shows old new m left s honest same is =
      subst (λ (r : RecorderState D). ShowsFile model r (record m { sessions = left })) (sym is) (over new.file.disk old m left s honest same)

  stands : (disk : D) (old : RecorderState D) (first : Recording) (w : World Command) → IsIn model first w old → model.is_honest old.file.disk → model.state disk ≡ model.state old.file.disk
      → IsIn model first w (over_disk disk old)
  stands disk old first w s honest same = record {
    failed = s.failed;
    none = s.none;
    count = s.count;
    kept = λ _. subst (λ (d : DiskState). Holds (take old.file.end d.contents) (now_in add first w)) (sym same) (s.kept honest);
    all = λ is _. subst (λ (d : DiskState). Holds (take old.file.end d.contents ++ staged_in old.file.end old.file.staged d.contents) (fold add (now_in add first w) w.held)) (sym same) (s.all is honest);
  }

  pub was_read : (old new : RecorderState D) → OnlyReads model old.file.disk new.file.disk → new ≡ over_disk new.file.disk old
      → model.failures old.file.disk ≤ model.failures new.file.disk → Reads model old new
  was_read old new only is later = record {
    only = only;
    same = is;
    step = λ first w there honest. (
      (
        tt,
        weakened model old.file.disk new.file.disk (IsImage (model.state old.file.disk)) (IsAsBefore ShowsImage (model.state old.file.disk)) (only.any_moment honest)
            (λ image now. record { source = image; was = now; keeps = λ s shows. shows }),
        only.honest.0 honest,
      ),
      subst (λ (r : RecorderState D). IsIn model first w r) (sym is) (stands new.file.disk old first w there honest (only.same honest)),
    );
    later = later;
  }
