-- What an opening finds.
use Rattle.std.proofs.Common.{◌≡◌, ℕ, ◌+◌, arith, true, false, Some, None, List, ◌++◌, length, take, refl, sym, ◌∙◌, ap, subst, inl, inr, append_assoc}
use Rattle.std.proofs.lemmas.List.{take_at}
use Rattle.disk_model.specs.declared.disk.Disk.{Ghosts as DiskModel}
use Rattle.disk_model.specs.Image.{DiskState}
use Rattle.disk_model.specs.Clock.{HasImages}
use Rattle.disk_model.specs.Leaving.{LeavesOnly}
use Rattle.gate_file.specs.CommitLaws.{one_commit, whole_of}
use Rattle.gate_file.specs.Gate.{EachImage, EndsAt}
use Rattle.gate_file.specs.GateFile.{GateState}
use Rattle.history.specs.Showing.{IsAsBefore}
use Rattle.file_recorder.specs.Recorder.{RecorderState, IsRecorder, committed}
use Rattle.file_recorder.specs.Recovery.{Commits as CommitsImage}
use Rattle.serve_machine.specs.Hub.{HubState, MayBeFound, without_file, reopen_step}
use Rattle.serve_hub.specs.Parts.{lost_file}
use Rattle.serve_hub.specs.Showing.{Commits, ShowsFile, ShowsLost, IsOver, KeepsSessions}
use Rattle.serve_hub.proofs.Stepping.{shows_good, staged_none}

-- the machine after a reopening that found these bytes
abbrev found_machine : HubState → List ℕ → HubState
found_machine m found = record (without_file m) { committed = found; in_doubt = None; has_file = true }

zero_sum : (a b : ℕ) → a ≡ 0 → b ≡ 0 → 0 ≡ a + b
zero_sum a b e f = omega (arith, e, f)

-- what may be found begins with what is committed
front_found : (m : HubState) (found tail : List ℕ) → MayBeFound m found → take (length m.committed) (found ++ tail) ≡ m.committed
front_found m found tail may =
    elim may [
      | inl same ↦ ap (λ (l : List ℕ). take (length m.committed) (l ++ tail)) same ∙ take_at m.committed tail (length m.committed) refl
      | inr (group, doubt, same) ↦
          ap (λ (l : List ℕ). take (length m.committed) (l ++ tail)) same
          ∙ ap (λ (l : List ℕ). take (length m.committed) l) (append_assoc m.committed group tail)
          ∙ take_at m.committed (group ++ tail) (length m.committed) refl
    ]

module _ {D : Type 0} (model : DiskModel D) (disk : D) (end : ℕ) (m : HubState) (over : IsOver model disk end m) where
  found : (new : RecorderState D) → HasImages (model.state disk) (model.moment disk) (model.images_since disk) → IsRecorder model new → model.is_honest new.file.disk
      → EndsAt (model.state disk).contents new.file.end → committed model.state new ≡ take new.file.end (model.state disk).contents
      → new.file.failed ≡ false → new.kept ≡ 0 → new.held ≡ 0 → m.most_after_reopening ≡ new.most
      → (after : HubState) × ShowsFile model new after × reopen_step m (Some after.committed) after × KeepsSessions m after
  found new has now honest ends is good kept_is held_is most_is =
      let after = found_machine m (committed model.state new) in
      let (bytes, may, commits) = over.images (model.state disk).contents has.contents_is_image in
      let same : bytes ≡ committed model.state new = one_commit bytes _ (model.state disk).contents commits ends.commits ∙ sym is in (
        after,
        shows_good model new after honest now good refl refl (sym (staged_none model new now good held_is)) (sym held_is) most_is
            (zero_sum new.kept new.held kept_is held_is) refl,
        (subst (λ (l : List ℕ). MayBeFound m l) same may, refl),
        record { sessions = refl; numbers = refl; group = refl; room = refl },
      )

  -- the recorder that was opened, once its group is set
  pub opened : (r new : RecorderState D) (most : ℕ) → new ≡ record r { most = most } → HasImages (model.state disk) (model.moment disk) (model.images_since disk)
      → IsRecorder model new → model.is_honest r.file.disk → EndsAt (model.state disk).contents r.file.end → committed model.state r ≡ take r.file.end (model.state disk).contents
      → r.file.failed ≡ false → r ≡ record r { kept = 0; held = 0; most = 1 } → m.most_after_reopening ≡ most
      → (after : HubState) × ShowsFile model new after × reopen_step m (Some after.committed) after × KeepsSessions m after
  opened r new most set has now honest ends is good fresh most_is =
      let file_is : new.file ≡ r.file = ap (λ (x : RecorderState D). x.file) set in
      found new has now (subst (λ (f : GateState D). model.is_honest f.disk) (sym file_is) honest) (subst (λ (f : GateState D). EndsAt (model.state disk).contents f.end) (sym file_is) ends)
      (subst (λ (f : GateState D). take f.end (model.state f.disk).contents ≡ take f.end (model.state disk).contents) (sym file_is) is)
      (ap (λ (f : GateState D). f.failed) file_is ∙ good)
      (ap (λ (x : RecorderState D). x.kept) set ∙ ap (λ (x : RecorderState D). x.kept) fresh) (ap (λ (x : RecorderState D). x.held) set ∙ ap (λ (x : RecorderState D). x.held) fresh)
      (most_is ∙ sym (ap (λ (x : RecorderState D). x.most) set))

  -- an image as before has what the machine has
  has_found : (image : List ℕ) → IsAsBefore CommitsImage (model.state disk) image → Commits m image
  has_found image earlier =
      let (bytes, may, commits) = over.images earlier.source earlier.was in
      (bytes, may, earlier.keeps bytes commits)

  pub lost : (new : D) → model.is_honest new → HasImages (model.state new) (model.moment new) (model.images_since new)
      → LeavesOnly model disk new (IsAsBefore CommitsImage (model.state disk)) → ShowsLost model (lost_file new end) (without_file m)
  lost new honest has leaves =
      let each : EachImage (model.state new) (Commits m) = λ image is. has_found image (leaves.each image (has.counts_now (model.moment disk) image leaves.later is)) in
      let (bytes, may, commits) = each (model.state new).contents has.contents_is_image in
      record {
        honest = honest;
        has_file = refl;
        committed_is =
            sym (front_found m bytes commits.tail may) ∙ ap (λ (l : List ℕ). take (length m.committed) l) (sym (whole_of bytes (model.state new).contents commits))
            ∙ ap (λ (n : ℕ). take n (model.state new).contents) over.long;
        long = over.long;
        held_is = refl;
        waiting_is = refl;
        most_is = refl;
        count_is = refl;
        images = each;
      }
