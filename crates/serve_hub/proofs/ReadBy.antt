-- A hub whose file is read elsewhere goes on.
use Rattle.std.proofs.Common.{◌≡◌, ℕ, ◌+◌, Bool, true, false, Option, Some, List, [], ◌++◌, append-nil, refl, sym, ◌∙◌, ap, subst, inl, inr}
use Rattle.std.specs.Prelude.{if◌then◌else◌}
use Rattle.disk_model.specs.declared.disk.Disk.{Ghosts as DiskModel}
use Rattle.gate_file.specs.Commit.{CommitsTo}
use Rattle.gate_file.specs.Gate.{EachImage}
use Rattle.file_recorder.specs.Recorder.{RecorderState, committed, staged}
use Rattle.serve_machine.specs.Hub.{HubState, MayBeFound}
use Rattle.serve_hub.specs.Exchanging.{only_read}
use Rattle.serve_hub.specs.Parts.{HubParts, hub_parts}
use Rattle.serve_hub.specs.Showing.{FindsLinks, Shows}
use Rattle.serve_hub.specs.declared.opening.Lost.{Lost}

some_same : (a b : List ℕ) → ◌≡◌ {A = Option (List ℕ)} (Some a) (Some b) → a ≡ b
some_same a b e = cc

none_if : (failed : Bool) (bytes : List ℕ) → failed ≡ true → [] ≡ (if failed then [] else bytes)
none_if true bytes e = refl
none_if false bytes e = cc

finds : {D : Type 0} (recorder : RecorderState D) (machine : HubState) → FindsLinks machine → FindsLinks (only_read recorder machine)
finds recorder machine linked found may =
    elim may [
      | inl same ↦ linked found (inl same)
      | inr (group, none, same) ↦
          linked found (inl (same ∙ ap (λ (l : List ℕ). machine.committed ++ l) (sym (some_same [] group none)) ∙ append-nil machine.committed))
    ]

module _ {D : Type 0} (model : DiskModel D) where
  pub reads_on : (hub : HubParts D) (lost : Option (Lost D)) (recorder : RecorderState D) (machine : HubState) → Shows model hub machine
      → recorder.file.failed ≡ true → model.is_honest recorder.file.disk → committed model.state recorder ≡ machine.committed
      → EachImage (model.state recorder.file.disk) (CommitsTo machine.committed)
      → Shows model (hub_parts (Some recorder) lost hub.index hub.sessions hub.next hub.most hub.room) (only_read recorder machine)
  reads_on hub lost recorder machine s failed honest same images = record {
    place = record {
      honest = honest;
      has_file = refl;
      committed_is = sym same;
      held_is = none_if recorder.file.failed (staged model.state recorder) failed;
      waiting_is = refl;
      most_is = refl;
      count_is = refl;
      failed_is = sym failed;
      images = λ image is. (machine.committed, inl refl, images image is);
    };
    linked = finds recorder machine s.linked;
    indexed = s.indexed;
    sessions_are = s.sessions_are;
    next_is = s.next_is;
    most_is = s.most_is;
    room_is = s.room_is;
  }
