-- What an opening leaves, and what it finds.
use Rattle.std.proofs.Common.{[], ◌≡◌, ℕ, Bool, false, List, ◌++◌, refl, sym, ◌∙◌, ap, subst, arith, append-nil}
use Rattle.disk_model.specs.declared.disk.Disk.{Ghosts as DiskModel}
use Rattle.disk_model.specs.Image.{DiskState, IsImage}
use Rattle.disk_model.specs.Clock.{HasImages}
use Rattle.disk_model.specs.Leaving.{LeavesOnly, and_then, weakened}
use Rattle.gate_file.specs.Commit.{CommitsTo}
use Rattle.gate_file.specs.CommitLaws.{one_commit}
use Rattle.gate_file.specs.Gate.{EachImage}
use Rattle.gate_file.specs.GateFile as G
use Rattle.gate_file.specs.GateFile.{GateState}
use Rattle.link_chain.specs.ChainState.{ChainState}
use Rattle.link_chain.specs.Recording.{Recording, Holds}
use Rattle.chain_rules.specs.Recording.{add}
use Rattle.ogg_command.specs.declared.command.Command.{Command}
use Rattle.history.specs.Showing.{IsAsBefore, Finds}
use Rattle.history.specs.World.{World, Opened, happens, now_in}
use Rattle.file_recorder.specs.Recovery.{Commits, Shows}
use Rattle.file_recorder.specs.Taking.{HoldsChain, IsWholeChain}
use Rattle.file_recorder.specs.Recorder.{IsRecorder, IsIn, recorder_state}

-- ---- images as before
pub as_before : (before : DiskState) (image : List ℕ) → IsImage before image → IsAsBefore Commits before image
as_before before image is = record { source = image; was = is; keeps = λ bytes commits. commits }

pub commits_as_before : (before : DiskState) (b source image : List ℕ) → IsImage before source → CommitsTo b source → CommitsTo b image → IsAsBefore Commits before image
commits_as_before before b source image is was now = record {
  source = source;
  was = is;
  keeps = λ bytes commits. subst (λ (l : List ℕ). CommitsTo l image) (one_commit b bytes source was commits) now;
}

shows_as_before : (before : DiskState) (image : List ℕ) → IsAsBefore Commits before image → IsAsBefore Shows before image
shows_as_before before image is = record {
  source = is.source;
  was = is.was;
  keeps = λ recording shown. record { bytes = shown.bytes; commits = is.keeps shown.bytes shown.commits; held = shown.held };
}

module _ {D : Type 0} (model : DiskModel D) (old new : D) where
  pub shows_earlier : (before : DiskState) → LeavesOnly model old new (IsAsBefore Commits before) → LeavesOnly model old new (IsAsBefore Shows before)
  shows_earlier before leaves = weakened model old new _ _ leaves (shows_as_before before)

  pub images_earlier : (before : DiskState) → LeavesOnly model old new (IsImage before) → LeavesOnly model old new (IsAsBefore Commits before)
  images_earlier before leaves = weakened model old new _ _ leaves (as_before before)

  -- up to its sync, and then a making ready
  pub opened_earlier : (mid : D) (before : DiskState) (b contents : List ℕ) → IsImage before before.contents → contents ≡ before.contents → CommitsTo b contents → LeavesOnly model old mid (IsImage before)
      → LeavesOnly model mid new (CommitsTo b) → LeavesOnly model old new (IsAsBefore Commits before)
  opened_earlier mid before b contents is same was found ready =
      and_then model old mid new _ _ _ found ready (as_before before)
      (λ image commits. commits_as_before before b before.contents image is (subst (λ (l : List ℕ). CommitsTo b l) same was) commits)

  -- what each image since a moment has, each image has now
  pub images_have : (state : D → DiskState) (P : List ℕ → Type 0) → HasImages (state new) (model.moment new) (model.images_since new) → LeavesOnly model old new P → EachImage (state new) P
  images_have state P has leaves = λ image is. leaves.each image (has.counts_now (model.moment old) image leaves.later is)

-- ---- a recorder with no command that waits
pub nothing_in : {D : Type 0} (state : D → DiskState) (file : GateState D) → file.staged ≡ 0 → G.staged_bytes state file ≡ []
nothing_in state file none = ap (λ (n : ℕ). G.staged_bytes state (record file { staged = n })) none

pub none_staged : {D : Type 0} (state : D → DiskState) (file : GateState D) → file.staged ≡ 0 → G.committed state file ++ G.staged_bytes state file ≡ G.committed state file
none_staged state file none = ap (λ (n : ℕ). G.committed state file ++ G.staged_bytes state (record file { staged = n })) none ∙ append-nil (G.committed state file)

module _ {D : Type 0} (model : DiskModel D) (file : GateState D) (chain : ChainState) (tail : ℕ) where
  pub is_opened : file.failed ≡ false → file.staged ≡ 0 → IsWholeChain chain → (model.is_honest file.disk → HoldsChain (G.committed model.state file) chain)
      → (model.is_honest file.disk → EachImage (model.state file.disk) (CommitsTo (G.committed model.state file))) → IsRecorder model (recorder_state file chain tail 0 0 1)
  is_opened good none whole all images = record {
    few = omega arith;
    count = omega arith;
    fits = omega arith;
    chain = whole;
    none = λ failed. refl;
    empty = λ still nothing. none;
    whole = λ still some. absurd (omega (arith, some));
    all = λ still honest. subst (λ (l : List ℕ). HoldsChain l chain) (sym (none_staged model.state file none)) (all honest);
    images = λ still honest. images honest;
  }

  pub is_in_opened : (first : Recording) (w : World Command) (found : Bool) (recording : Recording) → file.failed ≡ false → file.staged ≡ 0 → (model.is_honest file.disk → Holds (G.committed model.state file) recording)
      → recording ≡ now_in add first (happens w (Opened found)) → IsIn model first (happens w (Opened found)) (recorder_state file chain tail 0 0 1)
  is_in_opened first w found recording good none holds is = record {
    failed = good;
    none = λ opened. refl;
    count = λ opened. refl;
    kept = λ honest. subst (λ (r : Recording). Holds (G.committed model.state file) r) is (holds honest);
    all = λ opened honest. subst (λ (l : List ℕ). Holds l (now_in add first (happens w (Opened found)))) (sym (none_staged model.state file none))
        (subst (λ (r : Recording). Holds (G.committed model.state file) r) is (holds honest));
  }

-- what is found: each image now commits to it, and an image before did
pub finds : (before now : DiskState) (b : List ℕ) (recording : Recording) → IsImage before before.contents → CommitsTo b before.contents → EachImage now (CommitsTo b) → Holds b recording → Finds Shows before now recording
finds before now b recording is was each holds = record {
  only = λ image here. record { bytes = b; commits = each image here; held = holds };
  source = before.contents;
  was = is;
  shown = record { bytes = b; commits = was; held = holds };
}

pub holds_of : (bytes : List ℕ) (chain : ChainState) → (h : HoldsChain bytes chain) → Holds bytes h.recording
holds_of bytes chain h = (h.links, h.are_links, h.holds)
