-- From bytes to what images show. Ours. `commits_to image bytes` says what an image's committed bytes are, and
-- `holds bytes state` what they hold.
use Rattle.std.specs.Prelude.{◌≡◌, ◌⊎◌, ℕ, List, ◌++◌}
use Rattle.std.proofs.Common.{inl, inr, ⊎_elim, subst}
use Rattle.disk_model.specs.declared.disk.Disk.{Ghosts as DiskModel}
use Rattle.disk_model.specs.Image.{DiskState, IsImage}
use Rattle.disk_model.specs.Leaving.{LeavesOnly, weakened, and_then}
use Rattle.history.specs.Showing.{ShowsOne, ShowsOnly, ShowsEither, IsAsBefore, Finds}

-- an image commits to one list of bytes at most
abbrev pub CommitsOne : (List ℕ → List ℕ → Type 0) → Type 0
CommitsOne commits_to = (image b c : List ℕ) → commits_to image b → commits_to image c → b ≡ c

-- bytes hold one state at most
abbrev pub HoldsOne : {S : Type 0} → (List ℕ → S → Type 0) → Type 0
HoldsOne {S} holds = (bytes : List ℕ) (s t : S) → holds bytes s → holds bytes t → s ≡ t

-- the image commits to bytes that hold the state
pub record Recovers {S : Type 0} (commits_to : List ℕ → List ℕ → Type 0) (holds : List ℕ → S → Type 0) (image : List ℕ) (s : S) : Type 0 where
  pub bytes : List ℕ
  pub commits : commits_to image bytes
  pub held : holds bytes s

-- the image commits to these bytes, or to these and the pages after them
abbrev pub CommitsEither : (List ℕ → List ℕ → Type 0) → List ℕ → List ℕ → List ℕ → Type 0
CommitsEither commits_to b pages image = commits_to image b ⊎ commits_to image (b ++ pages)

module _ {S : Type 0} (commits_to : List ℕ → List ℕ → Type 0) (holds : List ℕ → S → Type 0) where
  -- an image recovers one state at most
  pub recovers_one : CommitsOne commits_to → HoldsOne holds → ShowsOne (Recovers commits_to holds)
  recovers_one commits_one holds_one image s t at_s at_t =
      let same : at_s.bytes ≡ at_t.bytes = commits_one image at_s.bytes at_t.bytes at_s.commits at_t.commits in
      holds_one at_t.bytes s t (subst (λ (bytes : List ℕ). holds bytes s) same at_s.held) at_t.held

  pub recovers_only : (disk : DiskState) (b : List ℕ) (s : S) → holds b s → ((image : List ℕ) → IsImage disk image → commits_to image b) → ShowsOnly (Recovers commits_to holds) disk s
  recovers_only disk b s held each = λ image is. record { bytes = b; commits = each image is; held = held }

  -- images that commit to the same bytes recover the same
  pub as_committed : CommitsOne commits_to → (before : DiskState) (b source image : List ℕ) → IsImage before source → commits_to source b → commits_to image b → IsAsBefore (Recovers commits_to holds) before image
  as_committed commits_one before b source image is was now = record {
    source = source;
    was = is;
    keeps = λ s shown. record { bytes = b; commits = now; held = subst (λ (bytes : List ℕ). holds bytes s) (commits_one source shown.bytes b shown.commits was) shown.held };
  }

  pub as_before : (before : DiskState) (image : List ℕ) → IsImage before image → IsAsBefore (Recovers commits_to holds) before image
  as_before before image is = record { source = image; was = is; keeps = λ s shown. shown }

  -- an opening finds what the bytes hold that every image now commits to, and that an image before committed to
  pub finds_held : (before now : DiskState) (b source : List ℕ) (s : S) → IsImage before source → commits_to source b → ((image : List ℕ) → IsImage now image → commits_to image b) → holds b s → Finds (Recovers commits_to holds) before now s
  finds_held before now b source s is was each held = record {
    only = recovers_only now b s held each;
    source = source;
    was = is;
    shown = record { bytes = b; commits = was; held = held };
  }

  module _ {D : Type 0} (model : DiskModel D) (old new : D) where
    -- a staging, a sealing, or a making ready
    pub lift_same : (b : List ℕ) (s : S) → holds b s → LeavesOnly model old new (λ image. commits_to image b) → LeavesOnly model old new (λ image. Recovers commits_to holds image s)
    lift_same b s held leaves = weakened model old new _ _ leaves (λ image commits. record { bytes = b; commits = commits; held = held })

    -- a commit of a group's pages
    pub lift_group : (b pages : List ℕ) (s t : S) → holds b s → holds (b ++ pages) t → LeavesOnly model old new (CommitsEither commits_to b pages)
        → LeavesOnly model old new (ShowsEither (Recovers commits_to holds) s t)
    lift_group b pages s t before after leaves = weakened model old new _ _ leaves
        (λ image is. ⊎_elim (λ commits. inl (record { bytes = b; commits = commits; held = before })) (λ commits. inr (record { bytes = b ++ pages; commits = commits; held = after })) is)

    -- a reading, or an opening up to its sync
    pub lift_read : (before : DiskState) → LeavesOnly model old new (IsImage before) → LeavesOnly model old new (IsAsBefore (Recovers commits_to holds) before)
    lift_read before leaves = weakened model old new _ _ leaves (as_before before)

    -- an opening: up to its sync, and then a making ready
    pub lift_opened : CommitsOne commits_to → (mid : D) (before : DiskState) (b source : List ℕ) → IsImage before source → commits_to source b
        → LeavesOnly model old mid (IsImage before) → LeavesOnly model mid new (λ image. commits_to image b) → LeavesOnly model old new (IsAsBefore (Recovers commits_to holds) before)
    lift_opened commits_one mid before b source is was found ready =
        and_then model old mid new _ _ _ found ready (as_before before) (λ image commits. as_committed commits_one before b source image is was commits)
