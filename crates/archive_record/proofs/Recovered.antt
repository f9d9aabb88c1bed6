-- How an archive goes on after its disk has failed.
use Rattle.std.proofs.Common.{◌≡◌, ◌⊎◌, inl, inr, ℕ, Option, None, List, subst}
use Rattle.disk_model.specs.declared.disk.Disk.{Ghosts as DiskModel}
use Rattle.archive_folder.specs.declared.names.FileName.{FileName}
use Rattle.import_record.specs.declared.answering.Answered.{Answered}
use Rattle.import_record.specs.declared.reading.ImportRun.{ImportRun}
use Rattle.archive_record.specs.Changing.{IsReopened, IsSetAside}
use Rattle.archive_record.specs.declared.newest.Newest.{Newest}

module _ {D : Type 0} (model : DiskModel D) where
  -- a bound that is set still, if it was
  pub aside_within : (bound other : Option ℕ) (serials : List ℕ) (old new : ImportRun) (answered : Answered) (now : Option (Newest D))
      → (bound ≡ None → other ≡ None) → IsSetAside model other serials old new answered now → IsSetAside model bound serials old new answered now
  aside_within bound other serials old new answered now unset aside = record {
    again = aside.again;
    resumes = aside.resumes;
    input = aside.input;
    begun = record {
      name = aside.begun.name;
      recorder = aside.begun.recorder;
      works = aside.begun.works;
      unwritten = λ none. aside.begun.unwritten (unset none);
      runs = aside.begun.runs;
    };
  }

  pub recovered : (name other : FileName) (bound still : Option ℕ) (serials : List ℕ) (old new : ImportRun) (now : Option (Newest D))
      → other ≡ name → (bound ≡ None → still ≡ None) → (answered : Answered)
      → IsReopened model other old new answered now ⊎ IsSetAside model still serials old new answered now
      → IsReopened model name old new answered now ⊎ IsSetAside model bound serials old new answered now
  recovered name other bound still serials old new now same unset answered (inl opened) =
      inl (subst (λ (n : FileName). IsReopened model n old new answered now) same opened)
  recovered name other bound still serials old new now same unset answered (inr aside) =
      inr (aside_within bound still serials old new answered now unset aside)
