-- What is known of a file whose disk has failed. Ours.
use Rattle.std.specs.Prelude.{◌≡◌, ⊤, IfOk, Option, Some, None}
use Rattle.archive_record.specs.declared.newest.Newest.{Newest}
use Rattle.archive_record.specs.declared.recovery.Failed.{Failed}

-- The newest file, if there was one, is with the folder: its name is known, its serials, and how much of it is committed.
abbrev pub IsGivenBack : {D : Type 0} → Option (Newest D) → Option Failed → Type 0
IsGivenBack None None = ⊤
IsGivenBack None (Some failed) = ⊥
IsGivenBack (Some newest) None = ⊥
IsGivenBack (Some newest) (Some failed) =
    (failed.name ≡ newest.name) × IfOk failed.serials (λ serials. serials.items ≡ newest.recorder.chain.serials)
    × (failed.end ≡ newest.recorder.file.end)
