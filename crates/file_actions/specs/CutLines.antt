-- The lines of `cut`, each with its line feed. They are ours.
use Rattle.std.specs.Prelude.{◌≡◌, ℕ, List, ◌++◌, codes}
use Rattle.std.specs.Fmt.{decimal}
use Rattle.archive_clock.specs.Told.{IsTimeText}
use Rattle.file_actions.specs.Lines.{line_end}
use Rattle.file_actions.specs.declared.cut_lines.Told.{Told}

-- FILES files LINKS links BYTES bytes
abbrev pub counts_text : Told → List ℕ
counts_text told =
    decimal told.files ++ (codes " files " ++ (decimal told.links ++ (codes " links " ++ (decimal told.bytes ++ (codes " bytes" ++ line_end)))))

-- cut FROM TO, and then this
abbrev pub times_text : List ℕ → List ℕ → List ℕ → List ℕ
times_text from to rest = codes "cut " ++ (from ++ (codes " " ++ (to ++ (codes " " ++ rest))))

-- the times of a cut are told, and then this
pub record IsCutLine (told : Told) (rest text : List ℕ) : Type 0 where
  pub from : List ℕ
  pub to : List ℕ
  pub is_from : IsTimeText told.from from
  pub is_to : IsTimeText told.to to
  pub text_is : text ≡ times_text from to rest

-- nothing from FROM to TO
pub record IsNothingLine (from to : ℕ) (text : List ℕ) : Type 0 where
  pub begin : List ℕ
  pub end : List ℕ
  pub is_begin : IsTimeText from begin
  pub is_end : IsTimeText to end
  pub text_is : text ≡ codes "nothing from " ++ (begin ++ (codes " to " ++ (end ++ line_end)))
