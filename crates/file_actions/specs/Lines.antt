-- The lines of `list` and `verify`, each with its line feed. They are ours.
use Rattle.std.specs.Prelude.{◌≡◌, ℕ, List, [], ◌∷◌, ◌++◌, codes}
use Rattle.std.specs.Fmt.{decimal}
use Rattle.archive_clock.specs.Told.{IsTimeText}
use Rattle.archive_reading.specs.declared.span.Span.{Span}

abbrev pub line_end : List ℕ
line_end = 10 ∷ []

-- a number, and then this
abbrev pub number_then : ℕ → List ℕ → List ℕ
number_then number rest = codes " " ++ (decimal number ++ rest)

-- a time that is told, and then this
abbrev pub told_then : List ℕ → List ℕ → List ℕ
told_then told rest = codes " " ++ (told ++ rest)

-- a file's number, its times and its bytes, and then this
abbrev pub file_front : ℕ → List ℕ → List ℕ → ℕ → List ℕ → List ℕ
file_front number begin end bytes rest =
    codes "file" ++ number_then number (told_then begin (told_then end (number_then bytes (codes " " ++ rest))))

-- file NUMBER BEGIN END BYTES NAME
pub record IsFileLine (number : ℕ) (span : Span) (bytes : ℕ) (name text : List ℕ) : Type 0 where
  pub begin : List ℕ
  pub end : List ℕ
  pub is_begin : IsTimeText span.begin begin
  pub is_end : IsTimeText span.end end
  pub text_is : text ≡ file_front number begin end bytes (name ++ line_end)

-- gap BEGIN END
pub record IsGapLine (from to : ℕ) (text : List ℕ) : Type 0 where
  pub begin : List ℕ
  pub end : List ℕ
  pub is_begin : IsTimeText from begin
  pub is_end : IsTimeText to end
  pub text_is : text ≡ codes "gap" ++ told_then begin (told_then end line_end)

-- damaged NAME, and what is wrong
abbrev pub damaged_line : List ℕ → List ℕ → List ℕ
damaged_line name what = codes "damaged " ++ (name ++ (codes " " ++ what))

-- bytes follow the last page of a file that has ended, or such that no stop leaves them
abbrev pub tail_what : ℕ → ℕ → List ℕ
tail_what end tail = codes "tail" ++ number_then end (number_then tail line_end)

-- the file before isn't there, with which this one goes on
abbrev pub without_what : ℕ → List ℕ
without_what number = codes "without" ++ number_then number line_end

-- at this byte of the times no line stands that may follow
abbrev pub line_what : ℕ → List ℕ
line_what at = codes "line" ++ number_then at line_end

-- at this byte of the times stands a line whose offset is none between two pages
abbrev pub page_what : ℕ → List ℕ
page_what at = codes "page" ++ number_then at line_end

-- two files have the number
abbrev pub twice_line : ℕ → List ℕ
twice_line number = codes "twice" ++ number_then number line_end

-- verified FILES LINKS BYTES FAULTS
abbrev pub verified_line : ℕ → ℕ → ℕ → ℕ → List ℕ
verified_line files links bytes faults =
    codes "verified" ++ number_then files (number_then links (number_then bytes (number_then faults line_end)))

-- how far it has come, at a terminal
abbrev pub progress_line : ℕ → ℕ → ℕ → List ℕ
progress_line done total seconds =
    decimal done ++ (codes " of" ++ number_then total (codes " bytes," ++ number_then seconds (codes " s left" ++ line_end)))
