-- Spans of time that a person writes. Ours.
use Rattle.std.specs.Prelude.{◌≡◌, ℕ, ◌*◌, ◌^◌, ◌<◌, List, [], ◌∷◌, ◌++◌, codes, if◌then◌else◌, ◌==◌}
use Rattle.std.specs.Fmt.{decimal}

-- the seconds of one s, m, h, d or w; any other letter has none
abbrev pub seconds_in : ℕ → ℕ
seconds_in letter =
    if letter == 115 then 1
    else (if letter == 109 then 60
    else (if letter == 104 then 3600
    else (if letter == 100 then 86400
    else (if letter == 119 then 604800 else 0))))

-- a number from 1 on, and a letter
pub record IsSpan (text : List ℕ) (seconds : ℕ) : Type 0 where
  pub number : ℕ
  pub letter : ℕ
  pub text_is : text ≡ decimal number ++ letter ∷ []
  pub seconds_are : seconds ≡ number * seconds_in letter
  pub some : 0 < seconds
  pub fits : seconds < 2 ^ 64

-- no span of time: what lies so far back is now
abbrev pub nothing : List ℕ
nothing = codes "0s"
