-- Lacing values and a body, cut into packets (RFC 3533, section 5).
use Rattle.std.specs.Prelude.{◌≡◌, ℕ, ◌+◌, ◌*◌, nat_lt, if◌then◌else◌, List, [], ◌∷◌, ◌++◌, length, replicate}
use Rattle.std.specs.List.{flat_map, concat}
use Rattle.ogg_page.specs.Page.{Page}
use Rattle.ogg_page.specs.Lacing.{lace}
use Rattle.ogg_page.specs.Sizes.{full_value}

-- The first `segments` whole segments of a packet have the bytes `rest`. These lacing values and the bytes of the
-- body follow them: the packets end there, and whole segments are left of a packet that goes on.
pub record CutsInto (segments : ℕ) (rest values body : List ℕ) (packets : List (List ℕ)) (left : List ℕ) : Type 0 where
  pub later : ℕ
  pub lacing : replicate segments full_value ++ values ≡ flat_map lace packets ++ replicate later full_value
  pub bodies : rest ++ body ≡ concat packets ++ left
  pub left_size : length left ≡ full_value * later

-- after these bytes of an unfinished packet, these packets end in the page, and then these bytes are unfinished
abbrev pub EndIn : List ℕ → Page → List (List ℕ) → List ℕ → Type 0
EndIn rest page packets left = (segments : ℕ) → length rest ≡ full_value * segments → CutsInto segments rest page.lacing page.body packets left

-- how many bytes a page has of the first packet in it
abbrev pub first_size : List ℕ → ℕ
first_size [] = 0
first_size (value ∷ values) = if nat_lt value full_value then value else value + first_size values
