-- The pages of a run, one at a time. Ours.
use Rattle.std.specs.Prelude.{◌≡◌, ℕ, ◌+◌, ◌^◌, ◌<◌, ◌≤◌, Bool, true, false, Option, Some, List, [], ◌∷◌, length, drop}
use Rattle.ogg_page.specs.Page.{Page}
use Rattle.packetiser.specs.Run.{Timed, run_lacing, pages_for, pages_of_run, flagged}
use Rattle.packetiser.specs.Place.{IsAt}

-- Of the pages that are left, the first is finished in the buffer; or none is left.
abbrev pub NextPage : List Page → Bool → List Page → Option Page → Type 0
NextPage old true new finished = (page : Page) × (old ≡ page ∷ new) × (finished ≡ Some page)
NextPage old false new finished = (old ≡ []) × (new ≡ [])

-- the pages from page k on
abbrev pub pages_from : ℕ → ℕ → ℕ → ℕ → List Timed → List Page
pages_from k serial first flags run = drop k (flagged flags (pages_of_run serial first run))

-- the place before page k of a run: the first `ended` packets, and then `done` bytes of the next, stand before it
pub record IsBeforePage (run : List Timed) (k ended done first flags count : ℕ) : Type 0 where
  pub place : IsAt run k done (drop ended run)
  pub within : ended ≤ length run
  pub count_is : count ≡ pages_for (length (run_lacing run))
  pub numbers : first + count ≤ 2 ^ 32
  pub few : flags < 255
  pub before : k ≤ count
