-- The boundaries between commands at which a listener may join the open link. Ours.
use Rattle.std.specs.Prelude.{ℕ, ◌+◌, ◌-◌, ◌≤◌, ⊤, Bool, false, nat_le, if◌then◌else◌, Option, Some, None, List, [], ◌∷◌, ◌++◌}
use Rattle.circular_buffer.specs.Buffer.{keep_last}
use Rattle.serve_live.specs.declared.listener.JoinPlace.{JoinPlace}

-- so many bytes are to be committed from the boundary on where a listener joins
unfoldable pub ahead : ℕ
ahead = 65536

pub record BoundariesState : Type 0 where
  -- where the pages of the link's Begin stand
  pub begin : ℕ
  pub begun : ℕ
  -- the boundaries that are kept, the oldest first; none if no link is open whose Begin is known
  pub kept : List ℕ
  -- how many are kept at most
  pub room : ℕ

abbrev pub most_kept : ℕ
most_kept = 2430

abbrev pub no_link : BoundariesState
no_link = record { begin = 0; begun = 0; kept = []; room = most_kept }

-- a Begin was kept
abbrev pub begun_at : ℕ → ℕ → BoundariesState
begun_at begin end = record { begin = begin; begun = end; kept = end ∷ []; room = most_kept }

-- Once the bytes up to `end` are committed, a boundary is forgotten if as many bytes as are wanted are committed after
-- the next one.
abbrev pub may_forget : ℕ → List ℕ → Bool
may_forget end [] = false
may_forget end (place ∷ []) = false
may_forget end (place ∷ next ∷ places) = nat_le ahead (end - next)

abbrev pub forgotten : ℕ → List ℕ → List ℕ
forgotten end [] = []
forgotten end (place ∷ []) = place ∷ []
forgotten end (place ∷ next ∷ places) = if nat_le ahead (end - next) then forgotten end (next ∷ places) else place ∷ next ∷ places

-- another boundary, at the end of what is committed
abbrev pub with_another : ℕ → List ℕ → List ℕ
with_another end [] = []
with_another end (place ∷ places) = forgotten end (keep_last most_kept ((place ∷ places) ++ end ∷ []))

-- a command was kept, and the link is still open
abbrev pub gone_on : ℕ → BoundariesState → BoundariesState
gone_on end old = record { begin = old.begin; begun = old.begun; kept = with_another end old.kept; room = most_kept }

-- where a listener joins
abbrev pub place_at : ℕ → ℕ → List ℕ → Option JoinPlace
place_at begin begun [] = None
place_at begin begun (boundary ∷ kept) = Some (record { begin = begin; begun = begun; boundary = boundary })

abbrev pub place_to_join : BoundariesState → Option JoinPlace
place_to_join boundaries = place_at boundaries.begin boundaries.begun boundaries.kept

-- ---- what is kept of all boundaries of a link
-- the newest of the boundaries from which as many bytes as are wanted are committed, or the one that is given
abbrev pub newest : ℕ → ℕ → List ℕ → ℕ
newest end given [] = given
newest end given (place ∷ places) = newest end (if nat_le ahead (end - place) then place else given) places

-- the state once these boundaries were told, one after the other
abbrev pub gone_on_by : List ℕ → BoundariesState → BoundariesState
gone_on_by [] old = old
gone_on_by (end ∷ ends) old = gone_on_by ends (gone_on end old)

-- each stands at least as many bytes after the one before as the shortest page has
abbrev pub AreSpaced : ℕ → List ℕ → Type 0
AreSpaced place [] = ⊤
AreSpaced place (next ∷ places) = (place + 27 ≤ next) × AreSpaced next places

abbrev pub last_of : ℕ → List ℕ → ℕ
last_of place [] = place
last_of place (next ∷ places) = last_of next places
