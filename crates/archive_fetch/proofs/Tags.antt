-- A tag that isn't found stands nowhere.
use Rattle.std.proofs.Common.{◌≡◌, ℕ, List, Option, Some, None, false, true, is_some, arith}
use Rattle.memchr.specs.Find.{FindsNeedle, OccursAt}

pub stands_nowhere : (value tag : List ℕ) (found : Option ℕ) → FindsNeedle value tag 0 found → is_some found ≡ false → (at : ℕ) → OccursAt value tag at → ⊥
stands_nowhere value tag None finds none at occurs = finds at (omega arith) (omega (arith, occurs.fits)) occurs
stands_nowhere value tag (Some place) finds none at occurs = absurd (cc none)

pub stands_there : (value tag : List ℕ) (found : Option ℕ) → FindsNeedle value tag 0 found → is_some found ≡ true → (at : ℕ) × OccursAt value tag at
stands_there value tag None finds some = absurd (cc some)
stands_there value tag (Some place) finds some = (place, finds.1)
