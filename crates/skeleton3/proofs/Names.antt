-- Names in front of packets.
use Rattle.std.proofs.Common.{◌≡◌, ℕ, Bool, true, false, not, List, ◌++◌, refl, ap, ◌∙◌}
use Rattle.std.proofs.lemmas.Slice.Eq.{bytes_eq-Decides}
use Rattle.std.specs.Str.{bytes_eq}

from_not : (b : Bool) → false ≡ not b → b ≡ true
from_not true e = refl
from_not false e = absurd (cc e)

-- a front that was compared with a name is that name
pub named : (packet front slice name rest : List ℕ) → packet ≡ front ++ rest → false ≡ not (bytes_eq front slice) → slice ≡ name → packet ≡ name ++ rest
named packet front slice name rest whole e is =
    whole ∙ ap (λ l. l ++ rest) ((bytes_eq-Decides front slice).0 (from_not (bytes_eq front slice) e) ∙ is)
