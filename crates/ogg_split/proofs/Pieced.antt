-- Bytes are copied piece by piece.
use Rattle.std.proofs.Common.{◌≡◌, ◌≤◌, ℕ, ◌+◌, ◌-◌, Option, List, ◌++◌, take, drop, sym, ◌∙◌, ap, subst, arith, take-add, drop-drop}
use Rattle.std.specs.Io.KnownBytes.{Appends}
use Rattle.std.proofs.KnownBytes.{Appends-trans}
use Rattle.ogg_page.specs.Output.{WritesPrefix}
use Rattle.ogg_page.specs.OutputLaws.{prefix_on}

-- the first bytes from a place on, and a piece more
further : (bytes : List ℕ) (from done size : ℕ) → take (done + size) (drop from bytes) ≡ take done (drop from bytes) ++ take size (drop (from + done) bytes)
further bytes from done size = take-add done size (drop from bytes) ∙ ap (λ (l : List ℕ). take done (drop from bytes) ++ take size l) (drop-drop done from bytes)

pub more_written : (bytes : List ℕ) (from done size : ℕ) (old mid now : Option (List ℕ)) → Appends old mid (take done (drop from bytes))
    → Appends mid now (take size (drop (from + done) bytes)) → Appends old now (take (done + size) (drop from bytes))
more_written bytes from done size old mid now before more =
    subst (Appends old now) (sym (further bytes from done size))
    (Appends-trans old mid now (take done (drop from bytes)) (take size (drop (from + done) bytes)) before more)

pub cut_short : (bytes : List ℕ) (from done size count : ℕ) (old mid now : Option (List ℕ)) → done + size ≤ count → Appends old mid (take done (drop from bytes))
    → WritesPrefix mid now (take size (drop (from + done) bytes)) → WritesPrefix old now (take count (drop from bytes))
cut_short bytes from done size count old mid now le before more =
    let left : ℕ = count - (done + size) in
    let whole : count ≡ done + (size + left) = omega (arith, le) in
    let rest : List ℕ = drop (from + done) bytes in
    prefix_on old mid now (take count (drop from bytes)) (take done (drop from bytes)) (take size rest) (take left (drop size rest))
    (ap (λ n. take n (drop from bytes)) whole ∙ further bytes from done (size + left)
    ∙ ap (λ (l : List ℕ). take done (drop from bytes) ++ l) (take-add size left rest))
    before more

-- a piece of bytes that are known to be these
pub own_piece : (P : List ℕ → Type 0) (bytes now : List ℕ) (at length size : ℕ) → length ≡ size → now ≡ bytes → P (take length (drop at now)) → P (take size (drop at bytes))
own_piece P bytes now at length size a b p = subst P (ap (λ n. take n (drop at now)) a ∙ ap (λ (l : List ℕ). take size (drop at l)) b) p
