use Rattle.std.proofs.Common.{◌≡◌, ◌≢◌, ℕ, ◌+◌, ◌≤◌, ◌++◌, List, length, take, drop, arith, sym, ap, ◌∙◌, subst, length-take, length-drop}
use Rattle.std.proofs.Math.Seq.{take-add}
use Rattle.std.proofs.lemmas.List.{take-take}
use Rattle.std.specs.Io.KnownBytes.{Appends}
use Rattle.std.proofs.KnownBytes.{Appends-trans}
use Rattle.ogg_page.proofs.output.write_counted.Goals as goal

-- a length within a part of a list
within : (xs : List ℕ) (k n : ℕ) → n ≤ length (take k xs) → (n ≤ k) × (n ≤ length xs)
within xs k n le = (omega (arith, length-take k xs, le), omega (arith, length-take k xs, le))

-- the first d bytes, and then n of the rest, are the first d + n
take_more : (t : List ℕ) (d k n : ℕ) → n ≤ length (take k (drop d t)) → take d t ++ take n (take k (drop d t)) ≡ take (d + n) t
take_more t d k n le = ap (λ l. take d t ++ l) (take-take n k (drop d t) (within (drop d t) k n le).0) ∙ sym (take-add d n t)

pub loop-preserved : goal.loop-preserved
loop-preserved g c =
    let (room, count, appended) = c.loop.invariant in
    let t = c.args.text.now in
    let d = c.loop.done in
    let n = c.in-Ok.count in
    let fits = within (drop d t) _ n c.in-Ok.ensures.bound in
    let some : n ≢ 0 = c.in-Ok.count-test.1 in (
      omega (arith, fits.1, length-drop d t, room),
      omega (arith, count, some),
      subst (Appends _ _) (take_more t d _ n c.in-Ok.ensures.bound) (Appends-trans _ _ _ _ _ appended c.in-Ok.ensures.bytes),
    )
