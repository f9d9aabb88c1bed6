-- A tail stands in the contents, and goes on to do so.
use Rattle.std.proofs.Common.{◌≡◌, ◌⊎◌, inl, inr, ⊎_elim, ℕ, ◌+◌, ◌-◌, ◌<◌, ◌≤◌, Bool, true, false, List, [], length, take, drop, get_or, refl, sym, ◌∙◌, ap, arith, length-take, length-drop}
use Rattle.std.proofs.lemmas.Bool.Decides.{nat_tests, leb_tells}
use Rattle.std.proofs.lemmas.Grind.{same_number_lists}
use Rattle.std.proofs.lemmas.List.{length-take-le, get_or-take, get_or-drop, take-take, drop-take, drop-drop}
use Rattle.std.specs.Prelude.{nat_le, ◌&&◌, if◌then◌else◌}
use Rattle.disk_model.specs.Image.{overwritten}
use Rattle.disk_tail.specs.Tail.{Tail, tail_at, end_of, StandsIn, Holds, surplus, fitted, joined, tail_written, tail_cut}
use Rattle.disk_tail.proofs.Overwritten.{overwritten_size, before_it, in_it, after_it}

-- whichever it is
either : {X : Type 0} (P : X → Type 0) (b : Bool) (x y : X) → (b ≡ true → P x) → (b ≡ false → P y) → P (if b then x else y)
either P true x y first second = first refl
either P false x y first second = second refl

at_most : (a b : ℕ) → nat_le a b ≡ true → a ≤ b
at_most a b e = grind (arith, nat_tests)

both_most : (a b c d : ℕ) → nat_le a b && nat_le c d ≡ true → (a ≤ b) × (c ≤ d)
both_most a b c d e = (grind (arith, nat_tests), grind (arith, nat_tests))

below_or : (k n : ℕ) → (k < n) ⊎ (n ≤ k)
below_or k n = ⊎_elim (λ most. inr most.1) (λ less. inl less.1) (leb_tells n k)

-- byte by byte
of_each : (contents bytes : List ℕ) (start room : ℕ) → start + length bytes ≤ length contents
    → ((k : ℕ) → k < length bytes → get_or contents (start + k) 0 ≡ get_or bytes k 0) → StandsIn contents (tail_at start bytes room)
of_each contents bytes start room inside each =
    let long : length bytes ≤ length (drop start contents) = omega (arith, inside, length-drop start contents) in
    let size = length-take-le (length bytes) (drop start contents) long in
    record {
      inside = inside;
      same = same_number_lists (take (length bytes) (drop start contents)) bytes size
          (λ k below. let under : k < length bytes = omega (arith, below, size) in
          get_or-take (length bytes) (drop start contents) k 0 under ∙ get_or-drop start contents k 0 ∙ each k under);
    }

each_of : (contents : List ℕ) (tail : Tail) → StandsIn contents tail → (k : ℕ) → k < length tail.bytes → get_or contents (tail.start + k) 0 ≡ get_or tail.bytes k 0
each_of contents tail stands k below =
    sym (get_or-drop tail.start contents k 0) ∙ sym (get_or-take (length tail.bytes) (drop tail.start contents) k 0 below)
    ∙ ap (λ (bytes : List ℕ). get_or bytes k 0) stands.same

-- what is held is what a read returns
pub held_is_read : (contents : List ℕ) (tail : Tail) (at n : ℕ) → StandsIn contents tail → Holds at n tail
    → take n (drop (at - tail.start) tail.bytes) ≡ take n (drop at contents)
held_is_read contents tail at n stands holds =
    let o = at - tail.start in
    let rest = length tail.bytes - o in
    let behind = drop tail.start contents in
    let size : length tail.bytes ≡ o + rest = omega (arith, holds.from, holds.to) in
    let few : n ≤ rest = omega (arith, holds.from, holds.to) in
    let there : tail.start + o ≡ at = omega (arith, holds.from) in
    ap (λ (bytes : List ℕ). take n (drop o bytes)) (sym stands.same)
    ∙ ap (λ (k : ℕ). take n (drop o (take k behind))) size
    ∙ ap (λ (bytes : List ℕ). take n bytes) (drop-take o rest behind)
    ∙ take-take n rest (drop o behind) few
    ∙ ap (λ (bytes : List ℕ). take n bytes) (drop-drop o tail.start contents)
    ∙ ap (λ (k : ℕ). take n (drop k contents)) there

nothing : (contents : List ℕ) (room : ℕ) → StandsIn contents (tail_at 0 [] room)
nothing contents room = record { inside = omega arith; same = refl }

-- without the bytes in front
back_stands : (contents : List ℕ) (tail : Tail) (n : ℕ) → StandsIn contents tail → n ≤ length tail.bytes
    → StandsIn contents (tail_at (tail.start + n) (drop n tail.bytes) tail.room)
back_stands contents tail n stands few =
    let size = length-drop n tail.bytes in
    of_each contents (drop n tail.bytes) (tail.start + n) tail.room (omega (arith, stands.inside, few, size))
    (λ k below. ap (λ (i : ℕ). get_or contents i 0) (omega arith) ∙ each_of contents tail stands (n + k) (omega (arith, below, size))
    ∙ sym (get_or-drop n tail.bytes k 0))

surplus_fits : (room n : ℕ) → surplus room n ≤ n
surplus_fits room n = either (λ s. s ≤ n) (nat_le n room) 0 _ (λ _. omega arith) (λ _. omega arith)

fitted_stands : (contents : List ℕ) (tail : Tail) → StandsIn contents tail → StandsIn contents (fitted tail)
fitted_stands contents tail stands =
    back_stands contents tail (surplus tail.room (length tail.bytes)) stands (surplus_fits tail.room (length tail.bytes))

-- a write before the tail
before_stands : (contents bytes : List ℕ) (tail : Tail) (at : ℕ) → StandsIn contents tail → at ≤ length contents → at + length bytes ≤ tail.start
    → StandsIn (overwritten contents at bytes) tail
before_stands contents bytes tail at stands room away =
    of_each (overwritten contents at bytes) tail.bytes tail.start tail.room (omega (arith, stands.inside, overwritten_size contents bytes at room))
    (λ k below. after_it contents bytes at (tail.start + k) room (omega (arith, away)) ∙ each_of contents tail stands k below)

-- a write that begins in the tail
inside_stands : (contents bytes : List ℕ) (tail : Tail) (at : ℕ) → StandsIn contents tail → at ≤ length contents → tail.start ≤ at → at ≤ end_of tail
    → StandsIn (overwritten contents at bytes) (tail_at tail.start (overwritten tail.bytes (at - tail.start) bytes) tail.room)
inside_stands contents bytes tail at stands room from to =
    let o = at - tail.start in
    let here : o ≤ length tail.bytes = omega (arith, from, to) in
    let there : tail.start + o ≡ at = omega (arith, from) in
    let size = overwritten_size tail.bytes bytes o here in
    of_each (overwritten contents at bytes) (overwritten tail.bytes o bytes) tail.start tail.room
    (omega (arith, stands.inside, from, to, size, overwritten_size contents bytes at room))
    (λ k below. ⊎_elim (front k here there) (λ past. ⊎_elim (middle k past here there) (back k (omega (arith, below, size)) here there) (below_or k (at - tail.start + length bytes))) (below_or k (at - tail.start)))
  where
    front : (k : ℕ) → at - tail.start ≤ length tail.bytes → tail.start + (at - tail.start) ≡ at → k < at - tail.start
        → get_or (overwritten contents at bytes) (tail.start + k) 0 ≡ get_or (overwritten tail.bytes (at - tail.start) bytes) k 0
    front k here there below =
        before_it contents bytes at (tail.start + k) room (omega (arith, below, there))
        ∙ each_of contents tail stands k (omega (arith, below, here))
        ∙ sym (before_it tail.bytes bytes (at - tail.start) k here below)

    middle : (k : ℕ) → at - tail.start ≤ k → at - tail.start ≤ length tail.bytes → tail.start + (at - tail.start) ≡ at → k < at - tail.start + length bytes
        → get_or (overwritten contents at bytes) (tail.start + k) 0 ≡ get_or (overwritten tail.bytes (at - tail.start) bytes) k 0
    middle k past here there below =
        let i = k - (at - tail.start) in
        let under : i < length bytes = omega (arith, past, below) in
        ap (λ (j : ℕ). get_or (overwritten contents at bytes) j 0) (omega (arith, past, there))
        ∙ in_it contents bytes at i room under ∙ sym (in_it tail.bytes bytes (at - tail.start) i here under)
        ∙ ap (λ (j : ℕ). get_or (overwritten tail.bytes (at - tail.start) bytes) j 0) (omega (arith, past))

    back : (k : ℕ) → k < at - tail.start + length bytes + (length tail.bytes - (at - tail.start + length bytes)) → at - tail.start ≤ length tail.bytes
        → tail.start + (at - tail.start) ≡ at → at - tail.start + length bytes ≤ k
        → get_or (overwritten contents at bytes) (tail.start + k) 0 ≡ get_or (overwritten tail.bytes (at - tail.start) bytes) k 0
    back k below here there above =
        after_it contents bytes at (tail.start + k) room (omega (arith, above, there))
        ∙ each_of contents tail stands k (omega (arith, below, above))
        ∙ sym (after_it tail.bytes bytes (at - tail.start) k here above)

-- a write anywhere else
new_stands : (contents bytes : List ℕ) (room at : ℕ) → at ≤ length contents → StandsIn (overwritten contents at bytes) (tail_at at bytes room)
new_stands contents bytes room at inside =
    of_each (overwritten contents at bytes) bytes at room (omega (arith, overwritten_size contents bytes at inside))
    (λ k below. in_it contents bytes at k inside below)

joined_stands : (contents bytes : List ℕ) (tail : Tail) (at : ℕ) → StandsIn contents tail → at ≤ length contents
    → StandsIn (overwritten contents at bytes) (joined at bytes tail)
joined_stands contents bytes tail at stands room =
    either (StandsIn (overwritten contents at bytes)) (nat_le (at + length bytes) tail.start) tail _
    (λ first. before_stands contents bytes tail at stands room (at_most _ _ first))
    (λ _. either (StandsIn (overwritten contents at bytes)) (nat_le tail.start at && nat_le at (end_of tail)) _ _
    (λ both. let parts = both_most tail.start at at (end_of tail) both in inside_stands contents bytes tail at stands room parts.0 parts.1)
    (λ _. new_stands contents bytes tail.room at room))

pub written_stands : (contents bytes : List ℕ) (tail : Tail) (at : ℕ) → StandsIn contents tail → at ≤ length contents
    → StandsIn (overwritten contents at bytes) (tail_written at bytes tail)
unfolding tail_written
written_stands contents bytes tail at stands room =
    fitted_stands (overwritten contents at bytes) (joined at bytes tail) (joined_stands contents bytes tail at stands room)

pub write_goes_on : (contents now bytes : List ℕ) (tail new : Tail) (at : ℕ) → StandsIn contents tail → at ≤ length contents
    → now ≡ overwritten contents at bytes → new ≡ tail_written at bytes tail → StandsIn now new
write_goes_on contents now bytes tail new at stands room is_now is_new = rw is_now (rw is_new (written_stands contents bytes tail at stands room))

-- the bytes up to a cut
front_stands : (contents : List ℕ) (tail : Tail) (to : ℕ) → StandsIn contents tail → to ≤ length contents → tail.start ≤ to
    → StandsIn (take to contents) (tail_at tail.start (take (to - tail.start) tail.bytes) tail.room)
front_stands contents tail to stands room from =
    let few = to - tail.start in
    let size = length-take few tail.bytes in
    let long = length-take-le to contents room in
    of_each (take to contents) (take few tail.bytes) tail.start tail.room (omega (arith, stands.inside, from, size, long))
    (λ k below. let under : k < few = omega (arith, below, size) in
    get_or-take to contents (tail.start + k) 0 (omega (arith, under)) ∙ each_of contents tail stands k (omega (arith, below, size))
    ∙ sym (get_or-take few tail.bytes k 0 under))

pub cut_stands : (contents : List ℕ) (tail : Tail) (to : ℕ) → StandsIn contents tail → to ≤ length contents → StandsIn (take to contents) (tail_cut to tail)
unfolding tail_cut
cut_stands contents tail to stands room =
    either (StandsIn (take to contents)) (nat_le tail.start to) _ _
    (λ from. front_stands contents tail to stands room (at_most _ _ from))
    (λ _. nothing (take to contents) tail.room)

pub cut_goes_on : (contents now : List ℕ) (tail new : Tail) (to : ℕ) → StandsIn contents tail → to ≤ length contents
    → now ≡ take to contents → new ≡ tail_cut to tail → StandsIn now new
cut_goes_on contents now tail new to stands room is_now is_new = rw is_now (rw is_new (cut_stands contents tail to stands room))
