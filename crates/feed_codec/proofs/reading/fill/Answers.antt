use Rattle.std.proofs.Common.{◌≡◌, ◌≢◌, ℕ, ◌+◌, ◌-◌, ◌≤◌, ◌++◌, List, length, take, drop, arith, sym, ap, ◌∙◌, subst, length-take, length-drop}
use Rattle.std.proofs.Math.Seq.{take-add}
use Rattle.std.proofs.lemmas.List.{drop_at, take-append-le, length-take-le}
use Rattle.std.proofs.lemmas.Slice.{take-put_mid_below}
use borrow.Rule.Slice.PartMut.{put_mid, post_of}
use Rattle.std.specs.Io.KnownBytes.{Consumes}
use Rattle.std.proofs.KnownBytes.{Consumes-trans}
use Rattle.feed_codec.proofs.reading.fill.Goals as goal

-- after a read to the place after the first d bytes, the first d + n are those d and the first n that were read
take_read : (xs ys : List ℕ) (d k n : ℕ) → d ≤ length xs → n ≤ length ys → take (d + n) (put_mid d k xs ys) ≡ take d xs ++ take n ys
take_read xs ys d k n inside le =
    take-add d n (put_mid d k xs ys)
    ∙ ap (λ l. l ++ take n (drop d (put_mid d k xs ys))) (take-put_mid_below d k xs ys d (omega arith) inside)
    ∙ ap (λ l. take d xs ++ take n l) (drop_at (take d xs) (ys ++ post_of d k xs) d (length-take-le d xs inside))
    ∙ ap (λ l. take d xs ++ l) (take-append-le n ys (post_of d k xs) le)

pub loop-preserved : goal.loop-preserved
loop-preserved g c =
    let (room, count, consumed) = c.loop.invariant in
    let d = c.loop.done in
    let n = c.in-Ok.count in
    let some : n ≢ 0 = c.in-Ok.count-test.1 in
    let within : d ≤ length c.loop.buffer = omega (arith, c.loop.auto.buffer, c.requires, room) in (
      omega (arith, room, c.if-done-wanted.false, c.read.auto.buf, c.in-Ok.ensures.bound.0, within, length-take {A = ℕ}, length-drop {A = ℕ}),
      omega (arith, count, some),
      subst (Consumes _ _) (sym (take_read c.loop.buffer c.read.new.buf d (c.args.wanted - d) n within c.in-Ok.ensures.bound.0))
          (Consumes-trans _ _ _ _ _ consumed c.in-Ok.ensures.bytes.0),
    )
