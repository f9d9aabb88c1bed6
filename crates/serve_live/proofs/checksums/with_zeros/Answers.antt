use Rattle.std.proofs.Common.{◌≡◌, ℕ, ◌+◌, ◌-◌, ◌*◌, ◌%◌, ◌^◌, ◌<◌, ◌≤◌, List, ◌++◌, replicate, sym, ◌∙◌, ap, arith, append_assoc}
use Rattle.std.proofs.lemmas.List.{replicate-append-replicate, append-nil}
use Rattle.std.proofs.Math.Nat.{pow-le-pow_right, mod-eq_of_lt}
use Rattle.page_checksum.specs.Checksum.{checksum_of}
use Rattle.serve_live.proofs.checksums.with_zeros.Goals as goal

none : (count : ℕ) (front : List ℕ) → front ≡ front ++ replicate (count - count) 0
none count front = sym (ap (λ n. front ++ replicate n 0) (let e : count - count ≡ 0 = omega arith in e) ∙ append-nil front)

-- so many zeros are no more than are left, and fit in a word
fits : (left power most : ℕ) → left < 2 ^ 64 → 2 ^ power ≤ left → most ≤ power → 1 * 2 ^ most % 2 ^ 64 ≡ 2 ^ most
fits left power most small le few =
    let less : 2 ^ most ≤ 2 ^ power = pow-le-pow_right (omega arith) few in
    mod-eq_of_lt (let e : 1 * 2 ^ most < 2 ^ 64 = omega (arith, less, le, small) in e) ∙ omega arith

pub loop-left-init : goal.loop-left-init
loop-left-init c = record { inside = omega arith; added = λ front is. is ∙ ap checksum_of (none c.args.count front) }

pub overflow_sub-left : goal.overflow_sub-left
overflow_sub-left c =
    let power : ℕ = c.min-power.result in
    let less : power ≤ c.ilog2.result = omega (arith, c.min-power.ensures) in
    let small : 2 ^ power ≤ 2 ^ c.ilog2.result = pow-le-pow_right (omega arith) less in
    omega (arith, fits c.loop-left.left c.ilog2.result power (omega (arith, c.loop-left.auto.left-fits)) c.ilog2.ensures.power_le less, small, c.ilog2.ensures.power_le)

pub loop-left-preserved : goal.loop-left-preserved
loop-left-preserved c =
    let power : ℕ = c.min-power.result in
    let done : ℕ = c.args.count - c.loop-left.left in
    let less : power ≤ c.ilog2.result = omega (arith, c.min-power.ensures) in
    let small : 2 ^ power ≤ 2 ^ c.ilog2.result = pow-le-pow_right (omega arith) less in
    let some : 1 * 2 ^ power % 2 ^ 64 ≡ 2 ^ power = fits c.loop-left.left c.ilog2.result power (omega (arith, c.loop-left.auto.left-fits)) c.ilog2.ensures.power_le less in
    let rest : c.loop-left.left - 1 * 2 ^ power % 2 ^ 64 ≡ c.loop-left.left - 2 ^ power = ap (λ n. c.loop-left.left - n) some in
    let count : done + 2 ^ power ≡ c.args.count - (c.loop-left.left - 2 ^ power) =
    omega (arith, c.loop-left.invariant.inside, small, c.ilog2.ensures.power_le) in
    let whole : done + 2 ^ power ≡ c.args.count - (c.loop-left.left - 1 * 2 ^ power % 2 ^ 64) = count ∙ sym (ap (λ n. c.args.count - n) rest) in
    record {
      inside = omega (arith, c.loop-left.invariant.inside, rest);
      added = λ front is.
          c.moved-sum.ensures (front ++ replicate done 0) (c.loop-left.invariant.added front is)
          ∙ ap checksum_of (append_assoc front (replicate done 0) (replicate (2 ^ power) 0))
          ∙ ap (λ l. checksum_of (front ++ l)) (replicate-append-replicate done (2 ^ power) 0 ∙ ap (λ n. replicate n 0) whole);
    }

pub returns : goal.returns
returns c front is = c.loop-left.invariant.added front is ∙ ap (λ n. checksum_of (front ++ replicate n 0)) (omega (arith, c.loop-left-test.false))
