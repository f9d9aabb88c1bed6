use Rattle.std.proofs.Common.{◌≡◌, ℕ, ◌*◌, ◌^◌, refl, sym, ◌∙◌, ap, arith}
use Rattle.std.specs.Prelude.{bit_xor}
use Rattle.serve_live.proofs.Moving.{moved_by, checksum-behind}
use Rattle.serve_live.proofs.Rows.{by_whole_row, by_row, entry_in, four_at, next_four, row_at}
use Rattle.serve_live.proofs.checksums.moved.Goals as goal

pub loop-place-init : goal.loop-place-init
loop-place-init c = refl

pub loop-place-preserved : goal.loop-place-preserved
loop-place-preserved c =
    let place : ℕ = c.loop-place.place in
    let word : ℕ = c.args.before in
    ap (λ n. bit_xor n (entry_in (row_at c.args.power) place (four_at place word))) c.loop-place.invariant
    ∙ next_four place word (row_at c.args.power)

pub returns : goal.returns
returns c front is =
    let power : ℕ = c.args.power in
    c.loop-place.invariant
    ∙ ap (λ n. by_row n (row_at power) c.args.before) (let e : c.loop-place.place ≡ 8 = omega (arith, c.loop-place-test.false, c.loop-place.auto.place-end) in e)
    ∙ by_whole_row power c.args.before c.requires (omega (arith, c.ranges.before))
    ∙ ap (moved_by (8 * 2 ^ power)) is
    ∙ sym (checksum-behind front (2 ^ power))
