use Rattle.std.proofs.Common.{arith, refl, sym, ◌∙◌}
use Rattle.line_packets.proofs.Cutting.{goes_on, is_none, stops}
use Rattle.line_packets.proofs.lines.take_lines.Goals as goal

pub returns-then-is_some : goal.returns-then-is_some
returns-then-is_some c = λ line is.
    let so_far = c.loop-line.invariant.0 line is in
    stops _ _ _ _ _ _ _ _ _ _ _ _ _ _ so_far c.in-Some.ensures.some (c.in_ok-left.ensures so_far.next so_far.front_is) _ refl refl refl

pub loop-line-preserved : goal.loop-line-preserved
loop-line-preserved c = (
  λ line is.
      let so_far = c.loop-line.invariant.0 line is in
      goes_on _ _ _ _ _ _ _ _ _ _ _ _ _ _ so_far c.in-Some.ensures.some (c.in_ok-left.ensures so_far.next so_far.front_is)
      (is_none c.in_ok-left.left (sym c.is_some.ensures ∙ c.if-is_some.false)),
  omega (arith, c.loop-line.invariant.1, c.in-Some.ensures.some.shorter),
)
