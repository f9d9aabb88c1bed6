use Rattle.std.proofs.Common.{◌≡◌, ◌+◌, ◌-◌, ◌≤◌, ◌++◌, length, take, drop, slice_range, arith, ap, sym, ◌∙◌}
use Rattle.std.proofs.Math.Seq.{take-append_seam}
use Rattle.archive_reading.specs.Prefix.{prefix_bytes}
use Rattle.archive_fetch.specs.Bodies.{BodyState}
use Rattle.archive_fetch.proofs.Ranges.{range_parts}
use Rattle.archive_fetch.proofs.bodies.Body.pull.Goals as goal

pub returns-in-Ok-clause-next : goal.returns-in-Ok-clause-next
returns-in-Ok-clause-next g c =
    let body = c.self.inside in
    let bytes = prefix_bytes g.D.Disk.state body.source in
    let count = c.min-count.result in
    let front = c.read_at.new.buffer in
    let back = c.split_at_mut-front.result.1.now in
    let left : body.end - body.at ≡ c.left.result = ap (λ (b : BodyState _). b.end - b.at) c.self.view_is ∙ sym c.left.ensures in
    let most : count ≤ body.end - body.at = omega (arith, c.min-count.ensures, left) in
    rw (← c.self.view_is)
    (λ honest whole.
    let is_read : front ≡ take count (drop body.at bytes) =
    c.in-Ok.ensures.read (honest, whole) ∙ ap (λ k. take k (drop body.at bytes)) c.split_at_mut-front.ensures.front_len in
    let long : length front ≡ count = c.read_at.auto.buffer ∙ c.split_at_mut-front.ensures.front_len in
    let seam : take count (front ++ back) ≡ front = ap (λ k. take k (front ++ back)) (sym long) ∙ take-append_seam front back in
    range_parts bytes body.at body.end count most
    ∙ ap (λ given. given ++ slice_range bytes (body.at + count) body.end) (sym is_read ∙ sym seam)
    ∙ ap (λ now. take count (front ++ back) ++ slice_range now (body.at + count) body.end) (sym (c.in-Ok.ensures.same (honest, whole))))
