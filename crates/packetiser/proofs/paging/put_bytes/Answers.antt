use Rattle.std.proofs.Common.{◌≡◌, ℕ, ◌+◌, ◌-◌, ◌≤◌, min, List, ◌∷◌, ◌++◌, length, map, take, drop, sym, ◌∙◌, ap, subst, arith, append_assoc, length-take, length-append}
use Rattle.std.proofs.lemmas.List.{length-map}
use Rattle.packetiser.specs.Run.{Timed, run_bytes}
use Rattle.packetiser.specs.Place.{bytes_left, IsWithin}
use Rattle.packetiser.proofs.BytesLeft.{take_both, take_there, none_left, start, left_of}
use Rattle.packetiser.proofs.paging.put_bytes.Goals as goal

pub returns-in_default : goal.returns-in_default
returns-in_default g c =
    let rest : List Timed = map g.T.TimedPacket.timed c.loop-left.rest.now in
    let none : length rest ≡ 0 = length-map c.loop-left.rest.now g.T.TimedPacket.timed ∙ c.in_default.ensures.cases in
    absurd (omega (arith, none_left c.loop-left.done rest none, c.loop-left.invariant.enough, c.loop-left-test.true))

pub put-requires : goal.put-requires
put-requires g c =
    let left : ℕ = c.loop-left.left in
    let piece : List ℕ = c.split_at-in-loop-left.result.0.now in
    let whole : left ≡ length piece + (left - length piece) = omega (arith, c.split_at-in-loop-left.ensures.front_len, c.min.ensures) in
    (left - length piece, subst (λ n. g.S.PageSpace.free c.loop-left.space n) whole c.loop-left.invariant.room)

pub loop-left-preserved : goal.loop-left-preserved
loop-left-preserved g c =
    let timed = g.T.TimedPacket.timed in
    let done : ℕ = c.loop-left.done in
    let left : ℕ = c.loop-left.left in
    let item : Timed = timed c.in-Some.item.now in
    let others : List Timed = map timed c.in-Some.others.now in
    let rest : map timed c.loop-left.rest.now ≡ item ∷ others = ap (map timed) c.in-Some.ensures.cases.0 in
    let within : done ≤ length item.packet = subst (λ l. IsWithin done l) rest c.loop-left.invariant.within in
    let behind : bytes_left done (map timed c.loop-left.rest.now) ≡ drop done item.packet ++ run_bytes others =
    ap (bytes_left done) rest ∙ left_of done item others within in
    let packet : c.split_at.result.1.now ≡ drop done item.packet = c.split_at.ensures.back ∙ ap (drop done) c.packet.ensures in
    let piece : List ℕ = c.split_at-in-loop-left.result.0.now in
    let piece_is : piece ≡ take left (drop done item.packet) =
    c.split_at-in-loop-left.ensures.front ∙ take_there left _ c.split_at.result.1.now c.min.ensures ∙ ap (take left) packet in
    let size : length piece ≡ min left (length (drop done item.packet)) = ap length piece_is ∙ length-take left (drop done item.packet) in
    let same : left - length (drop done item.packet) ≡ left - length piece = omega (arith, size) in
    let whole : left ≡ length piece + (left - length piece) = omega (arith, size) in
    let before : List ℕ = c.loop-left.invariant.work.0 in
    record {
      work = (
        before ++ piece,
        append_assoc before piece (take (left - length piece) (run_bytes others))
            ∙ ap (λ l. before ++ l) (sym (
            ap (take left) behind
            ∙ take_both left (drop done item.packet) (run_bytes others)
            ∙ ap (λ l. l ++ take (left - length (drop done item.packet)) (run_bytes others)) (sym piece_is)
            ∙ ap (λ k. piece ++ take k (run_bytes others)) same))
            ∙ c.loop-left.invariant.work.1,
        λ space head lacing body work.
            subst (λ l. g.S.PageSpace.in_work space head lacing l c.put.new.self) (append_assoc body before piece)
            (c.put.ensures.work space head lacing (body ++ before) (c.loop-left.invariant.work.2 space head lacing body work)),
      );
      within = start others;
      enough = omega (arith, c.loop-left.invariant.enough, ap length behind, length-append (drop done item.packet) (run_bytes others), size);
      room = c.put.ensures.free (left - length piece) (subst (λ n. g.S.PageSpace.free c.loop-left.space n) whole c.loop-left.invariant.room);
    }
