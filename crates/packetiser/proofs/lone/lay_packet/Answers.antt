use Rattle.std.proofs.Common.{◌≡◌, ◌<◌, ◌+◌, ◌++◌, ℕ, List, [], ◌∷◌, length, ◌∙◌, subst, arith, vec_len}
use Rattle.std.specs.Prelude.{OnOk, OnErr, vec_capacity}
use Rattle.ogg_page.specs.Page.{Page, page_bytes}
use Rattle.ogg_page.specs.declared.head.PageHead.{PageHead}
use Rattle.packetiser.specs.Run.{Timed}
use Rattle.packetiser.proofs.WholePage.{page_written, size_written, sum_written, short_values}
use Rattle.packetiser.proofs.lone.lay_packet.Goals as goal

pub returns-then-packet-lt-SEGMENT-clause-ok : goal.returns-then-packet-lt-SEGMENT-clause-ok
returns-then-packet-lt-SEGMENT-clause-ok g c =
    let item : Timed = g.T.TimedPacket.timed c.args.item.now in
    let body : List ℕ = c.packet-packet.result.now in
    let head : PageHead = record { flags = c.args.flags; position = c.position.result; serial = c.args.serial; sequence = c.args.sequence } in
    subst (λ (p : Page). OnOk c.write_page.result (c.write_page.new.out.items ≡ c.args.out.now.items ++ page_bytes p))
    (page_written head (length body ∷ []) body item c.position.ensures c.packet-packet.ensures (short_values (length body) (omega (arith, c.if-packet-lt-SEGMENT.true))))
    c.write_page.ensures.ok

pub returns-then-packet-lt-SEGMENT-clause-full : goal.returns-then-packet-lt-SEGMENT-clause-full
returns-then-packet-lt-SEGMENT-clause-full g c =
    let item : Timed = g.T.TimedPacket.timed c.args.item.now in
    let body : List ℕ = c.packet-packet.result.now in
    subst (λ (n : ℕ). OnErr c.write_page.result (vec_capacity c.args.out.now < vec_len c.args.out.now + n))
    (size_written c.args.serial c.args.sequence c.args.flags (length body ∷ []) body item c.packet-packet.ensures (short_values (length body) (omega (arith, c.if-packet-lt-SEGMENT.true))))
    c.write_page.ensures.full

pub write_page-requires-2-clause-whole : goal.write_page-requires-2-clause-whole
write_page-requires-2-clause-whole g c = sum_written c.split_at.result.0.now c.packet-packet.result.now (c.split_at.ensures.front ∙ c.end_values-count.ensures.values)
