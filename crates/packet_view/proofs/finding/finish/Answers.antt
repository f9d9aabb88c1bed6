use Rattle.std.proofs.Common.{◌≡◌, ◌∙◌, ◌∷◌, [], List, true, length, ap, sym, Some, None}
use Rattle.std.specs.Prelude.{if◌then◌else◌}
use Rattle.ogg_page.specs.Pages.{found_in, located}
use Rattle.packet_view.specs.Packets.{Part, joined_parts, is_some_part, packets_from, no_packet, after_packets}
use Rattle.packet_view.specs.Packet.{parts_of}
use Rattle.packet_view.specs.Walking.{packets_at, parts_in, Reaches}
use Rattle.packet_view.specs.declared.fault.ViewFault.TheVariants.{Unfinished}
use Rattle.packet_view.proofs.Opened.{opened, opens, grows, goes_on, ends, counted_more, some_first, pages_between, packet_parts}
use Rattle.packet_view.proofs.finding.finish.Goals as goal

pub pages-init : goal.pages-init
pages-init c = opens c.args.serial c.args.from c.args.first.now c.requires.inside

pub returns-in-None : goal.returns-in-None
returns-in-None c =
    let parts : List Part = opened c.args.serial c.args.from c.args.first.now c.pages.invariant.pages in
    let some : is_some_part parts ≡ true = some_first c.args.from.unread.place c.args.first.now (parts_in c.args.serial (located c.args.from.offset c.pages.invariant.pages)) c.requires.some in
    let leads : packets_from c.args.serial c.pages.place.behind parts (found_in c.pages.place.offset c.pages.place.rest.now) ≡ no_packet (if is_some_part parts then Some Unfinished else None) =
    rw c.in-None.is at (c.in_ok-next.ensures.leads parts some) in
    c.pages.invariant.same ∙ leads ∙ ap (λ b. no_packet (if b then Some Unfinished else None)) some

pub new-packet-requires-clause-size : goal.new-packet-requires-clause-size
new-packet-requires-clause-size c =
    let from = c.args.from in
    let next = c.in-Some.next in
    let reach : Reaches c.args.serial c.pages.place.offset c.pages.place.rest.now next = rw c.in-Some.is at c.in_ok-next.ensures.reaches in
    let g = grows c.args.serial from c.pages.place next c.args.first.now c.in-Ends.piece.now c.pages.len c.pages.invariant reach c.in-Ends.ensures.front in
    let more = pages_between c.args.serial from next c.args.first.now c.in-Ends.piece.now _ g c.split_at.result.0.now c.split_at.ensures.front in
    counted_more c.args.serial from c.pages.place next c.args.first.now c.in-Ends.piece.now c.pages.len c.pages.invariant g
    ∙ ap (λ l. length (joined_parts l)) (packet_parts c.args.serial from c.args.first.now g.pages c.split_at.result.0.now g.are_pages more)

pub new-packet-requires-clause-pages : goal.new-packet-requires-clause-pages
new-packet-requires-clause-pages c =
    let from = c.args.from in
    let next = c.in-Some.next in
    let reach : Reaches c.args.serial c.pages.place.offset c.pages.place.rest.now next = rw c.in-Some.is at c.in_ok-next.ensures.reaches in
    let g = grows c.args.serial from c.pages.place next c.args.first.now c.in-Ends.piece.now c.pages.len c.pages.invariant reach c.in-Ends.ensures.front in
    let more = pages_between c.args.serial from next c.args.first.now c.in-Ends.piece.now _ g c.split_at.result.0.now c.split_at.ensures.front in
    record { pages = g.pages; are_pages = g.are_pages; joined = more }

pub returns-in-Ends : goal.returns-in-Ends
returns-in-Ends c =
    let from = c.args.from in
    let next = c.in-Some.next in
    let parts : List Part = opened c.args.serial from c.args.first.now c.pages.invariant.pages in
    let some : is_some_part parts ≡ true = some_first from.unread.place c.args.first.now (parts_in c.args.serial (located from.offset c.pages.invariant.pages)) c.requires.some in
    let leads : packets_from c.args.serial c.pages.place.behind parts (found_in c.pages.place.offset c.pages.place.rest.now) ≡ packets_at c.args.serial next parts =
    rw c.in-Some.is at (c.in_ok-next.ensures.leads parts some) in
    let reach : Reaches c.args.serial c.pages.place.offset c.pages.place.rest.now next = rw c.in-Some.is at c.in_ok-next.ensures.reaches in
    let g = grows c.args.serial from c.pages.place next c.args.first.now c.in-Ends.piece.now c.pages.len c.pages.invariant reach c.in-Ends.ensures.front in
    let more = pages_between c.args.serial from next c.args.first.now c.in-Ends.piece.now _ g c.split_at.result.0.now c.split_at.ensures.front in
    let packet = c.new-packet.ensures ∙ ap (λ p. record { parts = parts_of from.unread.place c.args.first.now c.args.serial from.offset c.split_at.result.0.now; position = p }) c.position_behind.ensures in
    ends c.args.serial from c.pages.place next c.behind_packet.result c.args.first.now c.in-Ends.piece.now c.split_at.result.0.now c.pages.len c.in-Ends.unread c.pages.invariant g
    c.in-Ends.ensures c.behind_packet.ensures more leads
    ∙ ap (λ p. after_packets (p ∷ []) (packets_at c.args.serial c.behind_packet.result [])) (sym packet)

pub pages-preserved : goal.pages-preserved
pages-preserved c =
    let from = c.args.from in
    let next = c.in-Some.next in
    let parts : List Part = opened c.args.serial from c.args.first.now c.pages.invariant.pages in
    let some : is_some_part parts ≡ true = some_first from.unread.place c.args.first.now (parts_in c.args.serial (located from.offset c.pages.invariant.pages)) c.requires.some in
    let leads : packets_from c.args.serial c.pages.place.behind parts (found_in c.pages.place.offset c.pages.place.rest.now) ≡ packets_at c.args.serial next parts =
    rw c.in-Some.is at (c.in_ok-next.ensures.leads parts some) in
    let reach : Reaches c.args.serial c.pages.place.offset c.pages.place.rest.now next = rw c.in-Some.is at c.in_ok-next.ensures.reaches in
    goes_on c.args.serial from c.pages.place next c.args.first.now c.in-GoesOn.piece.now c.pages.len c.pages.invariant reach c.in-GoesOn.ensures leads
