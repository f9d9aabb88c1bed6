use Rattle.std.proofs.Common.{◌≡◌, ◌∙◌, [], length, refl, rules, tests, None}
use Rattle.ogg_page.specs.Pages.{found_in}
use Rattle.packet_view.specs.Packets.{packets_from, no_packet}
use Rattle.packet_view.specs.Walking.{packets_at}
use Rattle.packet_view.proofs.Walks.{none_left}
use Rattle.packet_view.proofs.Opened.{closed}
use Rattle.packet_view.proofs.finding.next_packet.Goals as goal

pub pages-preserved : goal.pages-preserved
pages-preserved c =
    let none : length c.in-GoesOn.piece.now ≡ 0 = search (rules, tests) in
    let leads : packets_from c.args.serial c.pages.place.behind [] (found_in c.pages.place.offset c.pages.place.rest.now) ≡ packets_at c.args.serial c.in-Some.next [] =
    rw c.in-Some.is at (c.in_ok-next.ensures.leads [] refl) in
    c.pages.invariant ∙ closed c.args.serial c.pages.place c.in-GoesOn.piece.now c.in-GoesOn.ensures (none_left c.in-GoesOn.piece.now none) ∙ leads

pub returns-in-None : goal.returns-in-None
returns-in-None c =
    let none : length c.in-GoesOn.piece.now ≡ 0 = search (rules, tests) in
    let leads : packets_from c.args.serial c.pages.place.behind [] (found_in c.pages.place.offset c.pages.place.rest.now) ≡ no_packet None =
    rw c.in-None.is at (c.in_ok-next.ensures.leads [] refl) in
    c.pages.invariant ∙ closed c.args.serial c.pages.place c.in-GoesOn.piece.now c.in-GoesOn.ensures (none_left c.in-GoesOn.piece.now none) ∙ leads
