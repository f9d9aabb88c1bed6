use Rattle.std.proofs.Common.{◌≡◌, ◌-◌, List, length, map, sym, ◌∙◌, ap, length-drop}
use Rattle.ogg_page.specs.Page.{Page}
use Rattle.packetiser.specs.Run.{Timed, pages_of_run, flagged}
use Rattle.packetiser.proofs.PageByPage.{count_of_pages}
use Rattle.packetiser.proofs.paging.RunPages.left.Goals as goal

pub returns-clause-value : goal.returns-clause-value
returns-clause-value g c =
    let in_it = c.self.inside in
    let run : List Timed = map g.T.TimedPacket.timed in_it.run.now in
    let pages : List Page = flagged in_it.flags (pages_of_run in_it.serial in_it.first_sequence run) in
    let all : length pages ≡ in_it.count = count_of_pages in_it.serial in_it.first_sequence in_it.flags run ∙ sym c.self.invariant.count_is in
    ap (λ n. n - in_it.next) (sym all) ∙ sym (length-drop in_it.next pages) ∙ ap (λ (l : List Page). length l) c.self.view_is
