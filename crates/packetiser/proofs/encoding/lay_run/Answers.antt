use Rattle.std.proofs.Common.{◌≡◌, ℕ, List, ◌++◌, length, map, sum_by, ◌∙◌, ap, arith, length-append}
use Rattle.std.proofs.lemmas.Result.{err_from_is_err_and}
use Rattle.ogg_page.specs.Page.{Page, bytes_of_pages, page_bytes, page_size}
use Rattle.ogg_page.specs.PageLaws.{length-page_bytes}
use Rattle.packetiser.specs.Run.{Timed, pages_of_run, run_lacing, run_bytes, size_for, flagged, whole_page}
use Rattle.packetiser.specs.Laws.Appending.{length-bytes_of_pages, flagged_size}
use Rattle.packetiser.specs.Laws.Pieces.{run_bytes_all}
use Rattle.packetiser.proofs.WholePage.{written_whole, counted_whole, sized_whole}
use Rattle.packetiser.proofs.encoding.lay_run.Goals as goal

pub returns-in-Some-clause-pages : goal.returns-in-Some-clause-pages
returns-in-Some-clause-pages g c =
    counted_whole (map g.T.TimedPacket.timed c.args.run.now) (g.T.TimedPacket.timed c.in-Some.item.now) c.in-Some.ensures.0 c.in-Some.ensures.1

pub returns-in-Some-clause-ok : goal.returns-in-Some-clause-ok
returns-in-Some-clause-ok g c =
    let item : Timed = g.T.TimedPacket.timed c.in-Some.item.now in
    c.in_ok-lay_packet.ensures.ok ∙ ap (λ l. c.args.out.now.items ++ l)
    (written_whole c.args.serial c.args.first_sequence c.args.flags (map g.T.TimedPacket.timed c.args.run.now) item c.in-Some.ensures.0 c.in-Some.ensures.1)

pub returns-in-Some-clause-len : goal.returns-in-Some-clause-len
returns-in-Some-clause-len g c =
    let item : Timed = g.T.TimedPacket.timed c.in-Some.item.now in
    let page = whole_page c.args.serial c.args.first_sequence c.args.flags item in
    omega (
      arith,
      c.args.out.now.ok.0,
      c.lay_packet.new.out.ok.0,
      ap length c.in_ok-lay_packet.ensures.ok,
      length-append c.args.out.now.items (page_bytes page),
      length-page_bytes page,
      sized_whole c.args.serial c.args.first_sequence c.args.flags (map g.T.TimedPacket.timed c.args.run.now) item c.in-Some.ensures.0 c.in-Some.ensures.1,
    )

pub returns-in_err-lay_packet-clause-full : goal.returns-in_err-lay_packet-clause-full
returns-in_err-lay_packet-clause-full g c =
    let item : Timed = g.T.TimedPacket.timed c.in-Some.item.now in
    let p = err_from_is_err_and c.from_residual.result c.from_residual.ensures.1 in
    rw p.1 (
    omega (
      arith,
      c.in_err-lay_packet.ensures.full,
      sized_whole c.args.serial c.args.first_sequence c.args.flags (map g.T.TimedPacket.timed c.args.run.now) item c.in-Some.ensures.0 c.in-Some.ensures.1,
    )
    )

-- how many bytes the pages have, whatever their flags
size_is : (serial first flags : ℕ) (run : List Timed) →
    sum_by page_size (flagged flags (pages_of_run serial first run)) ≡ size_for (length (run_lacing run)) (length (run_bytes run))
size_is serial first flags run = flagged_size flags (pages_of_run serial first run) ∙ run_bytes_all serial first run

pub append-requires : goal.append-requires
append-requires g c =
    let run : List Timed = map g.T.TimedPacket.timed c.args.run.now in
    let size : c.size_of.result ≡ size_for (length (run_lacing run)) (length (run_bytes run)) =
    c.size_of.ensures ∙ ap (λ n. size_for n c.values_and_bytes-values.result.1) c.values_and_bytes-values.ensures.values ∙ ap (size_for (length (run_lacing run))) c.values_and_bytes-values.ensures.bytes in
    record {
      room = omega (arith, size, ap (sum_by page_size) c.counted.ensures, size_is c.args.serial c.args.first_sequence c.args.flags run, c.in_ok-reserve.ensures.ok, c.in_ok-reserve.ensures.len);
    }

pub returns-clause-len : goal.returns-clause-len
returns-clause-len g c =
    let run : List Timed = map g.T.TimedPacket.timed c.args.run.now in
    let pages : List Page = flagged c.args.flags (pages_of_run c.args.serial c.args.first_sequence run) in
    omega (
      arith,
      c.append.new.out.ok.0,
      ap length c.append.ensures.items,
      length-append c.reserve.new.self.items (bytes_of_pages c.counted.result),
      ap (λ (l : List Page). length (bytes_of_pages l)) c.counted.ensures,
      length-bytes_of_pages pages,
      size_is c.args.serial c.args.first_sequence c.args.flags run,
      c.in_ok-reserve.ensures.len,
      c.reserve.new.self.ok.0,
    )
