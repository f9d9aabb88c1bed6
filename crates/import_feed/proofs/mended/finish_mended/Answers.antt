use Rattle.std.proofs.Common.{sym, ◌∙◌, subst, Err}
use Rattle.import_feed.specs.Mending.{EndsMended, StopsReading, TakesAllMended}
use Rattle.import_feed.proofs.MendedSteps.{ends_reading, mended_whole, read_stops}
use Rattle.import_feed.proofs.mended.finish_mended.Goals as goal

pub returns-in-Ok-close : goal.returns-in-Ok-close
returns-in-Ok-close g c = λ options before unaware takes.
    let ends : EndsMended g.M.Mends.tells options before (g.W.Write.contents c.args.writer.now) unaware c.args.mends.now c.args.mending.now.import c.args.mending.now =
    subst (λ outcome. TakesAllMended g.M.Mends.tells options outcome before (g.W.Write.contents c.args.writer.now) unaware c.args.mends.now c.args.mending.now) c.in-Ok.is takes in
    mended_whole g.M.Mends.tells options before _ _ unaware _ _ c.args.mending.now c.close.new.self ends
    (c.in-Ok-close.ensures options before unaware c.args.mending.now.import ends.still)

pub returns-in-Err-close : goal.returns-in-Err-close
returns-in-Err-close g c = λ options before unaware takes.
    let ends : EndsMended g.M.Mends.tells options before (g.W.Write.contents c.args.writer.now) unaware c.args.mends.now c.args.mending.now.import c.args.mending.now =
    subst (λ outcome. TakesAllMended g.M.Mends.tells options outcome before (g.W.Write.contents c.args.writer.now) unaware c.args.mends.now c.args.mending.now) c.in-Ok.is takes in
    c.in-Err-close.ensures options before unaware c.args.mending.now.import ends.still

pub returns-in-Ok-close-2 : goal.returns-in-Ok-close-2
returns-in-Ok-close-2 g c = λ options before unaware takes.
    let is = sym c.is_of_input.ensures ∙ c.if-is_of_input.true in
    let stops : TakesAllMended g.M.Mends.tells options (Err c.in-Err.fault) before (g.W.Write.contents c.args.writer.now) unaware c.args.mends.now c.args.mending.now =
    subst (λ outcome. TakesAllMended g.M.Mends.tells options outcome before (g.W.Write.contents c.args.writer.now) unaware c.args.mends.now c.args.mending.now) c.in-Err.is takes in
    let reads : StopsReading g.M.Mends.tells options before (g.W.Write.contents c.args.writer.now) unaware c.args.mends.now c.args.mending.now =
    ends_reading g.M.Mends.tells options c.in-Err.fault before _ unaware _ c.args.mending.now is stops in
    read_stops g.M.Mends.tells options c.in-Err.fault before _ _ unaware _ _ c.args.mending.now is stops
    (c.in-Ok-close-2.ensures options before unaware reads.last reads.still).feed

pub returns-in-Err-close-2 : goal.returns-in-Err-close-2
returns-in-Err-close-2 g c = λ options before unaware takes.
    let is = sym c.is_of_input.ensures ∙ c.if-is_of_input.true in
    let stops : TakesAllMended g.M.Mends.tells options (Err c.in-Err.fault) before (g.W.Write.contents c.args.writer.now) unaware c.args.mends.now c.args.mending.now =
    subst (λ outcome. TakesAllMended g.M.Mends.tells options outcome before (g.W.Write.contents c.args.writer.now) unaware c.args.mends.now c.args.mending.now) c.in-Err.is takes in
    let reads : StopsReading g.M.Mends.tells options before (g.W.Write.contents c.args.writer.now) unaware c.args.mends.now c.args.mending.now =
    ends_reading g.M.Mends.tells options c.in-Err.fault before _ unaware _ c.args.mending.now is stops in
    c.in-Err-close-2.ensures options before unaware reads.last reads.still
