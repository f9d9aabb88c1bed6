use Rattle.std.proofs.Common.{sym, ◌∙◌, subst}
use Rattle.import_feed.specs.Turn.{TakesAll}
use Rattle.import_feed.proofs.Ends.{ends_of_input, rest_stops, stops_at}
use Rattle.import_feed.proofs.making.finish.Goals as goal

pub returns-in-Ok-close : goal.returns-in-Ok-close
returns-in-Ok-close g c = λ options from left before takes.
    let is = sym c.is_of_input.ensures ∙ c.if-is_of_input.true in
    stops_at options c.in-Err.fault from left before _ _ c.args.maker.now c.close.new.self is
    (ends_of_input options c.in-Err.fault from left before _ c.args.maker.now is (subst (λ outcome. TakesAll options outcome from left before (g.W.Write.contents c.args.writer.now) c.args.maker.now) c.in-Err.is takes)) c.in-Ok-close.ensures

pub returns-in-Err-close : goal.returns-in-Err-close
returns-in-Err-close g c = λ options from left before takes.
    let is = sym c.is_of_input.ensures ∙ c.if-is_of_input.true in
    let ends = ends_of_input options c.in-Err.fault from left before _ c.args.maker.now is (subst (λ outcome. TakesAll options outcome from left before (g.W.Write.contents c.args.writer.now) c.args.maker.now) c.in-Err.is takes) in
    rest_stops options c.in-Err-close.other from left before _ _ c.args.maker.now ends.links ends.given ends.offset ends.rest ends.taken ends.all c.in-Err-close.ensures
