use Rattle.std.proofs.Common.{◌≡◌, ap, arith, Ok, Err}
use Rattle.std.proofs.lemmas.Grind.{common_steps}
use Rattle.packet_view.proofs.Steps.{reached, has_reached}
use Rattle.packet_view.proofs.reaching.go_on.Goals as goal

pub returns-in-Ok : goal.returns-in-Ok
returns-in-Ok g c =
    let s = g.S.PageSource in
    let is : c.map_err.result ≡ reached (Ok c.in-Ok.field-0) c.walk.new.visitor.found = grind (arith, common_steps, c.map_err.ensures.cases) in
    has_reached s.bytes s.is_honest s.size s.failures s.only_reads c.args.serial c.args.progress c.args.window.now c.start-search.result (Ok c.in-Ok.field-0) c.walk.new.window c.walk.new.visitor
    c.map_err.result c.requires c.start-search.ensures is c.in-Ok.ensures.walked c.walk.ensures.source c.in-Ok.ensures.cause

pub returns-in-Err : goal.returns-in-Err
returns-in-Err g c =
    let s = g.S.PageSource in
    has_reached s.bytes s.is_honest s.size s.failures s.only_reads c.args.serial c.args.progress c.args.window.now c.start-search.result (Err c.in-Err.fault) c.walk.new.window c.walk.new.visitor
    (Err c.of_window.result) c.requires c.start-search.ensures (ap Err c.of_window.ensures) c.in-Err.ensures.walked c.walk.ensures.source c.in-Err.ensures.cause
