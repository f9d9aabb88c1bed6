use Rattle.packet_view.proofs.Steps.{there_already}
use Rattle.packet_view.proofs.reaching.reach.Goals as goal

pub returns-in-Some : goal.returns-in-Some
returns-in-Some g c =
    let s = g.S.PageSource in
    there_already s.bytes s.is_honest s.size s.failures s.only_reads c.args.serial c.args.progress c.args.window.now c.in-Some.field-0 g.met.S.PageSource.reads_nothing c.in-Some.is c.requires
