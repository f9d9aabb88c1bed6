use Rattle.std.proofs.Common.{◌-◌}
use Rattle.ogg_page.proofs.Walking.{IsShown}
use Rattle.ogg_page.proofs.visiting.walk.Given as goal

abbrev pub invariant-pages : goal.invariant-pages
invariant-pages g l =
    let s = g.S.PageSource in
    IsShown s.bytes s.is_honest s.size s.failures s.only_reads g.V.PageVisitor.sees l.fn.window l.fn.visitor l.window l.visitor

abbrev pub decreases-pages : goal.decreases-pages
decreases-pages g l = l.fn.window.to - l.window.at
