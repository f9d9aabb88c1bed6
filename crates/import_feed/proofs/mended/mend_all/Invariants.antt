use Rattle.std.proofs.Common.{Option, List, ℕ}
use Rattle.import_changes.specs.declared.options.ChangeOptions.{ChangeOptions}
use Rattle.import_feed.specs.Mending.{StillMends}
use Rattle.import_feed.proofs.mended.mend_all.Given as goal

-- each turn took a step
abbrev pub invariant-loop : goal.invariant-loop
invariant-loop g l =
    (options : ChangeOptions) (before : Option (List ℕ)) (unaware : g.row.M.Denot) →
    StillMends g.M.Mends.tells options before (g.W.Write.contents l.initial.writer) unaware l.initial.mends l.initial.mending.import l.initial.mending →
    StillMends g.M.Mends.tells options before (g.W.Write.contents l.writer) unaware l.mends l.mending.import l.mending
