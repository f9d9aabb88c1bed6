use Rattle.std.proofs.Common.{◌∙◌}
use Rattle.archive_cut.proofs.continuing.behind_ends.Goals as goal

pub pages-preserved : goal.pages-preserved
pages-preserved g c =
    let inv = c.pages.invariant in
    let on = c.read_said.ensures in
    record {
      bytes_same = λ sure. on.source.bytes_same (inv.honest_same.0 sure) ∙ inv.bytes_same sure;
      honest_same = ((λ h. on.source.honest_same.0 (inv.honest_same.0 h)), (λ h. inv.honest_same.1 (on.source.honest_same.1 h)));
      size_same = on.source.size_same ∙ inv.size_same;
      only = g.met.S.PageSource.reads_on _ _ _ inv.only on.source.only;
    }
