use Rattle.std.proofs.Common.{length, refl}
use Rattle.std.proofs.lemmas.Result.{on_ok_weaker}
use Rattle.gate_file.specs.Gate.{staged_in}
use Rattle.gate_file.proofs.Staged.{has_staged, stages_more}
use Rattle.gate_file.proofs.staging.stage_pages.Goals as goal

pub returns-clause-staged : goal.returns-clause-staged
returns-clause-staged g c = on_ok_weaker c.write_next.result (λ wrote honest.
    let was = c.requires.staged honest in
    let old = g.D.Disk.state c.args.disk.now in
    let pages = c.args.pages.now in
    has_staged pages old _ c.args.end c.args.staged (length pages) was
    (stages_more _ (staged_in c.args.end c.args.staged old.contents) pages _ was.stages.more c.requires.pages (wrote honest))
    c.requires.pages c.requires.some refl) c.write_next.ensures.written
