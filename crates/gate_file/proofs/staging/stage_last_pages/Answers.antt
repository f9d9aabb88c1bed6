use Rattle.std.proofs.Common.{◌≡◌, ◌+◌, ◌-◌, length, ◌++◌, sym, arith, length-append}
use Rattle.std.proofs.lemmas.List.{length-take-le}
use Rattle.std.proofs.lemmas.Result.{on_ok_weaker}
use Rattle.gate_file.specs.Gate.{pages_in, staged_in}
use Rattle.gate_file.proofs.Staged.{has_staged, stages_last, whole_stages, is_whole}
use Rattle.gate_file.proofs.staging.stage_last_pages.Goals as goal

pub returns-clause-staged : goal.returns-clause-staged
returns-clause-staged g c = on_ok_weaker c.write_next.result (λ wrote honest.
    let was = c.requires.staged honest in
    let old = g.D.Disk.state c.args.disk.now in
    let bytes = c.args.bytes.now in
    let size : length bytes - 1 ≡ length (pages_in bytes) = sym (length-take-le (length bytes - 1) bytes (omega arith)) in
    has_staged (pages_in bytes) old _ c.args.end c.args.staged (length bytes - 1) was
    (whole_stages _ _ _ (stages_last _ (staged_in c.args.end c.args.staged old.contents) bytes _ was.stages.more c.requires.pages (wrote honest)))
    c.requires.pages.pages c.requires.pages.some size) c.write_next.ensures.written

pub returns-clause-whole : goal.returns-clause-whole
returns-clause-whole g c = on_ok_weaker c.write_next.result (λ wrote honest.
    let was = c.requires.staged honest in
    let old = g.D.Disk.state c.args.disk.now in
    let bytes = c.args.bytes.now in
    let all = staged_in c.args.end c.args.staged old.contents in
    let size : length bytes - 1 ≡ length (pages_in bytes) = sym (length-take-le (length bytes - 1) bytes (omega arith)) in
    is_whole _ (all ++ pages_in bytes) _ c.args.end (c.args.staged + (length bytes - 1))
    (stages_last _ all bytes _ was.stages.more c.requires.pages (wrote honest)) was.long
    (omega (arith, size, was.size, length-append all (pages_in bytes)))) c.write_next.ensures.written
