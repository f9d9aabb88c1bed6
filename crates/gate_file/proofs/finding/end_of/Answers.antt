use Rattle.std.proofs.Common.{◌-◌, true, false, refl, sym, subst, arith}
use Rattle.disk_model.specs.Image.{DiskState}
use Rattle.gate_file.specs.Found.{HasEnd}
use Rattle.gate_file.specs.Visiting.{EndsAfter, all_of}
use Rattle.gate_file.proofs.Ends.{ended_at, Told, false_true, all_end, damaged_there, tail_there}
use Rattle.gate_file.proofs.finding.end_of.Goals as goal

pub returns-in-Ok-clause-ends : goal.returns-in-Ok-clause-ends
returns-in-Ok-clause-ends g c = λ honest.
    let passed = c.requires.passed honest in
    all_end passed.0 _ c.args.size (subst (λ r. EndsAfter passed.0 (all_of (g.D.Disk.state c.args.disk.now).contents) r) c.in-Ok.is passed.1) (c.requires.settled honest) (c.requires.size honest)

pub returns-then-size-at-gt1-clause-damaged : goal.returns-then-size-at-gt1-clause-damaged
returns-then-size-at-gt1-clause-damaged g c = λ offset fault same honest.
    let contents = (g.D.Disk.state c.args.disk.now).contents in
    let passed = c.requires.passed honest in
    let after = ended_at passed.0 contents _ _ c.in-Page.place c.min-at.result c.args.size c.in-Page.fault c.in-Err.is c.in-Page.is passed.1 (c.requires.size honest) c.min-at.ensures in
    subst (Told contents) same
    (damaged_there passed.0 contents c.min-at.result c.args.size c.in-Page.fault after (c.requires.size honest) ((c.in-Ok-true.ensures.capture honest).0 c.in-Ok-true.field-0-test) c.if-size-at-gt1.true)

pub returns-else-size-at-gt1-clause-ends : goal.returns-else-size-at-gt1-clause-ends
returns-else-size-at-gt1-clause-ends g c = λ honest.
    let disk = g.D.Disk.state c.args.disk.now in
    let at = c.min-at.result in
    let passed = c.requires.passed honest in
    let after = ended_at passed.0 disk.contents _ _ c.in-Page.place c.min-at.result c.args.size c.in-Page.fault c.in-Err.is c.in-Page.is passed.1 (c.requires.size honest) c.min-at.ensures in
    let gate = c.in-Ok-true.ensures.capture honest in
    let few = c.if-size-at-gt1.false in
    subst (λ (s : DiskState). HasEnd at (c.args.size - at) false s) (sym (c.begins_page.ensures.reads.same honest))
    (tail_there passed.0 disk at c.args.size c.in-Page.fault true after (c.requires.settled honest) (c.requires.size honest)
    (λ is. gate.0 c.in-Ok-true.field-0-test) (λ first. refl) (λ is more. absurd (omega (arith, few, more))))

pub returns-in-Ok-false-clause-ends : goal.returns-in-Ok-false-clause-ends
returns-in-Ok-false-clause-ends g c = λ honest.
    let disk = g.D.Disk.state c.args.disk.now in
    let at = c.min-at.result in
    let passed = c.requires.passed honest in
    let after = ended_at passed.0 disk.contents _ _ c.in-Page.place c.min-at.result c.args.size c.in-Page.fault c.in-Err.is c.in-Page.is passed.1 (c.requires.size honest) c.min-at.ensures in
    let gate = c.in-Ok-false.ensures.capture honest in
    subst (λ (s : DiskState). HasEnd at (c.args.size - at) true s) (sym (c.begins_page.ensures.reads.same honest))
    (tail_there passed.0 disk at c.args.size c.in-Page.fault false after (c.requires.settled honest) (c.requires.size honest)
    (λ is. absurd (false_true false refl is)) (λ first. absurd (false_true _ c.in-Ok-false.field-0-test (gate.1 first))) (λ is more. false_true false refl is))
