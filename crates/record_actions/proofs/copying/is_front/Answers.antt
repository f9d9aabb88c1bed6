use Rattle.std.proofs.Common.{rules, ◌+◌, ◌∙◌, ap, sym, take, drop, Ok}
use Rattle.disk_model.specs.Image.{DiskState}
use Rattle.record_actions.proofs.Pieces.{read_then, same_more}
use Rattle.record_actions.proofs.copying.is_front.Goals as goal

pub loop-done-preserved : goal.loop-done-preserved
loop-done-preserved g c =
    let inv = c.loop-done.invariant in
    let d = g.D.Disk in
    let k = g.C.Disk in
    let a = c.is_same.ensures in
    record {
      within = search rules;
      read = read_then d c.args.disk.now c.loop-done.disk c.is_same.new.disk inv.read a.read;
      copy = read_then k c.args.copy.now c.loop-done.copy c.is_same.new.copy inv.copy a.copy;
      front = λ honest h.
          same_more (k.state c.args.copy.now).contents (d.state c.args.disk.now).contents
          c.args.tail.offset c.loop-done.done c.min-count.result (inv.front honest h)
          (ap (λ (s : DiskState). take c.min-count.result (drop c.loop-done.done s.contents)) (sym (inv.copy.same h))
          ∙ a.same (c.in_ok-is_same.was ∙ ap Ok c.if-not-branch.false) (inv.read.honest.0 honest) (inv.copy.honest.0 h)
          ∙ ap (λ (s : DiskState). take c.min-count.result (drop (c.args.tail.offset + c.loop-done.done) s.contents)) (inv.read.same honest));
    }
