use Rattle.std.proofs.Common.{rules, ◌+◌, ◌∙◌, ap, ◌++◌, take, drop}
use Rattle.disk_model.specs.Image.{DiskState}
use Rattle.record_actions.proofs.Pieces.{appended_more, read_then}
use Rattle.record_actions.proofs.copying.append_rest.Goals as goal

pub append-requires-clause-end : goal.append-requires-clause-end
append-requires-clause-end g c honest = c.loop-done.invariant.size (c.loop-done.invariant.honest.1 honest)

pub loop-done-preserved : goal.loop-done-preserved
loop-done-preserved g c =
    let inv = c.loop-done.invariant in
    let d = g.D.Disk in
    let k = g.C.Disk in
    let a = c.append.ensures in
    let one = c.in_ok-append.ensures in
    record {
      within = search rules;
      read = read_then d c.args.disk.now c.loop-done.disk c.append.new.disk inv.read a.read;
      honest = ((λ h. a.honest.0 (inv.honest.0 h)), (λ h. inv.honest.1 (a.honest.1 h)));
      size = λ h. one.longer (inv.honest.0 h);
      front = λ honest h.
          appended_more (k.state c.loop-done.copy).contents (k.state c.append.new.copy).contents (d.state c.args.disk.now).contents
          c.args.tail.offset c.loop-done.done c.min-count.result (inv.front honest h)
          (one.appended (inv.read.honest.0 honest) (inv.honest.0 h)
          ∙ ap (λ (s : DiskState). (k.state c.loop-done.copy).contents ++ take c.min-count.result (drop (c.args.tail.offset + c.loop-done.done) s.contents)) (inv.read.same honest));
    }
