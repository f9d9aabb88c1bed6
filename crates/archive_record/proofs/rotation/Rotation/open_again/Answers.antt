use Rattle.std.proofs.Common.{◌∙◌, [], ap, refl}
use Rattle.file_recorder.specs.Recorder.{RecorderState}
use Rattle.archive_record.proofs.Reaching.{asked_back, back_then, back_then_written, stays_back, told_written}
use Rattle.archive_record.proofs.rotation.Rotation.open_again.Goals as goal

pub loop-init : goal.loop-init
loop-init g c =
    let f = g.F.Folder in
    record {
      rules = refl;
      leads = λ honest a newest disks at hand.
          asked_back f.names f.moment f.left_since f.file g.D.Disk c.files_lead_on.ensures c.args.self.now.files c.args.self.now.files a newest disks at hand refl (λ m other is. is)
          (c.files_lead_on.ensures.nothing a c.args.self.now.files.folder disks);
      honest = (λ now. now, λ now. now);
    }

pub returns-in-Ok-clause-leads : goal.returns-in-Ok-clause-leads
returns-in-Ok-clause-leads g c = λ honest a newest disks at hand.
    let f = g.F.Folder in
    let law = c.files_lead_on.ensures in
    let now = c.loop.invariant.honest.0 honest in
    back_then_written f.names f.moment f.left_since f.file g.D.Disk law c.args.self.now.files c.loop.self.files c.open_last.new.files a disks newest.name.number c.group.new.self
    (c.loop.invariant.leads honest a newest disks at hand)
    (λ b file after there rests. told_written f.names f.moment f.left_since f.file g.D.Disk law c.loop.self.files c.open_last.new.files b after file.name.number c.in-Ok.recorder c.group.new.self
    (ap (λ (r : RecorderState _). r.file) c.group.ensures.set) (c.group.ensures.stands []) (c.in-Ok.ensures.leads now b file after there rests))

pub returns-then-not-make_room-clause-unopened : goal.returns-then-not-make_room-clause-unopened
returns-then-not-make_room-clause-unopened g c = λ honest a newest disks at hand.
    let f = g.F.Folder in
    let law = c.files_lead_on.ensures in
    let now = c.loop.invariant.honest.0 honest in
    let mid = c.open_last.ensures.honest.0 now in
    back_then f.names f.moment f.left_since f.file g.D.Disk law c.args.self.now.files c.open_last.new.files c.make_room.new.self.files a disks newest.name.number
    (back_then f.names f.moment f.left_since f.file g.D.Disk law c.args.self.now.files c.loop.self.files c.open_last.new.files a disks newest.name.number
    (c.loop.invariant.leads honest a newest disks at hand) (c.in-Err.ensures.unopened now))
    (λ b file after there rests. stays_back f.names f.moment f.left_since f.file g.D.Disk law c.open_last.new.files c.make_room.new.self.files b file after there rests
    c.make_room.ensures.left (c.make_room.ensures.places mid) (c.make_room.ensures.leads mid b after there.last there.stands.names_are))

pub loop-preserved : goal.loop-preserved
loop-preserved g c =
    let f = g.F.Folder in
    let law = c.files_lead_on.ensures in
    record {
      rules = c.make_room.ensures.rules ∙ c.loop.invariant.rules;
      leads = λ honest a newest disks at hand.
          let now = c.loop.invariant.honest.0 honest in
          let mid = c.open_last.ensures.honest.0 now in
          back_then f.names f.moment f.left_since f.file g.D.Disk law c.args.self.now.files c.open_last.new.files c.make_room.new.self.files a disks newest.name.number
          (back_then f.names f.moment f.left_since f.file g.D.Disk law c.args.self.now.files c.loop.self.files c.open_last.new.files a disks newest.name.number
          (c.loop.invariant.leads honest a newest disks at hand) (c.in-Err.ensures.unopened now))
          (λ b file after there rests. stays_back f.names f.moment f.left_since f.file g.D.Disk law c.open_last.new.files c.make_room.new.self.files b file after there rests
          c.make_room.ensures.left (c.make_room.ensures.places mid) (c.make_room.ensures.leads mid b after there.last there.stands.names_are));
      honest = (
        λ now. c.make_room.ensures.honest.0 (c.open_last.ensures.honest.0 (c.loop.invariant.honest.0 now)),
        λ now. c.loop.invariant.honest.1 (c.open_last.ensures.honest.1 (c.make_room.ensures.honest.1 now)),
      );
    }
