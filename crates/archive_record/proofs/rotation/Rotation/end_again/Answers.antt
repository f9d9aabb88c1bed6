use Rattle.std.proofs.Common.{◌∙◌, ap, refl}
use Rattle.archive_record.specs.declared.rotation.Rules.{Rules}
use Rattle.archive_record.proofs.Reaching.{asked_back, back_free, back_then, back_then_free, stays_back}
use Rattle.archive_record.proofs.rotation.Rotation.end_again.Goals as goal

pub loop-init : goal.loop-init
loop-init g c =
    let f = g.F.Folder in
    record {
      out = c.requires;
      bound = λ none. none;
      leads = λ honest a newest disks at hand.
          asked_back f.names f.moment f.left_since f.file g.D.Disk c.files_lead_on.ensures c.args.self.now.files c.args.self.now.files a newest disks at hand refl (λ m other is. is)
          (c.files_lead_on.ensures.nothing a c.args.self.now.files.folder disks);
      honest = (λ now. now, λ now. now);
    }

pub returns-then-not-make_room-clause-leads : goal.returns-then-not-make_room-clause-leads
returns-then-not-make_room-clause-leads g c = λ honest a newest disks at hand.
    let f = g.F.Folder in
    let law = c.files_lead_on.ensures in
    let now = c.loop.invariant.honest.0 honest in
    back_free f.names f.moment f.left_since f.file g.D.Disk law c.args.self.now.files c.make_room.new.self.files a disks newest.name.number
    (back_then f.names f.moment f.left_since f.file g.D.Disk law c.args.self.now.files c.loop.self.files c.make_room.new.self.files a disks newest.name.number
    (c.loop.invariant.leads honest a newest disks at hand)
    (λ b file after there rests. stays_back f.names f.moment f.left_since f.file g.D.Disk law c.loop.self.files c.make_room.new.self.files b file after there rests
    c.make_room.ensures.left (c.make_room.ensures.places now) (c.make_room.ensures.leads now b after there.last there.stands.names_are)))

pub returns-in-Some-clause-leads : goal.returns-in-Some-clause-leads
returns-in-Some-clause-leads g c = λ honest a newest disks at hand.
    let f = g.F.Folder in
    let law = c.files_lead_on.ensures in
    let now = c.loop.invariant.honest.0 honest in
    let mid = c.make_room.ensures.honest.0 now in
    back_then_free f.names f.moment f.left_since f.file g.D.Disk law c.args.self.now.files c.make_room.new.self.files c.end_last.new.files a disks newest.name.number
    (back_then f.names f.moment f.left_since f.file g.D.Disk law c.args.self.now.files c.loop.self.files c.make_room.new.self.files a disks newest.name.number
    (c.loop.invariant.leads honest a newest disks at hand)
    (λ b file after there rests. stays_back f.names f.moment f.left_since f.file g.D.Disk law c.loop.self.files c.make_room.new.self.files b file after there rests
    c.make_room.ensures.left (c.make_room.ensures.places now) (c.make_room.ensures.leads now b after there.last there.stands.names_are)))
    (c.in-Some.ensures.ended mid)

pub returns-clause-leads : goal.returns-clause-leads
returns-clause-leads g c = λ honest a newest disks at hand.
    let f = g.F.Folder in
    back_free f.names f.moment f.left_since f.file g.D.Disk c.files_lead_on.ensures c.args.self.now.files c.loop.self.files a disks newest.name.number
    (c.loop.invariant.leads honest a newest disks at hand)

pub loop-preserved : goal.loop-preserved
loop-preserved g c =
    let f = g.F.Folder in
    let law = c.files_lead_on.ensures in
    record {
      out = c.end_last.ensures.none (c.make_room.ensures.out ∙ c.loop.invariant.out);
      bound = λ none. ap (λ (r : Rules). r.keeping.bytes) c.make_room.ensures.rules ∙ c.loop.invariant.bound none;
      leads = λ honest a newest disks at hand.
          let now = c.loop.invariant.honest.0 honest in
          let mid = c.make_room.ensures.honest.0 now in
          back_then f.names f.moment f.left_since f.file g.D.Disk law c.args.self.now.files c.make_room.new.self.files c.end_last.new.files a disks newest.name.number
          (back_then f.names f.moment f.left_since f.file g.D.Disk law c.args.self.now.files c.loop.self.files c.make_room.new.self.files a disks newest.name.number
          (c.loop.invariant.leads honest a newest disks at hand)
          (λ b file after there rests. stays_back f.names f.moment f.left_since f.file g.D.Disk law c.loop.self.files c.make_room.new.self.files b file after there rests
          c.make_room.ensures.left (c.make_room.ensures.places now) (c.make_room.ensures.leads now b after there.last there.stands.names_are)))
          (c.in_default.ensures.back mid);
      honest = (
        λ now. c.end_last.ensures.honest.0 (c.make_room.ensures.honest.0 (c.loop.invariant.honest.0 now)),
        λ now. c.loop.invariant.honest.1 (c.make_room.ensures.honest.1 (c.end_last.ensures.honest.1 now)),
      );
    }
