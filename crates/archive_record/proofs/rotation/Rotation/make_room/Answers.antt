use Rattle.std.proofs.Common.{◌∙◌, refl}
use Rattle.archive_record.proofs.Retained.{left_same, left_then}
use Rattle.archive_record.proofs.Staying.{goes_on, nothing_goes}
use Rattle.archive_record.proofs.rotation.Rotation.make_room.Goals as goal

pub returns-then-throw_one-clause-left : goal.returns-then-throw_one-clause-left
returns-then-throw_one-clause-left g c =
    left_then c.args.self.now.files.files c.loop.self.files.files c.throw_one.new.self.files.files c.loop.invariant.left c.throw_one.ensures.left

pub loop-preserved : goal.loop-preserved
loop-preserved g c = record {
  left = left_then c.args.self.now.files.files c.loop.self.files.files c.throw_one.new.self.files.files c.loop.invariant.left c.throw_one.ensures.left;
  paired = λ same. c.throw_one.ensures.paired (c.loop.invariant.paired same);
  out = c.throw_one.ensures.out ∙ c.loop.invariant.out;
  rules = c.throw_one.ensures.rules ∙ c.loop.invariant.rules;
  leads = λ honest a disks last named. goes_on g.F.Folder.names g.F.Folder.moment g.F.Folder.left_since g.D.Disk c.args.self.now.files.files c.loop.self.files.files a
      c.args.self.now.files.folder c.loop.self.files.folder c.throw_one.new.self.files.folder disks last c.loop.invariant.left (c.loop.invariant.leads honest a disks last named)
      (λ b is here. c.throw_one.ensures.leads (c.loop.invariant.honest.0 honest) b disks is here);
  places = λ honest. c.throw_one.ensures.places (c.loop.invariant.honest.0 honest) ∙ c.loop.invariant.places honest;
  honest = (λ now. c.throw_one.ensures.honest.0 (c.loop.invariant.honest.0 now), λ now. c.loop.invariant.honest.1 (c.throw_one.ensures.honest.1 now));
}

pub returns-then-throw_one-clause-leads : goal.returns-then-throw_one-clause-leads
returns-then-throw_one-clause-leads g c = λ honest a disks last named.
    goes_on g.F.Folder.names g.F.Folder.moment g.F.Folder.left_since g.D.Disk c.args.self.now.files.files c.loop.self.files.files a
    c.args.self.now.files.folder c.loop.self.files.folder c.throw_one.new.self.files.folder disks last c.loop.invariant.left (c.loop.invariant.leads honest a disks last named)
    (λ b is here. c.throw_one.ensures.leads (c.loop.invariant.honest.0 honest) b disks is here)

pub loop-init : goal.loop-init
loop-init g c = record {
  left = left_same c.args.self.now.files.files;
  paired = λ same. same;
  out = refl;
  rules = refl;
  leads = λ honest a disks last named. nothing_goes g.F.Folder.names g.F.Folder.moment g.F.Folder.left_since g.D.Disk a c.args.self.now.files.folder disks named;
  places = λ honest. refl;
  honest = (λ now. now, λ now. now);
}
