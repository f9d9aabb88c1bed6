use Rattle.std.proofs.Common.{◌∙◌, ap, arith, length, length-append, [], ◌∷◌}
use Rattle.archive_record.proofs.rotation.Rotation.look_at_all.Goals as goal

pub returns-in-Err-clause-leads : goal.returns-in-Err-clause-leads
returns-in-Err-clause-leads g c = λ honest a disks named.
    let so_far = c.loop-at.invariant.leads honest a disks named in
    let now = c.loop-at.invariant.honest.0 honest in (
      c.look-held.ensures.names now ∙ so_far.0,
      c.files_lead_on.ensures.both a a a c.args.self.now.files.folder c.loop-at.self.files.folder c.look-held.new.files.folder disks disks disks so_far.1
          (c.look-held.ensures.leads now a disks so_far.0),
    )

pub loop-at-preserved : goal.loop-at-preserved
loop-at-preserved g c =
    let was = c.loop-at.invariant in
    let all = length-append c.loop-at.self.held.items (c.look-held.result ∷ []) in
    let pushed = ap length c.in-Ok.ensures.items in
    record {
      out = c.look-held.ensures.out ∙ was.out;
      rules = was.rules;
      files = c.look-held.ensures.files ∙ was.files;
      count = omega (arith, all, pushed, was.count);
      leads = λ honest a disks named.
          let so_far = was.leads honest a disks named in
          let now = was.honest.0 honest in (
            c.look-held.ensures.names now ∙ so_far.0,
            c.files_lead_on.ensures.both a a a c.args.self.now.files.folder c.loop-at.self.files.folder c.look-held.new.files.folder disks disks disks so_far.1
                (c.look-held.ensures.leads now a disks so_far.0),
          );
      places = λ honest. c.look-held.ensures.places (was.honest.0 honest) ∙ was.places honest;
      honest = (λ now. c.look-held.ensures.honest.0 (was.honest.0 now), λ now. was.honest.1 (c.look-held.ensures.honest.1 now));
    }
