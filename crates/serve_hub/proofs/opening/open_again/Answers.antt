use Rattle.serve_hub.proofs.Reopening.{opened, lost}
use Rattle.serve_hub.proofs.Imaged.{reopened, fault_is}
use Rattle.serve_hub.proofs.opening.open_again.Goals as goal

pub returns-in-Ok-clause-found : goal.returns-in-Ok-clause-found
returns-in-Ok-clause-found g c = λ before over most_is.
    let d = g.D.Disk in
    let o = c.in-Ok.ensures in
    let ends = o.ends over.honest in
    opened d c.args.disk c.args.end before over c.in-Ok.recorder c.group.new.self c.args.most c.group.ensures.set
    (g.met.D.Disk.laws c.args.disk over.honest) c.end-end.ensures.always (o.opens.frame.honest.0 over.honest) ends.0 ends.2 o.fresh.0 o.fresh.2 most_is

pub returns-in-Err-clause-lost : goal.returns-in-Err-clause-lost
returns-in-Err-clause-lost g c = λ before over.
    let d = g.D.Disk in
    let e = c.in-Err.ensures in
    let new = c.in-Err.fault.1 in
    let honest = e.gives_back.frame.honest.0 over.honest in
    lost d c.args.disk c.args.end before over new honest (g.met.D.Disk.laws new honest) (e.gives_back.any_moment over.honest)

pub returns-in-Ok-clause-opened : goal.returns-in-Ok-clause-opened
returns-in-Ok-clause-opened g c =
    let d = g.D.Disk in
    reopened d c.args.disk c.in-Ok.recorder c.group.new.self c.args.most c.group.ensures.set c.in-Ok.ensures.opens.any_moment c.in-Ok.ensures.step
    c.group.ensures.stands c.in-Ok.ensures.opens.frame

pub returns-in-Err-clause-failed : goal.returns-in-Err-clause-failed
returns-in-Err-clause-failed g c =
    let e = c.in-Err.ensures in
    record {
      any_moment = e.gives_back.any_moment;
      step = λ first w stands closed honest. e.step_err first w closed honest;
      refused = e.reopens;
      frame = record {
        honest = e.gives_back.frame.honest;
        later = e.gives_back.frame.later;
        cause = λ is. e.gives_back.frame.cause (fault_is c.in-Err.fault.0 is);
      };
    }
