use Rattle.serve_hub.proofs.Sessions.{new_shows}
use Rattle.serve_hub.proofs.hub.Hub.with_room.Goals as goal

pub returns-in-Ok-clause-shown : goal.returns-in-Ok-clause-shown
returns-in-Ok-clause-shown g c = λ fine honest.
    let d = g.D.Disk in
    new_shows d c.args.most c.args.recorder c.new.result c.in-Ok.sessions.items c.in-Ok.ensures.none c.new.ensures c.end-end.ensures.always fine honest
    (g.met.D.Disk.laws c.args.recorder.file.disk honest).contents_is_image
