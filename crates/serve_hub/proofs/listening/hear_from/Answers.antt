use Rattle.std.proofs.Common.{length, refl}
use Rattle.file_recorder.specs.Recorder.{committed}
use Rattle.serve_hub.specs.Images.{Fails}
use Rattle.serve_hub.proofs.FileRead.{if_both}
use Rattle.serve_hub.proofs.Heard.{cause_of, hears_of, place_file, read_shows}
use Rattle.serve_hub.proofs.listening.hear_from.Goals as goal

pub returns-in-Some-clause-hears : goal.returns-in-Some-clause-hears
returns-in-Some-clause-hears g c lost machine moment given s hearing =
    let d = g.D.Disk in
    let f = place_file d c.args.file.now c.in-Some.recorder lost machine c.in-Some.is s in
    hears_of moment given c.args.listener.now c.hear_in.new.listener (length c.args.buffer.now) c.hear_in.new.buffer c.hear_in.result (committed d.state c.in-Some.recorder) machine.committed f.committed_is
    (c.hear_in.ensures.hears moment given f.honest) hearing

pub returns-in-Some-clause-shows : goal.returns-in-Some-clause-shows
returns-in-Some-clause-shows g c lost machine s =
    let d = g.D.Disk in
    let f = place_file d c.args.file.now c.in-Some.recorder lost machine c.in-Some.is s in
    read_shows d c.in-Some.recorder c.hear_in.new.recorder machine f c.hear_in.ensures.disk

pub returns-in-Some-clause-cause : goal.returns-in-Some-clause-cause
returns-in-Some-clause-cause g c lost machine moment given s hearing e =
    let d = g.D.Disk in
    let r = c.in-Some.recorder in
    let f = place_file d c.args.file.now r lost machine c.in-Some.is s in
    let both = cause_of moment given c.args.listener.now (length c.args.buffer.now) (Fails d r c.hear_in.new.recorder) (committed d.state r) machine.committed f.committed_is
    (λ here. c.hear_in.ensures.cause moment given f.honest here e) hearing in
    (if_both (Fails d) _ _ r _ c.in-Some.is refl both.0, both.1)
