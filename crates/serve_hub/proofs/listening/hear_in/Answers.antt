use Rattle.std.proofs.Common.{[], length, refl, sym, ◌∙◌, append-nil}
use Rattle.file_recorder.specs.Recorder.{committed}
use Rattle.serve_hub.proofs.FileRead.{was_read}
use Rattle.serve_hub.proofs.listening.hear_in.Goals as goal

pub returns-in-Ok-clause-hears : goal.returns-in-Ok-clause-hears
returns-in-Ok-clause-hears g c moment given honest hearing =
    let d = g.D.Disk in
    let bytes = committed d.state c.args.recorder.now in
    let inside = c.end-end.ensures.inside honest in
    let long = inside ∙ sym c.end-end.ensures.end in
    let gives = c.in-Ok.ensures.gives bytes [] hearing.rest (honest, inside) (sym (append-nil bytes)) long hearing.left in
    let moved = c.in-Ok.ensures.moves bytes [] hearing.rest (honest, inside) (sym (append-nil bytes)) long hearing.left in
    record {
      count_is = gives.count_is;
      hearing = c.listeners_hear_what_they_should.ensures.pulls moment bytes c.args.listener.now c.pull.new.self given (length c.args.buffer.now) c.in-Ok.count c.pull.new.buffer hearing gives moved;
    }

pub returns-in-Ok-clause-disk : goal.returns-in-Ok-clause-disk
returns-in-Ok-clause-disk g c =
    let d = g.D.Disk in
    let kept = c.pull.ensures.source in
    was_read d _ _ kept.only.0 kept.only.1 c.pull.ensures.later

pub returns-in-Err-clause-cause : goal.returns-in-Err-clause-cause
returns-in-Err-clause-cause g c moment given honest hearing e =
    let d = g.D.Disk in
    let bytes = committed d.state c.args.recorder.now in
    let inside = c.end-end.ensures.inside honest in
    let long = inside ∙ sym c.end-end.ensures.end in
    c.in-Err.ensures.cause bytes [] hearing.rest (honest, inside) (sym (append-nil bytes)) long hearing.left refl

pub returns-in-Err-clause-disk : goal.returns-in-Err-clause-disk
returns-in-Err-clause-disk g c =
    let d = g.D.Disk in
    let kept = c.pull.ensures.source in
    was_read d _ _ kept.only.0 kept.only.1 c.pull.ensures.later
