use Rattle.archive_laws.proofs.Calls.{flush_comes, good_old}
use Rattle.archive_laws.proofs.stepping.flush_commands.Goals as goal

pub returns : goal.returns
returns g c = record {
  step = λ first w is_in opened honest.
      let told = c.flush-answer.ensures in
      let before = c.args.recorder.now in
      let new = c.flush-answer.new.self in
      flush_comes g.D.Disk first w before new is_in opened honest (told.frame.honest.0 honest) c.end-after.ensures.always c.flush-answer.result
      told.refusals told.faulted told.good told.grows told.none_waits
      (told.any_moment honest (good_old g.D.Disk first w before new is_in opened honest (told.frame.honest.0 honest) c.end-after.ensures.always));
}
