use Rattle.archive_laws.proofs.Calls.{command_comes}
use Rattle.archive_laws.proofs.stepping.run_command.Goals as goal

pub returns : goal.returns
returns g c = record {
  step = λ first w is_in honest.
      let told = c.command-answer.ensures in
      command_comes g.D.Disk first w c.args.recorder.now c.command-answer.new.self c.command_adds_its_packets.ensures.links c.refusals_are_of_the_table.ensures c.args.command.now
      is_in honest c.end-before.ensures.always (told.frame.honest.0 honest) c.end-after.ensures.always c.command_is_in_range.ensures c.command-answer.result
      told.by_failed told.by_rules told.accepted told.same told.faulted told.good told.grows (told.stays honest) told.none_waits (told.any_moment honest) (told.waits honest);
}
