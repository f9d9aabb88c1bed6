use Rattle.feed_records.specs.declared.item.Record.TheVariants.{Command as CommandOf}
use Rattle.ogg_command.specs.declared.command.Command.TheVariants.{End as EndOf}
use Rattle.station_hub.proofs.Going.{by_answer}
use Rattle.station_hub.proofs.live_hub.LiveHub.end_stream.Goals as goal

pub returns-clause-records : goal.returns-clause-records
returns-clause-records g c =
    by_answer g.D.Disk c.args.self.now c.answer.new.self (CommandOf (EndOf c.args.serial)) c.answer.result c.answer.ensures.answers
