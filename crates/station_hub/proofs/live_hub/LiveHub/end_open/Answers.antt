use Rattle.std.proofs.Common.{inl}
use Rattle.feed_records.specs.declared.item.Record.TheVariants.{Flush}
use Rattle.station_hub.specs.LiveLaws.{records_then}
use Rattle.station_hub.proofs.Ended.{end_refused, ends_if, left_if, rests_if}
use Rattle.station_hub.proofs.Going.{by_answer}
use Rattle.station_hub.proofs.live_hub.LiveHub.end_open.Goals as goal

pub returns-in-Ok-clause-records : goal.returns-in-Ok-clause-records
returns-in-Ok-clause-records g c =
    records_then g.D.Disk c.args.self.now c.end_all-ended.new.self c.run_flush-flushed.new.self c.end_all-ended.ensures.records
    (by_answer g.D.Disk c.end_all-ended.new.self c.run_flush-flushed.new.self Flush c.run_flush-flushed.result c.run_flush-flushed.ensures.answers)

pub returns-in-Err-clause-records : goal.returns-in-Err-clause-records
returns-in-Err-clause-records g c =
    records_then g.D.Disk c.args.self.now c.end_all-ended.new.self c.run_flush-flushed.new.self c.end_all-ended.ensures.records
    (by_answer g.D.Disk c.end_all-ended.new.self c.run_flush-flushed.new.self Flush c.run_flush-flushed.result c.run_flush-flushed.ensures.answers)

pub returns-in-Ok-clause-rests : goal.returns-in-Ok-clause-rests
returns-in-Ok-clause-rests g c =
    let (replies, all) = c.in-Ok.ensures.ended in
    rests_if c.args.self.now.hub c.end_all-ended.new.self.hub c.run_flush-flushed.new.self.hub replies c.run_flush-flushed.result all c.run_flush-flushed.ensures.replied
    c.refusal_in.result c.refusal_in.ensures.ok

pub returns-in-Ok-clause-left : goal.returns-in-Ok-clause-left
returns-in-Ok-clause-left g c =
    let (replies, all) = c.in-Ok.ensures.ended in
    left_if c.args.self.now.hub c.end_all-ended.new.self.hub c.run_flush-flushed.new.self.hub replies c.run_flush-flushed.result all c.run_flush-flushed.ensures.replied
    c.refusal_in.result c.refusal_in.ensures.err

pub returns-in-Ok-clause-ends : goal.returns-in-Ok-clause-ends
returns-in-Ok-clause-ends g c =
    let (replies, all) = c.in-Ok.ensures.ended in
    ends_if c.args.self.now.hub c.end_all-ended.new.self.hub c.run_flush-flushed.new.self.hub replies c.run_flush-flushed.result all c.run_flush-flushed.ensures.replied
    c.refusal_in.result c.refusal_in.ensures.ok c.refusal_in.ensures.err

pub returns-in-Err-clause-left : goal.returns-in-Err-clause-left
returns-in-Err-clause-left g c =
    let (replies, refused) = c.in-Err.ensures.refused in
    end_refused c.end_all-ended.new.self.hub.file c.run_flush-flushed.new.self.hub.file c.run_flush-flushed.result refused.last refused.still
    c.run_flush-flushed.ensures.replied

pub returns-in-Err-clause-ends : goal.returns-in-Err-clause-ends
returns-in-Err-clause-ends g c =
    let (replies, refused) = c.in-Err.ensures.refused in
    (c.end_all-ended.new.self.hub, replies, c.run_flush-flushed.result, c.run_flush-flushed.ensures.replied, tt, inl refused)
