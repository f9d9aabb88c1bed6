use Rattle.std.proofs.Common.{[], ◌∷◌, ◌++◌, ◌∙◌, ap, sym}
use Rattle.file_recorder.specs.Ending.{first_open}
use Rattle.station_hub.specs.Ending.{HubReplies, streams_of}
use Rattle.station_hub.specs.LiveLaws.{records_none, records_then}
use Rattle.file_recorder.specs.EndingLaws.{ends_on, none_left, not_refused, nothing_yet}
use Rattle.station_hub.proofs.Ended.{fewer_in, refused_in}
use Rattle.station_hub.proofs.live_hub.LiveHub.end_all.Goals as goal

pub loop-serial-init : goal.loop-serial-init
loop-serial-init g c = (([], nothing_yet streams_of HubReplies c.args.self.now.hub), records_none g.D.Disk c.args.self.now)

pub loop-serial-preserved : goal.loop-serial-preserved
loop-serial-preserved g c =
    let old = c.loop-serial.self in
    let new = c.end_stream.new.self in
    let ((replies, ended), records) = c.loop-serial.invariant in
    let first = ap first_open (sym c.streams.ensures.streams) ∙ (sym c.first_open.ensures ∙ c.in-Some.is) in
    let reply = c.end_stream.result in (
      (
        replies ++ reply ∷ [],
        ends_on streams_of HubReplies c.args.self.now.hub old.hub new.hub replies c.in-Some.serial reply [] ended first c.end_stream.ensures.replied
            (not_refused reply c.in_default-end_stream.not-Refused),
      ),
      records_then g.D.Disk c.args.self.now old new records c.end_stream.ensures.records,
    )

pub loop-serial-smaller : goal.loop-serial-smaller
loop-serial-smaller g c =
    let first = ap first_open (sym c.streams.ensures.streams) ∙ (sym c.first_open.ensures ∙ c.in-Some.is) in
    let reply = c.end_stream.result in
    fewer_in c.ends_leave_fewer_open.ensures c.loop-serial.self.hub.file c.end_stream.new.self.hub.file c.in-Some.serial reply first c.end_stream.ensures.replied
    (not_refused reply c.in_default-end_stream.not-Refused)

pub returns-in-Refused-clause-refused : goal.returns-in-Refused-clause-refused
returns-in-Refused-clause-refused g c =
    let ((replies, ended), records) = c.loop-serial.invariant in
    let first = ap first_open (sym c.streams.ensures.streams) ∙ (sym c.first_open.ensures ∙ c.in-Some.is) in
    (replies, refused_in c.args.self.now.hub c.loop-serial.self.hub c.end_stream.new.self.hub replies c.in-Some.serial c.end_stream.result c.in-Refused.refusal ended first c.end_stream.ensures.replied c.in-Refused.is)

pub returns-in-Refused-clause-records : goal.returns-in-Refused-clause-records
returns-in-Refused-clause-records g c =
    records_then g.D.Disk c.args.self.now c.loop-serial.self c.end_stream.new.self c.loop-serial.invariant.1 c.end_stream.ensures.records

pub returns-clause-ended : goal.returns-clause-ended
returns-clause-ended g c =
    let ((replies, ended), records) = c.loop-serial.invariant in
    (replies, none_left streams_of HubReplies c.args.self.now.hub c.loop-serial.self.hub replies ended (ap first_open (sym c.streams.ensures.streams) ∙ (sym c.first_open.ensures ∙ c.in_default.is)))

pub returns-clause-records : goal.returns-clause-records
returns-clause-records g c = c.loop-serial.invariant.1
