use Rattle.std.proofs.Common.{List}
use Rattle.feed_replies.specs.declared.reply.Reply.{Reply}
use Rattle.file_recorder.specs.Ending.{AreEnded, unended}
use Rattle.station_hub.specs.Ending.{HubReplies, streams_of}
use Rattle.station_hub.specs.Live.{RecordsLive}
use Rattle.station_hub.proofs.live_hub.LiveHub.end_all.Given as goal

-- each turn ends a stream
abbrev pub decreases-loop-serial : goal.decreases-loop-serial
decreases-loop-serial g l = unended (streams_of l.self.hub)

-- streams were ended so far
abbrev pub invariant-loop-serial : goal.invariant-loop-serial
invariant-loop-serial g l =
    ((replies : List Reply) × AreEnded streams_of HubReplies l.initial.self.hub l.self.hub replies) × RecordsLive g.D.Disk l.initial.self l.self
