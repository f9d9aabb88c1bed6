use Rattle.std.proofs.Common.{sym}
use Rattle.import_feed.proofs.Ends.{ends_unfinished, ends_whole, rest_stops}
use Rattle.import_feed.proofs.making.finish_well.Goals as goal

pub returns-in-Err : goal.returns-in-Err
returns-in-Err g c = λ options from left before ends.
    rest_stops options c.in-Err.fault from left before _ _ c.args.maker.now ends.links ends.given c.args.maker.now.pages.offset c.args.maker.now.pages.unread
    ends.made.taken ends.made.all c.in-Err.ensures

pub returns-in-Some : goal.returns-in-Some
returns-in-Some g c = λ options from left before ends.
    ends_unfinished options from left before _ _ c.args.maker.now c.close.new.self c.offset.result c.in-Some.serial c.offset.ensures (sym c.in-Some.ensures) ends c.in-Ok.ensures

pub returns-in-None : goal.returns-in-None
returns-in-None g c = λ options from left before ends.
    ends_whole options from left before _ _ c.args.maker.now c.close.new.self c.gathered_commands_hold_the_recording.ensures (sym c.in-None.ensures) ends c.in-Ok.ensures
