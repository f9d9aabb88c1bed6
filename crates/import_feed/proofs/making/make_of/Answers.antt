use Rattle.import_feed.proofs.Ends.{first_stops}
use Rattle.import_feed.proofs.making.make_of.Goals as goal

pub returns-in-Err : goal.returns-in-Err
returns-in-Err g c options is = first_stops options c.in-Err.fault _ _ _ c.args.maker.now.gatherer is.gathers c.in-Err.ensures.err

pub returns : goal.returns
returns g c options is =
    c.finish.ensures options _ _ _
    (c.take_all-outcome.ensures options _
    (record { pages = is.pages; gathers = is.gathers; goes = is.goes; no_pages = is.no_pages; no_commands = is.no_commands }) c.in-Ok.ensures.ok)
