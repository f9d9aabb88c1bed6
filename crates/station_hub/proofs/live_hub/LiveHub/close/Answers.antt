use Rattle.std.proofs.Common.{refl}
use Rattle.serve_machine.specs.Hub.{Close}
use Rattle.station_hub.proofs.Keeping.{by_session}
use Rattle.station_hub.proofs.live_hub.LiveHub.close.Goals as goal

pub returns-clause-step : goal.returns-clause-step
returns-clause-step g c = (c.close.result, c.close.ensures.step)

pub returns-clause-recorded : goal.returns-clause-recorded
returns-clause-recorded g c =
    by_session g.D.Disk c.calls_move_their_session.ensures.file c.args.self.now.hub c.close.new.self (Close c.args.id c.close.result) c.args.id refl c.close.ensures.step
