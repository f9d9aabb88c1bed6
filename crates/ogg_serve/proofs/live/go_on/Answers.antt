use Rattle.std.proofs.Common.{refl}
use Rattle.serve_hub.specs.Showing.{Shows}
use Rattle.ogg_serve.specs.Keeping.{KeepsAll}
use Rattle.ogg_serve.proofs.Alongside.{stepped}
use Rattle.ogg_serve.proofs.Failing.{by_step, later}
use Rattle.ogg_serve.proofs.Moves.{all_none}
use Rattle.ogg_serve.proofs.Taken.{taken}
use Rattle.ogg_serve.proofs.live.go_on.Goals as goal

pub returns-clause-took : goal.returns-clause-took
returns-clause-took g c = λ before shown.
    let d = g.D.Disk in
    let e = c.step.ensures in
    taken d g.F.Read.remaining g.L.Write.contents
    (Shows d) KeepsAll all_none c.args.feed.now.ended c.args.feed.now.run.outcome _ c.args.feed.now c.step.new.self c.args.hub.now c.step.new.hub before shown e.stays e.closed
    (λ going unended.
    let (after, is_in, has) = e.stepped (record { now = c.args.hub.now; machine = before }) (refl, shown) going unended in (
      after.machine,
      is_in.1,
      stepped c.other_sessions_stay.ensures c.sessions_are_numbered.ensures.kept c.committed_bytes_grow.ensures.grows d
          _ _ _ _ (record { now = c.args.hub.now; machine = before }) after _ has,
      record { was = c.args.hub.now; now = after.now; answer = _; stepped = has; ended = e.ended going },
    ))

pub returns-clause-later : goal.returns-clause-later
returns-clause-later g c = λ before shown.
    let d = g.D.Disk in
    let e = c.step.ensures in
    later d c.args.feed.now.ended c.args.feed.now.run.outcome _ c.args.feed.now c.step.new.self c.args.hub.now c.step.new.hub e.stays e.closed
    (λ going unended.
    let (after, is_in, has) = e.stepped (record { now = c.args.hub.now; machine = before }) (refl, shown) going unended in
    by_step d _ _ _ _ (record { now = c.args.hub.now; machine = before }) after _ c.step.new.hub is_in.0 is_in.1.place has)
