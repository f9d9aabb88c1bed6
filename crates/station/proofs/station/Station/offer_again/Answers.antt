use Rattle.std.proofs.Common.{◌≡◌, ◌+◌, None, [], sym, ◌∙◌, ap, subst, arith}
use Rattle.serve_hub.specs.Parts.{serials_in}
use Rattle.station_hub.specs.declared.live_hub.LiveHub.{LiveHub}
use Rattle.station.specs.Clocks.{KeepsClocks}
use Rattle.station.specs.Beginning.{BeginsBeside, run_in}
use Rattle.station.specs.declared.station.Options.{Options}
use Rattle.station.specs.Kept.{AreTried}
use Rattle.station.specs.Offering.{IsOffered}
use Rattle.station.proofs.Kept.{tries_one}
use Rattle.station.proofs.Succeeding.{HasTried, OthersStand, StayFrom, all_tried, is_free, is_other, is_taken, one_has, stay_behind, tries, tries_past}
use Rattle.station.proofs.station.Station.offer_again.Goals as goal
use Rattle.station.proofs.station.Station.offer_again.Goals.{then-waits, else-waits}

pub returns-then-is_some-clause-succeeded : goal.returns-then-is_some-clause-succeeded
returns-then-is_some-clause-succeeded g c free =
    one_has c.args.self.now.clients.slots c.loop-key.self.clients.slots c.loop-key.self.air c.loop-key.key
    (is_taken c.loop-key.self.air (sym c.is_some.ensures ∙ c.if-is_some.true)) (c.loop-key.invariant.0 free)

pub returns-clause-succeeded : goal.returns-clause-succeeded
returns-clause-succeeded g c free =
    all_tried c.args.self.now.clients.slots c.loop-key.self.clients.slots c.loop-key.self.air c.loop-key.key
    (omega (arith, c.loop-key.invariant.7, c.capacity-key-end.ensures.slots, c.loop-key-test.false)) (c.loop-key.invariant.0 free)

pub loop-key-preserved : goal.loop-key-preserved
loop-key-preserved g c =
    let old = c.args.self.now.clients.slots in
    let key = c.loop-key.key in
    let was = c.loop-key.self in
    let (tried, stay, others, live, options, begins, passed, bound, clocks) = c.loop-key.invariant in
    let free : was.air ≡ None = is_free was.air (sym c.is_some.ensures ∙ c.if-is_some.false) in
    elim c.if-waits.branch [
      | then-waits w ↦
          let new = w.offer.new.self in
          let waited = sym c.waits.ensures ∙ w.if-waits.true in
          subst (λ self.
          (c.args.self.now.air ≡ None → HasTried old self.clients.slots self.air (key + 1)) × StayFrom old self.clients.slots (key + 1)
          × OthersStand old self.clients.slots × (self.live ≡ c.args.self.now.live) × (self.options ≡ c.args.self.now.options)
          × (c.args.self.now.air ≡ None → BeginsBeside (serials_in c.args.self.now.live.hub.file) c.args.self.now.options.skeletons (run_in self.air))
          × AreTried c.args.self.now.options.password c.args.now old self.clients.slots × (c.capacity-key-end.result ≡ old.capacity) × KeepsClocks c.args.self.now self) (sym w.self-is) (
            λ start. tries old was.clients.slots new.clients.slots was.air new.air key free (tried start) stay waited w.offer.ensures.others
                (w.offer.ensures.offered free) w.offer.ensures.feeder,
            stay_behind old was.clients.slots new.clients.slots key stay w.offer.ensures.others,
            λ other isnt. w.offer.ensures.others other (is_other old was.clients.slots key other (others other isnt) isnt waited) ∙ others other isnt,
            w.offer.ensures.live ∙ live,
            w.offer.ensures.options ∙ options,
            λ start. subst (λ (live : LiveHub _). BeginsBeside (serials_in live.hub.file) c.args.self.now.options.skeletons (run_in new.air)) live
                (subst (λ (one : Options). BeginsBeside (serials_in was.live.hub.file) one.skeletons (run_in new.air)) options (w.offer.ensures.begins free)),
            tries_one c.args.self.now.options.password c.args.now key was.options.skeletons (serials_in was.live.hub.file) new.air old was.clients.slots
                new.clients.slots passed (stay key (omega arith)) waited w.offer.ensures.others
                (λ client found.
                let (after, left, offered) = w.offer.ensures.leads client found in (
                  after,
                  left,
                  subst (λ password. IsOffered key [] c.args.now password was.options.skeletons (serials_in was.live.hub.file) None new.air client after)
                      (ap (λ (one : Options). one.password) options)
                      (subst (λ air. IsOffered key [] c.args.now was.options.password was.options.skeletons (serials_in was.live.hub.file) air new.air client after)
                      free offered),
                )),
            bound,
            w.offer.ensures.clocks ∙ clocks,
          )
      | else-waits w ↦
          subst (λ self.
          (c.args.self.now.air ≡ None → HasTried old self.clients.slots self.air (key + 1)) × StayFrom old self.clients.slots (key + 1)
          × OthersStand old self.clients.slots × (self.live ≡ c.args.self.now.live) × (self.options ≡ c.args.self.now.options)
          × (c.args.self.now.air ≡ None → BeginsBeside (serials_in c.args.self.now.live.hub.file) c.args.self.now.options.skeletons (run_in self.air))
          × AreTried c.args.self.now.options.password c.args.now old self.clients.slots × (c.capacity-key-end.result ≡ old.capacity) × KeepsClocks c.args.self.now self) (sym w.self-is) (
            λ start. tries_past old was.clients.slots was.air key free (tried start) stay (sym c.waits.ensures ∙ w.if-waits.false),
            λ other above. stay other (omega (arith, above)),
            others,
            live,
            options,
            begins,
            passed,
            bound,
            clocks,
          )
    ]

pub returns-then-is_some-clause-clocks : goal.returns-then-is_some-clause-clocks
returns-then-is_some-clause-clocks g c = c.loop-key.invariant.8

pub returns-clause-clocks : goal.returns-clause-clocks
returns-clause-clocks g c = c.loop-key.invariant.8
