use Rattle.std.proofs.Common.{◌≡◌, Bool, Some, sym, ◌∙◌, ap, subst}
use Rattle.slab.specs.Slab.{get}
use Rattle.serve_hub.specs.Parts.{serials_in}
use Rattle.station_hub.specs.Live.{RecordsLive}
use Rattle.station_hub.specs.declared.live_hub.LiveHub.{LiveHub}
use Rattle.station.specs.Beginning.{BeginsBeside, run_in}
use Rattle.station.specs.declared.station.Options.{Options}
use Rattle.station.specs.Parting.{HasParted}
use Rattle.station.specs.Kept.{AreKept, AreTried}
use Rattle.station.specs.Clocks.{clocks_of}
use Rattle.station.specs.Stepping.{RestsUnless}
use Rattle.station_sources.specs.Air.{parting_answer}
use Rattle.station.specs.Succeeding.{IsSucceeded, waits}
use Rattle.station.proofs.Kept.{left_then_tried}
use Rattle.station.proofs.Succeeding.{parted_waits, succeeded}
use Rattle.station.proofs.station.Station.left_by.Goals as goal

pub returns : goal.returns
returns g c = record {
  parts = λ key client feeder found feeding.
      let still : get c.unended-refused.new.self.clients.slots key ≡ Some client = ap (λ s. get s.clients.slots key) c.unended-refused.ensures.rest ∙ found in
      let (after, left, parted) = c.answer_feeder.ensures.parts key client feeder still feeding in
      let told = c.is_lost-lost.result in (
        after,
        c.offer_again.ensures.others key (ap waits left ∙ parted_waits (parting_answer told c.args.air.now) client after parted) ∙ left,
        subst (λ (b : Bool). HasParted (parting_answer b c.args.air.now) client after) c.is_lost-lost.ensures parted,
      );
  at_rest =
      subst (λ (live : LiveHub _). RestsUnless c.unended-refused.result live.hub.file) (sym (c.offer_again.ensures.live ∙ ap (λ s. s.live) c.answer_feeder.ensures.rest))
      c.unended-refused.ensures.at_rest;
  clocks =
      c.offer_again.ensures.clocks ∙ ap (λ s. clocks_of s) c.answer_feeder.ensures.rest ∙ ap (λ s. clocks_of s) c.unended-refused.ensures.rest;
  records =
      subst (λ live. RecordsLive g.D.Disk c.args.self.now.live live) (sym (c.offer_again.ensures.live ∙ ap (λ s. s.live) c.answer_feeder.ensures.rest))
      c.unended-refused.ensures.records;
  kept =
      subst (λ slots. AreKept c.args.self.now.options.password c.args.now slots c.offer_again.new.self.clients.slots)
      (ap (λ s. s.clients.slots) c.unended-refused.ensures.rest)
      (left_then_tried c.args.self.now.options.password c.args.now c.unended-refused.new.self.clients.slots c.answer_feeder.new.self.clients.slots
      c.offer_again.new.self.clients.slots c.answer_feeder.ensures.left
      (subst (λ password. AreTried password c.args.now c.answer_feeder.new.self.clients.slots c.offer_again.new.self.clients.slots)
      (ap (λ s. s.options.password) c.answer_feeder.ensures.rest ∙ ap (λ s. s.options.password) c.unended-refused.ensures.rest) c.offer_again.ensures.tried));
  succeeded = λ free.
      let before = c.unended-refused.new.self.clients.slots in
      subst (λ slots. IsSucceeded slots c.offer_again.new.self.clients.slots c.offer_again.new.self.air) (ap (λ s. s.clients.slots) c.unended-refused.ensures.rest)
      (succeeded before c.answer_feeder.new.self.clients.slots c.offer_again.new.self.clients.slots c.offer_again.new.self.air c.answer_feeder.ensures.waits
      (c.offer_again.ensures.succeeded (ap (λ s. s.air) c.answer_feeder.ensures.rest ∙ ap (λ s. s.air) c.unended-refused.ensures.rest ∙ free)));
  begins = λ free.
      let before = c.answer_feeder.new.self in
      subst (λ (live : LiveHub _). BeginsBeside (serials_in live.hub.file) c.args.self.now.options.skeletons (run_in c.offer_again.new.self.air)) (sym c.offer_again.ensures.live)
      (subst (λ (one : Options). BeginsBeside (serials_in before.live.hub.file) one.skeletons (run_in c.offer_again.new.self.air))
      (ap (λ s. s.options) c.answer_feeder.ensures.rest ∙ ap (λ s. s.options) c.unended-refused.ensures.rest)
      (c.offer_again.ensures.begins (ap (λ s. s.air) c.answer_feeder.ensures.rest ∙ ap (λ s. s.air) c.unended-refused.ensures.rest ∙ free)));
}
