use Rattle.std.proofs.Common.{◌≡◌, ℕ, Option, sym, ◌∙◌, ap, subst, inl, inr}
use Rattle.serve_clients.specs.declared.clients.Clients.{Clients}
use Rattle.station_hub.specs.declared.live_hub.LiveHub.{LiveHub}
use Rattle.station_sources.specs.declared.air.OnAir.{OnAir}
use Rattle.serve_hub.specs.Parts.{serials_in}
use Rattle.station_hub.specs.Live.{RecordsLive}
use Rattle.station.specs.Beginning.{HasReopened, run_in}
use Rattle.station.specs.Clocks.{Clocks, HasReopenedAt, streams_in}
use Rattle.station.specs.Kept.{AreTurned}
use Rattle.station.specs.Stepping.{BeginsBy, FreesBy, GoesOnWithLoss, IsSucceededBy, RestsBy, TakesFromSource}
use Rattle.station.specs.Succeeding.{HaveTurns}
use Rattle.station.proofs.Counted.{done_counts}
use Rattle.station.proofs.Kept.{all_pass, kept_then_turned, parted_by, turned_then}
use Rattle.station.proofs.Succeeding.{still_by, turns_then}
use Rattle.station.proofs.station.Station.step.Given.{Over}
use Rattle.station.proofs.station.Station.step.Goals as goal
use Rattle.station.proofs.station.Station.step.Goals.{then-end, else-end}

-- what is counted after the step leaves these as they were
air_is : (g : Over) (c : goal.After-wake_feeder g) → c.wake_feeder.new.self.air ≡ c.step_once-done.new.self.air
air_is g c = ap (λ s. s.air) c.wake_feeder.ensures.rest ∙ c.wake_listeners.ensures.air
    ∙ elim c.if-end.branch [
      | then-end w ↦ ap (λ s. s.air) w.self-is ∙ ap (λ s. s.air) c.count.ensures
      | else-end w ↦ ap (λ s. s.air) w.self-is ∙ ap (λ s. s.air) c.count.ensures
    ]

clients_are : (g : Over) (c : goal.After-wake_feeder g) → c.if-end.self.clients ≡ c.step_once-done.new.self.clients
clients_are g c = elim c.if-end.branch [
  | then-end w ↦ ap (λ s. s.clients) w.self-is ∙ ap (λ s. s.clients) c.count.ensures
  | else-end w ↦ ap (λ s. s.clients) w.self-is ∙ ap (λ s. s.clients) c.count.ensures
]

live_is : (g : Over) (c : goal.After-wake_feeder g) → c.wake_feeder.new.self.live ≡ c.step_once-done.new.self.live
live_is g c = ap (λ s. s.live) c.wake_feeder.ensures.rest ∙ c.wake_listeners.ensures.live
    ∙ elim c.if-end.branch [
      | then-end w ↦ ap (λ s. s.live) w.self-is ∙ ap (λ s. s.live) c.count.ensures
      | else-end w ↦ ap (λ s. s.live) w.self-is ∙ ap (λ s. s.live) c.count.ensures
    ]

pub returns-clause-begins : goal.returns-clause-begins
returns-clause-begins g c =
    let done = c.step_once-done.result in
    let skeletons = c.args.self.now.options.skeletons in
    subst (λ (live : LiveHub _). BeginsBy done (serials_in live.hub.file) skeletons (run_in c.wake_feeder.new.self.air)) (sym (live_is g c))
    (subst (λ (air : Option OnAir). BeginsBy done (serials_in c.step_once-done.new.self.live.hub.file) skeletons (run_in air)) (sym (air_is g c))
    c.step_once-done.ensures.begins)

pub returns-clause-takes : goal.returns-clause-takes
returns-clause-takes g c air is =
    subst (λ (now : Option OnAir). TakesFromSource g.D.Disk c.step_once-done.result air now c.args.self.now.live c.wake_feeder.new.self.live) (sym (air_is g c))
    (subst (λ (live : LiveHub _). TakesFromSource g.D.Disk c.step_once-done.result air c.step_once-done.new.self.air c.args.self.now.live live) (sym (live_is g c))
    (c.step_once-done.ensures.takes air is))

pub returns-clause-noted : goal.returns-clause-noted
returns-clause-noted g c air answered is told =
    let noted = c.step_once-done.ensures.noted air answered is told in
    subst (GoesOnWithLoss air) (sym (air_is g c)) noted

pub returns-clause-resumes : goal.returns-clause-resumes
returns-clause-resumes g c air answered machine is shows told =
    subst (λ (live : LiveHub _). HasReopened g.D.Disk answered air c.wake_feeder.new.self.air live machine) (sym (live_is g c))
    (subst (λ (now : Option OnAir). HasReopened g.D.Disk answered air now c.step_once-done.new.self.live machine) (sym (air_is g c))
    (c.step_once-done.ensures.resumes air answered machine is shows told))

pub returns-clause-succeeded : goal.returns-clause-succeeded
returns-clause-succeeded g c =
    let done = c.step_once-done.result in
    let old = c.args.self.now.clients.slots in
    let after = c.step_once-done.new.self.clients in
    let new = c.wake_feeder.new.self in
    let turns : HaveTurns after.slots new.clients.slots =
    turns_then after.slots c.wake_listeners.new.self.clients.slots new.clients.slots
    (subst (λ (clients : Clients). HaveTurns clients.slots c.wake_listeners.new.self.clients.slots) (clients_are g c) c.wake_listeners.ensures.turns)
    c.wake_feeder.ensures.turns in
    still_by done old after.slots new.clients.slots new.air turns
    (subst (IsSucceededBy done old after.slots) (sym (air_is g c)) c.step_once-done.ensures.succeeded)

pub returns-clause-records : goal.returns-clause-records
returns-clause-records g c =
    let records = c.step_once-done.ensures.records in
    subst (λ (live : LiveHub _). RecordsLive g.D.Disk c.args.self.now.live live) (sym (live_is g c)) records

pub returns-clause-kept : goal.returns-clause-kept
returns-clause-kept g c =
    let password = c.args.self.now.options.password in
    let old = c.args.self.now.clients.slots in
    let mid = c.step_once-done.new.self.clients in
    kept_then_turned password c.args.now old mid.slots c.wake_feeder.new.self.clients.slots c.step_once-done.ensures.kept
    (turned_then mid.slots c.wake_listeners.new.self.clients.slots c.wake_feeder.new.self.clients.slots
    (subst (λ (clients : Clients). AreTurned clients.slots c.wake_listeners.new.self.clients.slots) (clients_are g c) c.wake_listeners.ensures.turned)
    c.wake_feeder.ensures.turned)

pub returns-clause-passed : goal.returns-clause-passed
returns-clause-passed g c =
    all_pass c.args.self.now.options.password c.args.now c.args.self.now.clients.slots c.wake_feeder.new.self.clients.slots (returns-clause-kept g c)

pub returns-clause-at_rest : goal.returns-clause-at_rest
returns-clause-at_rest g c =
    subst (λ (live : LiveHub _). RestsBy c.step_once-done.result live.hub.file) (sym (live_is g c)) c.step_once-done.ensures.at_rest

pub returns-clause-frees : goal.returns-clause-frees
returns-clause-frees g c =
    subst (λ (live : LiveHub _). FreesBy c.step_once-done.result c.args.self.now.air live.hub.file) (sym (live_is g c)) c.step_once-done.ensures.frees

-- ---- clocks
since_is : (g : Over) (c : goal.After-wake_feeder g) → c.wake_feeder.new.self.waiting_since ≡ c.step_once-done.new.self.waiting_since
since_is g c = ap (λ s. s.waiting_since) c.wake_feeder.ensures.rest ∙ ap (λ (k : Clocks). k.waiting_since) c.wake_listeners.ensures.clocks
    ∙ elim c.if-end.branch [
      | then-end w ↦ ap (λ s. s.waiting_since) w.self-is ∙ ap (λ s. s.waiting_since) c.count.ensures
      | else-end w ↦ ap (λ s. s.waiting_since) w.self-is ∙ ap (λ s. s.waiting_since) c.count.ensures
    ]

reopened_is : (g : Over) (c : goal.After-wake_feeder g) → c.wake_feeder.new.self.reopened ≡ c.step_once-done.new.self.reopened
reopened_is g c = ap (λ s. s.reopened) c.wake_feeder.ensures.rest ∙ ap (λ (k : Clocks). k.reopened) c.wake_listeners.ensures.clocks
    ∙ elim c.if-end.branch [
      | then-end w ↦ ap (λ s. s.reopened) w.self-is ∙ ap (λ s. s.reopened) c.count.ensures
      | else-end w ↦ ap (λ s. s.reopened) w.self-is ∙ ap (λ s. s.reopened) c.count.ensures
    ]

pub returns-clause-since : goal.returns-clause-since
returns-clause-since g c machine shows works undue = since_is g c ∙ c.step_once-done.ensures.since machine shows works undue

pub returns-clause-due : goal.returns-clause-due
returns-clause-due g c machine shows due = since_is g c ∙ c.step_once-done.ensures.due machine shows due

pub returns-clause-again : goal.returns-clause-again
returns-clause-again g c = c.step_once-done.ensures.again

pub returns-clause-once : goal.returns-clause-once
returns-clause-once g c failed = elim (c.step_once-done.ensures.once failed) [
  | inl given_up ↦ inl given_up
  | inr opened ↦ inr (subst (λ (at : Option ℕ). HasReopenedAt g.D.Disk c.args.self.now.live at) (sym (reopened_is g c)) opened)
]

pub returns-clause-more : goal.returns-clause-more
returns-clause-more g c = c.step_once-done.ensures.more

pub returns-clause-works : goal.returns-clause-works
returns-clause-works g c works = reopened_is g c ∙ c.step_once-done.ensures.works works

pub returns-clause-looked : goal.returns-clause-looked
returns-clause-looked g c =
    ap (λ s. s.looked) c.wake_feeder.ensures.rest ∙ ap (λ (k : Clocks). k.looked) c.wake_listeners.ensures.clocks
    ∙ elim c.if-end.branch [
      | then-end w ↦ ap (λ s. s.looked) w.self-is ∙ ap (λ s. s.looked) c.count.ensures
      | else-end w ↦ ap (λ s. s.looked) w.self-is ∙ ap (λ s. s.looked) c.count.ensures
    ] ∙ ap (λ (k : Clocks). k.looked) c.step_once-done.ensures.clocks

pub returns-clause-rest : goal.returns-clause-rest
returns-clause-rest g c = (
  ap (λ s. s.options) c.wake_feeder.ensures.rest ∙ ap (λ (k : Clocks). k.options) c.wake_listeners.ensures.clocks
      ∙ elim c.if-end.branch [
        | then-end w ↦ ap (λ s. s.options) w.self-is ∙ ap (λ s. s.options) c.count.ensures
        | else-end w ↦ ap (λ s. s.options) w.self-is ∙ ap (λ s. s.options) c.count.ensures
      ] ∙ ap (λ (k : Clocks). k.options) c.step_once-done.ensures.clocks,
  ap (λ s. s.ending) c.wake_feeder.ensures.rest ∙ ap (λ (k : Clocks). k.ending) c.wake_listeners.ensures.clocks
      ∙ elim c.if-end.branch [
        | then-end w ↦ ap (λ s. s.ending) w.self-is ∙ ap (λ s. s.ending) c.count.ensures
        | else-end w ↦ ap (λ s. s.ending) w.self-is ∙ ap (λ s. s.ending) c.count.ensures
      ] ∙ ap (λ (k : Clocks). k.ending) c.step_once-done.ensures.clocks,
  ap (λ s. streams_in s.counts) c.wake_feeder.ensures.rest ∙ ap (λ (k : Clocks). k.streams) c.wake_listeners.ensures.clocks
      ∙ elim c.if-end.branch [
        | then-end w ↦ ap (λ s. streams_in s.counts) w.self-is ∙ ap (λ s. streams_in s.counts) c.count.ensures
        | else-end w ↦ ap (λ s. streams_in s.counts) w.self-is ∙ ap (λ s. streams_in s.counts) c.count.ensures
      ] ∙ done_counts c.step_once-done.result c.step_once-done.new.self.counts c.args.self.now.counts (ap (λ (k : Clocks). k.streams) c.step_once-done.ensures.clocks),
)

pub returns-clause-parts : goal.returns-clause-parts
returns-clause-parts g c air is =
    let mid = c.step_once-done.new.self.clients in
    parted_by c.step_once-done.result air c.args.self.now.clients.slots mid.slots c.wake_feeder.new.self.clients.slots (c.step_once-done.ensures.parts air is)
    (turned_then mid.slots c.wake_listeners.new.self.clients.slots c.wake_feeder.new.self.clients.slots
    (subst (λ (clients : Clients). AreTurned clients.slots c.wake_listeners.new.self.clients.slots) (clients_are g c) c.wake_listeners.ensures.turned)
    c.wake_feeder.ensures.turned)
