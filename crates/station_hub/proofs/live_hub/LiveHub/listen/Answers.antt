use Rattle.std.proofs.Common.{◌≡◌, ◌⊎◌, true, Some, refl, sym, ◌∙◌, ap, subst, inl, inr}
use Rattle.serve_clients.specs.Client.{ClientState, LacksRoom}
use Rattle.serve_sources.specs.declared.answers.TheConstants.{LIVE}
use Rattle.serve_clients.specs.declared.client.Stage.TheVariants.{Cut, Ending, Hearing}
use Rattle.serve_machine.specs.declared.fault.HubFault.{HubFault}
use Rattle.serve_machine.specs.declared.fault.HubFault.TheVariants.{NoSession, SessionsFull, Source, Memory, NoFile}
use Rattle.station_hub.specs.Asking.{cut_after}
use Rattle.station_hub.proofs.Keeping.{unchanged}
use Rattle.station_hub.proofs.live_hub.LiveHub.listen.Goals as goal
use Rattle.station_hub.proofs.live_hub.LiveHub.listen.Goals.{in-Ok-tell, in-Err-tell}

cut_hears : Cut ≡ Hearing → ⊥
cut_hears e = cc

-- whichever fault it is
stage_is_cut : (fault : HubFault) (old : ClientState) → (cut_after fault old).stage ≡ Cut
stage_is_cut NoSession old = refl
stage_is_cut SessionsFull old = refl
stage_is_cut Source old = refl
stage_is_cut Memory old = refl
stage_is_cut NoFile old = refl

pub returns-after-tell-clause-joins : goal.returns-after-tell-clause-joins
returns-after-tell-clause-joins g c start machine shows tracks hearing = elim c.match-tell.branch [
  | in-Ok-tell w ↦
      let told : c.tell.new.self.listener ≡ Some c.in-Ok.listener = ap (λ (one : ClientState). one.listener) w.in-Ok-tell.ensures.ok in
      (c.in-Ok.listener, ap (λ (one : ClientState). one.listener) c.client-in-Ok.view_is ∙ told, c.in-Ok.ensures.joins start machine shows tracks)
  | in-Err-tell w ↦ absurd (cut_hears (sym w.client-is ∙ hearing))
]

pub returns-after-tell-clause-machine : goal.returns-after-tell-clause-machine
returns-after-tell-clause-machine g c = c.join.ensures.machine

pub returns-after-tell-clause-disk : goal.returns-after-tell-clause-disk
returns-after-tell-clause-disk g c = c.join.ensures.disk

pub returns-after-tell-clause-recorded : goal.returns-after-tell-clause-recorded
returns-after-tell-clause-recorded g c = c.join.ensures.recorded

pub returns-in-Err-clause-machine : goal.returns-in-Err-clause-machine
returns-in-Err-clause-machine g c = c.join.ensures.machine

pub returns-in-Err-clause-disk : goal.returns-in-Err-clause-disk
returns-in-Err-clause-disk g c = c.join.ensures.disk

pub returns-in-Err-clause-recorded : goal.returns-in-Err-clause-recorded
returns-in-Err-clause-recorded g c = c.join.ensures.recorded

pub returns-in-Err-clause-joins : goal.returns-in-Err-clause-joins
returns-in-Err-clause-joins g c start machine shows tracks hearing =
    absurd (cut_hears (sym (ap (λ (one : ClientState). one.stage) c.cut_after.ensures ∙ stage_is_cut c.in-Err.fault _) ∙ hearing))

pub returns-then-head-clause-machine : goal.returns-then-head-clause-machine
returns-then-head-clause-machine g c machine shows = shows

pub returns-then-head-clause-disk : goal.returns-then-head-clause-disk
returns-then-head-clause-disk g c = inl refl

pub returns-then-head-clause-recorded : goal.returns-then-head-clause-recorded
returns-then-head-clause-recorded g c = unchanged g.D.Disk c.args.self.now.hub c.args.self.now.hub refl

-- ---- why it is cut
ending_cut : Ending ≡ Cut → ⊥
ending_cut e = cc

hearing_cut : Hearing ≡ Cut → ⊥
hearing_cut e = cc

by_last : (Lacks Room Other : Type 0) (last cut new : ClientState) → (Lacks → Room) → (new ≡ last) ⊎ (Lacks × (new ≡ cut)) → last.stage ≡ Ending
    → new.stage ≡ Cut → Room ⊎ Other
by_last Lacks Room Other last cut new short (inl is) ends cuts = absurd (ending_cut (sym ends ∙ sym (ap (λ (one : ClientState). one.stage) is) ∙ cuts))
by_last Lacks Room Other last cut new short (inr (lacks, is)) ends cuts = inl (short lacks)

by_fault : (Room Place Lost : Type 0) (fault : HubFault) (old new : ClientState) → ((fault ≡ Memory) × Place) ⊎ Lost → new ≡ cut_after fault old
    → Room ⊎ (Place × (new.refused ≡ true)) ⊎ Lost
by_fault Room Place Lost fault old new (inl (is, place)) becomes =
    inr (inl (place, ap (λ (one : ClientState). one.refused) (becomes ∙ ap (λ (one : HubFault). cut_after one old) is)))
by_fault Room Place Lost fault old new (inr lost) becomes = inr (inr lost)

pub returns-then-head-clause-cause : goal.returns-then-head-clause-cause
returns-then-head-clause-cause g c cuts =
    by_last _ _ _ _ _ c.tell_last.new.self (λ lacks. subst (LacksRoom LIVE.now) c.client.view_is lacks) c.tell_last.ensures refl cuts

pub returns-in-Err-clause-cause : goal.returns-in-Err-clause-cause
returns-in-Err-clause-cause g c cuts = by_fault _ _ _ c.in-Err.fault _ c.cut_after.new.client c.in-Err.ensures.cause c.cut_after.ensures

pub returns-after-tell-clause-cause : goal.returns-after-tell-clause-cause
returns-after-tell-clause-cause g c cuts = elim c.match-tell.branch [
  | in-Ok-tell w ↦ absurd (hearing_cut (sym w.client-is ∙ cuts))
  | in-Err-tell w ↦ inl (subst (LacksRoom LIVE.now) c.client.view_is w.in-Err-tell.ensures.full)
]
