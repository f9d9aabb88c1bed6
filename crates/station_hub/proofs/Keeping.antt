-- Calls of connections leave what is recorded as it is.
use Rattle.std.proofs.Common.{◌≡◌, ℕ, Some, refl, sym, ◌∙◌, ap, subst}
use Rattle.disk_model.specs.declared.disk.Disk.{Ghosts as DiskModel}
use Rattle.serve_hub.specs.Listening.{KeepsMachine}
use Rattle.serve_hub.specs.Parts.{HubParts}
use Rattle.serve_hub.specs.Showing.{Shows}
use Rattle.serve_machine.specs.Calls.{Steps}
use Rattle.serve_machine.specs.Hub.{Event, HubState, hub_step}
use Rattle.serve_machine.specs.Own.{KeepsFile}
use Rattle.serve_machine.specs.Run.{session_of}
use Rattle.station_hub.specs.Keeping.{KeepsRecorded}

-- a call of a session keeps the file
abbrev pub MovesAlone : Type 0
MovesAlone = (old new : HubState) (event : Event) (id : ℕ) → hub_step old event new → session_of event ≡ Some id → KeepsFile old new

module _ {D : Type 0} (model : DiskModel D) where
  pub by_session : MovesAlone → (old new : HubParts D) (event : Event) (id : ℕ) → session_of event ≡ Some id
      → Steps (Shows model) old new (λ after. event) → KeepsRecorded model old new
  by_session alone old new event id is steps before shows =
      let (after, shown, step) = steps before shows in
      (after, shown, alone before after event id step is)

  pub unchanged : (old new : HubParts D) → new ≡ old → KeepsRecorded model old new
  unchanged old new same before shows = (before, subst (λ (hub : HubParts D). Shows model hub before) (sym same) shows, refl)

  pub as_seen : (old new : HubParts D) → KeepsMachine model old new → KeepsRecorded model old new
  as_seen old new keeps before shows = (before, keeps before shows, refl)

  pub both : (old mid new : HubParts D) → KeepsRecorded model old mid → KeepsRecorded model mid new → KeepsRecorded model old new
  both old mid new first second before shows =
      let (between, seen, kept) = first before shows in
      let (after, shown, keeps) = second between seen in
      (after, shown, keeps ∙ ap (λ (machine : HubState). record machine { sessions = after.sessions; next_id = after.next_id }) kept)
