use Rattle.std.proofs.Common.{ℕ, List, ◌∙◌, ap}
use Rattle.station_files.specs.Places.{turns_with}
use Rattle.station_files.specs.declared.seats.Past.{Past}
use Rattle.station_files.proofs.seats.Stations.turns.Goals as goal

pub returns : goal.returns
returns g c =
    c.turns_with.ensures ∙ ap (λ (past : List (Past _)). turns_with c.turns.result past) c.as_slice.ensures.value
    ∙ ap (λ (turns : ℕ). turns_with turns c.args.self.now.past.items) c.turns.ensures
