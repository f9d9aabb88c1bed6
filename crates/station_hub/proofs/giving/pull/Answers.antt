use Rattle.std.proofs.Common.{Ok, Err, length, refl, sym, ap, ◌∙◌}
use Rattle.serve_machine.specs.Calls.{given_in}
use Rattle.serve_clients.specs.Client.{ClientState, with_stage}
use Rattle.serve_clients.specs.declared.client.Stage.{Stage}
use Rattle.station_hub.proofs.Losing.{gives_on, pull_loses}
use Rattle.station_hub.proofs.giving.pull.Goals as goal

pub returns-in-Ok-clause-pulled : goal.returns-in-Ok-clause-pulled
returns-in-Ok-clause-pulled g c = (
  given_in c.pull.new.buffer (Ok c.in-Ok.pulled),
  c.in-Ok.ensures.step,
  (refl, c.go_to.ensures ∙ ap (λ (stage : Stage). with_stage stage c.args.client.now) c.stage_after.ensures),
)

pub returns-in-Err-clause-pulled : goal.returns-in-Err-clause-pulled
returns-in-Err-clause-pulled g c = (Err c.in-Err.field-0, c.in-Err.ensures.step, (refl, c.go_to-in-Err.ensures))

pub returns-in-Ok-clause-cause : goal.returns-in-Ok-clause-cause
returns-in-Ok-clause-cause g c machine shows cuts =
    absurd (gives_on c.in-Ok.pulled.done (sym (ap (λ (client : ClientState). client.stage) c.go_to.ensures ∙ c.stage_after.ensures) ∙ cuts))

pub returns-in-Err-clause-cause : goal.returns-in-Err-clause-cause
returns-in-Err-clause-cause g c machine shows cuts =
    pull_loses g.D.Disk c.args.id (length c.args.buffer.now) c.in-Err.field-0 machine c.args.hub.now c.pull.new.self c.in-Err.ensures.step shows
    (λ e. c.pull.ensures.memory (c.in-Err.is ∙ ap Err e)) (λ e. c.pull.ensures.not_full (c.in-Err.is ∙ ap Err e))
    (λ e. (c.pull.ensures.no_file.0 (c.in-Err.is ∙ ap Err e)).1) (λ e. c.pull.ensures.cause (c.in-Err.is ∙ ap Err e) machine shows)
