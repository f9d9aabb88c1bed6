use Rattle.std.proofs.Common.{refl, sym, ◌∙◌, ap, subst}
use Rattle.feed_records.specs.declared.item.Record.TheVariants.{Command as CommandOf}
use Rattle.serve_hub.specs.Parts.{HubParts}
use Rattle.serve_hub.specs.Running.{IsIn, RepliesIn}
use Rattle.station_hub.specs.LiveLaws.{is_live_in}
use Rattle.station_hub.specs.LiveRunning.{live_in}
use Rattle.station_hub.specs.Places.{PlacesState, answered_by}
use Rattle.station_hub.specs.Tracking.{Tracks}
use Rattle.station_hub.proofs.live_hub.LiveHub.answer.Goals as goal

pub returns-clause-answers : goal.returns-clause-answers
returns-clause-answers g c before is_in =
    let old = c.args.self.now in
    let new = c.answered.new.self in
    let (after, answers, reached) = c.answer-reply.ensures.answers before.hub is_in.hub in
    let answered = answers.1 in
    let machine = before.hub.machine in
    let (told, is_told, places) = c.answered.ensures.told machine after.machine reached.1 (λ none. c.length-length.ensures.machine machine is_in.hub.1 none) in (
      record { hub = after; places = new.places },
      record {
        hub = answers;
        tracks = λ start tracks.
            subst (λ (one : PlacesState). Tracks start after.machine one) (ap (λ reply. answered_by reply told old.places) (sym answered.told) ∙ sym places)
            (c.listeners_join_committed_links.ensures.command start machine after.machine old.places c.args.command.now answered.answer told
            c.command_is_in_range.ensures answered.step is_told (subst (λ (one : PlacesState). Tracks start machine one) is_in.places tracks));
      },
      record { hub = subst (λ (hub : HubParts _). IsIn g.D.Disk after hub) (sym c.answered.ensures.hub) reached; places = refl },
    )

pub returns-clause-keeps : goal.returns-clause-keeps
returns-clause-keeps g c start before shows tracks =
    let old = c.args.self.now in
    let from = live_in (record { now = old.hub; machine = before }) old in
    let (after, answers, reached) = returns-clause-answers g c from (is_live_in g.D.Disk from.hub old (refl, shows)) in
    (after.hub.machine, reached.hub.1, subst (λ (one : PlacesState). Tracks start after.hub.machine one) reached.places (answers.tracks start tracks))

pub returns-clause-replied : goal.returns-clause-replied
returns-clause-replied g c =
    subst (λ (hub : HubParts _). RepliesIn c.args.self.now.hub.file (CommandOf c.args.command.now) c.answer-reply.result hub.file) (sym c.answered.ensures.hub)
    c.answer-reply.ensures.replied
