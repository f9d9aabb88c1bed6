use Rattle.std.proofs.Common.{◌≡◌, Result, Ok, Err, refl, sym, ◌∙◌, subst}
use Rattle.feed_records.specs.declared.item.Record.TheVariants.{Flush as FlushOf}
use Rattle.feed_replies.specs.declared.reply.Kept.{Kept}
use Rattle.feed_replies.specs.declared.reply.Reply.{Reply}
use Rattle.feed_replies.specs.declared.reply.Reply.TheVariants.{Kept as KeptReply}
use Rattle.ogg_command.specs.declared.refusal.Refusal.{Refusal}
use Rattle.file_recorder.specs.Running.{reply_of_flush}
use Rattle.serve_hub.specs.Parts.{HubParts}
use Rattle.serve_hub.specs.Running.{IsIn, RepliesIn}
use Rattle.serve_machine.specs.Hub.{flush_step}
use Rattle.station_hub.specs.LiveLaws.{is_live_in}
use Rattle.station_hub.specs.LiveRunning.{live_in}
use Rattle.station_hub.specs.Places.{PlacesState}
use Rattle.station_hub.specs.Tracking.{Tracks}
use Rattle.station_hub.proofs.live_hub.LiveHubRunner.run_flush.Goals as goal

-- the answer that the reply tells
kept_answer : (answer : Result Kept Refusal) (kept : Kept) → KeptReply kept ≡ reply_of_flush answer → answer ≡ Ok kept
kept_answer (Ok other) kept told = cc
kept_answer (Err refusal) kept told = cc

refused_answer : (answer : Result Kept Refusal) (reply : Reply) → reply ≡ reply_of_flush answer → ((kept : Kept) → reply ≡ KeptReply kept → ⊥)
    → (refusal : Refusal) × (answer ≡ Err refusal)
refused_answer (Ok kept) reply told other = absurd (other kept told)
refused_answer (Err refusal) reply told other = (refusal, refl)

pub returns-in-Kept-clause-answers : goal.returns-in-Kept-clause-answers
returns-in-Kept-clause-answers g c before is_in =
    let old = c.args.self.now in
    let new = c.committed.new.self in
    let (after, answers, reached) = c.run_flush-reply.ensures.answers before.hub is_in.hub in
    let answered = answers.1 in
    let machine = before.hub.machine in
    let (going, is_open, places) = c.committed.ensures.told after.machine reached.1 in
    let step = subst (λ (answer : Result Kept Refusal). flush_step machine answer after.machine) (kept_answer answered.answer c.in-Kept.field-0 (sym c.in-Kept.is ∙ answered.told)) answered.step in (
      record { hub = after; places = new.places },
      record {
        hub = answers;
        tracks = λ start tracks.
            subst (λ (one : PlacesState). Tracks start after.machine one) (sym places)
            (c.listeners_join_committed_links.ensures.flush start machine after.machine old.places c.in-Kept.field-0 going step is_open
            (subst (λ (one : PlacesState). Tracks start machine one) is_in.places tracks));
      },
      record { hub = subst (λ (hub : HubParts _). IsIn g.D.Disk after hub) (sym c.committed.ensures.hub) reached; places = refl },
    )

pub returns-in-Kept-clause-keeps : goal.returns-in-Kept-clause-keeps
returns-in-Kept-clause-keeps g c start before shows tracks =
    let old = c.args.self.now in
    let from = live_in (record { now = old.hub; machine = before }) old in
    let (after, answers, reached) = returns-in-Kept-clause-answers g c from (is_live_in g.D.Disk from.hub old (refl, shows)) in
    (after.hub.machine, reached.hub.1, subst (λ (one : PlacesState). Tracks start after.hub.machine one) reached.places (answers.tracks start tracks))

pub returns-in_default-clause-answers : goal.returns-in_default-clause-answers
returns-in_default-clause-answers g c before is_in =
    let old = c.args.self.now in
    let (after, answers, reached) = c.run_flush-reply.ensures.answers before.hub is_in.hub in
    let answered = answers.1 in
    let machine = before.hub.machine in
    let (refusal, is) = refused_answer answered.answer c.run_flush-reply.result answered.told c.in_default.not-Kept in
    let step = subst (λ (answer : Result Kept Refusal). flush_step machine answer after.machine) is answered.step in (
      record { hub = after; places = old.places },
      record {
        hub = answers;
        tracks = λ start tracks. c.listeners_join_committed_links.ensures.refused start machine after.machine old.places refusal step
            (subst (λ (one : PlacesState). Tracks start machine one) is_in.places tracks);
      },
      record { hub = reached; places = refl },
    )

pub returns-in_default-clause-keeps : goal.returns-in_default-clause-keeps
returns-in_default-clause-keeps g c start before shows tracks =
    let old = c.args.self.now in
    let from = live_in (record { now = old.hub; machine = before }) old in
    let (after, answers, reached) = returns-in_default-clause-answers g c from (is_live_in g.D.Disk from.hub old (refl, shows)) in
    (after.hub.machine, reached.hub.1, subst (λ (one : PlacesState). Tracks start after.hub.machine one) reached.places (answers.tracks start tracks))

pub returns-in-Kept-clause-replied : goal.returns-in-Kept-clause-replied
returns-in-Kept-clause-replied g c =
    subst (λ (hub : HubParts _). RepliesIn c.args.self.now.hub.file FlushOf c.run_flush-reply.result hub.file) (sym c.committed.ensures.hub) c.run_flush-reply.ensures.replied
