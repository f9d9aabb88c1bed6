-- A run with one more step.
use Rattle.std.proofs.Common.{ℕ, List, [], ◌∷◌, ◌++◌, sym, ap, subst, Option}
use Rattle.feed_records.specs.declared.item.Record.{Record}
use Rattle.feed_records.specs.declared.version.Version.{Version}
use Rattle.feed_replies.specs.declared.reply.Reply.{Reply}
use Rattle.feed_run.specs.Run.{RunState, Streams, HasRun, RunsOne}
use Rattle.feed_run.specs.Laws.ReadOn.{runs_on}

module _ {S : Type 0} (answers : S → Record → Reply → List ℕ → S → Type 0) where
  pub has_run_on : (start old new : Streams) (was now : RunState) (records : List Record) (replies : List Reply) (before mid after : S) (reply : Reply)
      → HasRun answers start old was.version records replies before mid → (one : RunsOne answers old new was now mid after reply)
      → HasRun answers start new now.version (records ++ one.given ∷ []) (replies ++ reply ∷ []) before after
  has_run_on start old new was now records replies before mid after reply run one =
      subst (λ (v : Option Version). HasRun answers start new v (records ++ one.given ∷ []) (replies ++ reply ∷ []) before after)
      (sym (ap (λ (s : RunState). s.version) one.now_is))
      (runs_on answers start old new was.version one.known records replies before mid after one.given reply one.own run one.read one.answers_it one.pages one.lines)
