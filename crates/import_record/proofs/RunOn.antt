-- Commands that were run in turn, and one more.
use Rattle.std.proofs.Common.{◌≡◌, ◌<◌, ◌+◌, ℕ, Option, List, [], ◌∷◌, ◌++◌, length, take, drop, refl, sym, ap, ◌∙◌, subst, arith}
use Rattle.std.proofs.lemmas.List.{map-append}
use Rattle.std.proofs.KnownBytes.{Appends-nil, Appends-trans}
use Rattle.std.specs.Io.KnownBytes.{Appends}
use Rattle.ogg_page.specs.Output.{WritesPart}
use Rattle.ogg_command.specs.declared.command.Command.{Command}
use Rattle.feed_records.specs.declared.item.Record.{Record}
use Rattle.feed_records.specs.declared.item.Record.TheVariants.{Command as CommandOf}
use Rattle.feed_replies.specs.declared.reply.Reply.{Reply}
use Rattle.feed_runner.specs.Answering.{AnswersAll}
use Rattle.feed_runner.specs.Laws.InTurn.{as_many, one_more}
use Rattle.import_record.specs.Running.{HasRun, StopsAt, answered_by, answered_with, nothing, records_of}
use Rattle.import_record.specs.declared.answering.Answered.{Answered}

records_more : (commands : List Command) (command : Command) → records_of (commands ++ command ∷ []) ≡ records_of commands ++ CommandOf command ∷ []
records_more commands command = map-append CommandOf commands (command ∷ [])

answered_more : (was : Answered) (commands : List Command) (replies : List Reply) (command : Command) (reply : Reply)
    → length (records_of commands) ≡ length replies
    → answered_by was (commands ++ command ∷ []) (replies ++ reply ∷ []) ≡ answered_with (answered_by was commands replies) command reply
answered_more was [] [] command reply same = refl
answered_more was [] (r ∷ replies) command reply same = absurd (omega (arith, same))
answered_more was (c ∷ commands) [] command reply same = absurd (omega (arith, same))
answered_more was (c ∷ commands) (r ∷ replies) command reply same = answered_more (answered_with was c r) commands replies command reply (omega (arith, same))

module _ {S : Type 0} (answers : S → Record → Reply → List ℕ → S → Type 0) where
  pub nothing_run : (before : S) (pages : Option (List ℕ)) → HasRun answers [] nothing before before pages pages
  nothing_run before pages = record { replies = []; runs = record { bytes = []; answered = (refl, refl); written = Appends-nil pages }; result_is = refl }

  pub run_on : (commands : List Command) (i : ℕ) (command : Command) (was now : Answered) (reply : Reply) (own : List ℕ) (before mid after : S) (a b c : Option (List ℕ))
      → i < length commands → HasRun answers (take i commands) was before mid a b → answers mid (CommandOf command) reply own after → Appends b c own
      → take (i + 1) commands ≡ take i commands ++ command ∷ [] → now ≡ answered_with was command reply
      → HasRun answers (take (i + 1) commands) now before after a c
  run_on commands i command was now reply own before mid after a b c inside run next written more now_is =
      let many : length (records_of (take i commands)) ≡ length run.replies =
      as_many answers before (records_of (take i commands)) run.replies run.runs.bytes mid run.runs.answered in
      subst (λ (l : List Command). HasRun answers l now before after a c) (sym more) (record {
        replies = run.replies ++ reply ∷ [];
        runs = record {
          bytes = run.runs.bytes ++ own;
          answered =
              subst (λ (l : List Record). AnswersAll answers before l (run.replies ++ reply ∷ []) (run.runs.bytes ++ own) after)
              (sym (records_more (take i commands) command))
              (one_more answers before (records_of (take i commands)) run.replies run.runs.bytes mid (CommandOf command) reply own after run.runs.answered next);
          written = Appends-trans a b c run.runs.bytes own run.runs.written written;
        };
        result_is = now_is ∙ ap (λ (w : Answered). answered_with w command reply) run.result_is
            ∙ sym (answered_more nothing (take i commands) run.replies command reply many);
      })

  -- the writer fails at a command
  pub stops_at : (commands : List Command) (i : ℕ) (command : Command) (was : Answered) (reply : Reply) (own : List ℕ) (before mid reached : S) (a b c : Option (List ℕ))
      → commands ≡ take i commands ++ command ∷ drop (i + 1) commands → HasRun answers (take i commands) was before mid a b
      → answers mid (CommandOf command) reply own reached → WritesPart b c own
      → StopsAt answers commands before mid a c
  stops_at commands i command was reply own before mid reached a b c is run next part = record {
    front = take i commands;
    command = command;
    back = drop (i + 1) commands;
    commands_are = is;
    replies = run.replies;
    mid = b;
    runs = run.runs;
    reply = reply;
    own = own;
    reached = reached;
    next = next;
    part = part;
  }
