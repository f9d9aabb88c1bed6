-- A run with one more record.
use Rattle.std.proofs.Common.{◌≡◌, ◌+◌, ℕ, Option, None, sym, ap, ◌∙◌}
use Rattle.feed_records.specs.declared.version.Version.{Version}
use Rattle.feed_replies.specs.declared.reply.Reply.{Reply}
use Rattle.feed_records.specs.declared.item.Record.{Record}
use Rattle.feed_runner.specs.declared.counting.Counts.{Counts}
use Rattle.feed_runner.specs.Counting.{counts_with}
use Rattle.feed_run.specs.Run.{RunState, Outcome, with_record}

abbrev pub state : Option Version → ℕ → Counts → Option Outcome → RunState
state version records counts outcome = record { version = version; records = records; counts = counts; outcome = outcome }

pub has_record : (was : RunState) (version known : Option Version) (records : ℕ) (counts now : Counts) (outcome : Option Outcome) (given : Record) (reply : Reply)
    → was ≡ state version records counts outcome → was.outcome ≡ None → now ≡ counts_with counts given reply
    → state known (records + 1) now outcome ≡ with_record was known given reply
has_record was version known records counts now outcome given reply is not_ended counted =
    let none : outcome ≡ None = ap (λ (s : RunState). s.outcome) (sym is) ∙ not_ended in
    let more : records + 1 ≡ was.records + 1 = ap (λ (s : RunState). s.records + 1) (sym is) in
    let counts_are : now ≡ counts_with was.counts given reply = counted ∙ ap (λ (s : RunState). counts_with s.counts given reply) (sym is) in
    ap (λ n. state known n now outcome) more
    ∙ ap (λ (c : Counts). state known (was.records + 1) c outcome) counts_are
    ∙ ap (λ (o : Option Outcome). state known (was.records + 1) (counts_with was.counts given reply) o) none
