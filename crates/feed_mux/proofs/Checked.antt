-- Records answered by a check, and by a run.
use Rattle.std.proofs.Common.{◌≡◌, ℕ, List, [], ◌∷◌, ◌++◌, refl, ap, ◌∙◌}
use Rattle.feed_replies.specs.declared.reply.Reply.{Reply}
use Rattle.feed_records.specs.declared.item.Record.{Record}
use Rattle.feed_runner.specs.Answering.{AnswersAll}
use Rattle.feed_mux.specs.Checking.{ChecksRecord}
use Rattle.feed_mux.specs.Progress.{Progress, AnswersRecord}

pub as_a_run : (before : Progress) (records : List Record) (replies : List Reply) (bytes : List ℕ) (behind : Progress)
    → AnswersAll ChecksRecord before records replies bytes behind
    → (bytes ≡ []) × (pages : List ℕ) × AnswersAll AnswersRecord before records replies pages behind
as_a_run before [] [] bytes behind (none, same) = (none, [], (refl, same))
as_a_run before [] (reply ∷ replies) bytes behind all = absurd all
as_a_run before (given ∷ records) [] bytes behind all = absurd all
as_a_run before (given ∷ records) (reply ∷ replies) bytes behind (next, own, later, (nothing, pages, answer), rest, whole) =
    let (none, more, all) = as_a_run next records replies later behind rest in
    (whole ∙ ap (λ l. l ++ later) nothing ∙ none, pages ++ more, (next, pages, more, answer, all, refl))

pub as_a_check : (before : Progress) (records : List Record) (replies : List Reply) (pages : List ℕ) (behind : Progress)
    → AnswersAll AnswersRecord before records replies pages behind → AnswersAll ChecksRecord before records replies [] behind
as_a_check before [] [] pages behind (none, same) = (refl, same)
as_a_check before [] (reply ∷ replies) pages behind all = absurd all
as_a_check before (given ∷ records) [] pages behind all = absurd all
as_a_check before (given ∷ records) (reply ∷ replies) pages behind (next, own, later, answer, rest, whole) =
    (next, [], [], (refl, own, answer), as_a_check next records replies later behind rest, refl)
