-- How the check of a feed answers its records. Ours.
use Rattle.std.specs.Prelude.{◌≡◌, ℕ, List, []}
use Rattle.feed_records.specs.declared.item.Record.{Record}
use Rattle.feed_replies.specs.declared.reply.Reply.{Reply}
use Rattle.feed_mux.specs.Progress.{Progress, AnswersRecord}

-- the record is answered as by a run that has some pages to write for it, but no page is made
abbrev pub ChecksRecord : Progress → Record → Reply → List ℕ → Progress → Type 0
ChecksRecord before given reply bytes behind = (bytes ≡ []) × (own : List ℕ) × AnswersRecord before given reply own behind
