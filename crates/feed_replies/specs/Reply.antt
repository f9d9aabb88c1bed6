-- Replies as lines of text. Ours.
use Rattle.std.specs.Prelude.{ℕ, List, [], ◌∷◌, ◌++◌, codes}
use Rattle.std.specs.Fmt.{decimal}
use Rattle.ogg_command.specs.Refusal.{code_of, name_of}
use Rattle.feed_replies.specs.declared.reply.Reply.{Reply}
use Rattle.feed_replies.specs.declared.reply.Reply.TheVariants.{Held, Kept as KeptOf, Refused}

-- a line feed
abbrev pub line_end : List ℕ
line_end = 10 ∷ []

-- `held COUNT`, `kept COUNT END` or `refused CODE NAME`, and a line feed
abbrev pub reply_line : Reply → List ℕ
reply_line (Held count) = codes "held " ++ (decimal count ++ line_end)
reply_line (KeptOf kept) = codes "kept " ++ (decimal kept.count ++ (codes " " ++ (decimal kept.end ++ line_end)))
reply_line (Refused refusal) =
    codes "refused " ++ (decimal (code_of refusal) ++ (codes " " ++ (name_of refusal ++ line_end)))
