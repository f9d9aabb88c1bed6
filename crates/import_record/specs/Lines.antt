-- The lines of a recording, each with its line feed. They are ours.
use Rattle.std.specs.Prelude.{ℕ, List, ◌++◌, codes}
use Rattle.std.specs.Fmt.{decimal}
use Rattle.feed_replies.specs.Reply.{line_end}
use Rattle.ogg_command.specs.Refusal.{code_of, name_of}
use Rattle.ogg_command.specs.declared.refusal.Refusal.{Refusal}
use Rattle.import_record.specs.declared.lines.Totals.{Totals}

-- a number, and then this
abbrev pub numbered : ℕ → List ℕ → List ℕ
numbered value rest = decimal value ++ (codes " " ++ rest)

-- packets of the page at this offset are refused
abbrev pub refused_line : Refusal → ℕ → List ℕ
refused_line refusal offset =
    codes "refused " ++ numbered (code_of refusal) (name_of refusal ++ (codes " " ++ (decimal offset ++ line_end)))

abbrev pub archived_line : Totals → List ℕ
archived_line totals =
    codes "archived " ++ numbered totals.links (numbered totals.packets (numbered totals.bytes (decimal totals.mends ++ line_end)))

-- a count of something, and then this
abbrev pub counted : ℕ → List ℕ → List ℕ → List ℕ
counted value word rest = decimal value ++ (word ++ rest)

abbrev pub progress_line : Totals → List ℕ
progress_line totals =
    counted totals.links (codes " links, ") (counted totals.packets (codes " packets, ")
    (counted totals.bytes (codes " bytes, ") (counted totals.mends (codes " mends") line_end)))
