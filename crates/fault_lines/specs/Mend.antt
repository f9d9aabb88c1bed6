-- The lines of what is mended, each with its line feed. They are ours.
use Rattle.std.specs.Prelude.{ℕ, List, ◌++◌, codes}
use Rattle.feed_replies.specs.Reply.{line_end}
use Rattle.import_mend.specs.Mend as M
use Rattle.import_mend.specs.declared.mend.Mend.{Mend}
use Rattle.import_mend.specs.declared.mend.Mend.TheVariants.{Junk, Gap, Restart, Stranger, Repeated, Unfinished, TooLong, Misshapen, Full}
use Rattle.fault_lines.specs.Fault.{coded, numbered}

-- what follows the name: the offset in the input, and then whose page it was, or how much was lost
abbrev pub mend_rest : Mend → List ℕ
mend_rest (Junk offset bytes) = numbered offset (numbered bytes line_end)
mend_rest (Gap offset serial from to) = numbered offset (numbered serial (numbered from (numbered to line_end)))
mend_rest (Restart offset) = numbered offset line_end
mend_rest (Stranger offset serial) = numbered offset (numbered serial line_end)
mend_rest (Repeated offset serial) = numbered offset (numbered serial line_end)
mend_rest (Unfinished offset serial) = numbered offset (numbered serial line_end)
mend_rest (TooLong offset serial) = numbered offset (numbered serial line_end)
mend_rest (Misshapen offset serial) = numbered offset (numbered serial line_end)
mend_rest (Full offset serial) = numbered offset (numbered serial line_end)

abbrev pub mend_line : Mend → List ℕ
mend_line mend = codes "mended " ++ coded (M.code_of mend) (M.name_of mend) (mend_rest mend)
