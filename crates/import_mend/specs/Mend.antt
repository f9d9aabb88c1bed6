-- The numbers and names of what is mended. They are ours.
use Rattle.std.specs.Prelude.{ℕ, List, codes}
use Rattle.import_mend.specs.declared.mend.Mend.{Mend}
use Rattle.import_mend.specs.declared.mend.Mend.TheVariants.{Junk, Gap, Restart, Stranger, Repeated, Unfinished, TooLong, Misshapen, Full}

abbrev pub code_of : Mend → ℕ
code_of (Junk offset bytes) = 1
code_of (Gap offset serial from to) = 2
code_of (Restart offset) = 3
code_of (Stranger offset serial) = 4
code_of (Repeated offset serial) = 5
code_of (Unfinished offset serial) = 6
code_of (TooLong offset serial) = 7
code_of (Misshapen offset serial) = 8
code_of (Full offset serial) = 9

abbrev pub name_of : Mend → List ℕ
name_of (Junk offset bytes) = codes "Junk"
name_of (Gap offset serial from to) = codes "Gap"
name_of (Restart offset) = codes "Restart"
name_of (Stranger offset serial) = codes "Stranger"
name_of (Repeated offset serial) = codes "Repeated"
name_of (Unfinished offset serial) = codes "Unfinished"
name_of (TooLong offset serial) = codes "TooLong"
name_of (Misshapen offset serial) = codes "Misshapen"
name_of (Full offset serial) = codes "Full"

-- the offset in the input at which what was mended begins
abbrev pub offset_of : Mend → ℕ
offset_of (Junk offset bytes) = offset
offset_of (Gap offset serial from to) = offset
offset_of (Restart offset) = offset
offset_of (Stranger offset serial) = offset
offset_of (Repeated offset serial) = offset
offset_of (Unfinished offset serial) = offset
offset_of (TooLong offset serial) = offset
offset_of (Misshapen offset serial) = offset
offset_of (Full offset serial) = offset
