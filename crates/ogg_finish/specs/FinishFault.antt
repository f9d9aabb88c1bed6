-- The numbers and names of the reasons why a link isn't written finished: those of a copy. They are ours.
use Rattle.std.specs.Prelude.{ℕ, List, codes}
use Rattle.ogg_finish.specs.declared.fault.FinishFault.{FinishFault}
use Rattle.ogg_finish.specs.declared.fault.FinishFault.TheVariants.{NoLink, Source, Write}

abbrev pub code_of : FinishFault → ℕ
code_of NoLink = 1
code_of Source = 3
code_of Write = 4

abbrev pub name_of : FinishFault → List ℕ
name_of NoLink = codes "NoLink"
name_of Source = codes "Source"
name_of Write = codes "Write"
