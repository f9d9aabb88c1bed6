-- The numbers and names of the reasons why a link or a stream isn't copied. They are ours.
use Rattle.std.specs.Prelude.{ℕ, List, codes}
use Rattle.ogg_split.specs.declared.fault.SplitFault.{SplitFault}
use Rattle.ogg_split.specs.declared.fault.SplitFault.TheVariants.{NoLink, NoStream, Source, Write}

abbrev pub code_of : SplitFault → ℕ
code_of NoLink = 1
code_of NoStream = 2
code_of Source = 3
code_of Write = 4

abbrev pub name_of : SplitFault → List ℕ
name_of NoLink = codes "NoLink"
name_of NoStream = codes "NoStream"
name_of Source = codes "Source"
name_of Write = codes "Write"
