-- What may be wrong with the packets of a link's stream. Ours.
use Rattle.std.specs.Prelude.{Option, Some, None, ⊤}
use Rattle.packet_view.specs.declared.fault.ViewFault.{ViewFault}
use Rattle.packet_view.specs.declared.fault.ViewFault.TheVariants.{Unfinished}

-- nothing is wrong, or only that the last packet is unfinished
abbrev pub IsUnfinishedAtMost : Option ViewFault → Type 0
IsUnfinishedAtMost None = ⊤
IsUnfinishedAtMost (Some Unfinished) = ⊤
IsUnfinishedAtMost (Some fault) = ⊥
