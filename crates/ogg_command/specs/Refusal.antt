-- The numbers and names of refusals. They are ours.
use Rattle.std.specs.Prelude.{◌≡◌, ℕ, List, codes}
use Rattle.ogg_command.specs.declared.refusal.Refusal.{Refusal}
use Rattle.ogg_command.specs.declared.refusal.Refusal.TheVariants.{Failed, LinkOpen, NoLink, Empty, TooMany, SerialTaken, NoHeader, HeadTooLong, PacketTooLong, BadType, BadRate, UnknownSerial, StreamEnded, PositionRange, PositionBack, BatchTooLong, SequenceEnd, LinksFull, FileFull, Memory, Disk}

abbrev pub code_of : Refusal → ℕ
code_of Failed = 1
code_of LinkOpen = 2
code_of NoLink = 3
code_of Empty = 4
code_of TooMany = 5
code_of SerialTaken = 6
code_of NoHeader = 7
code_of HeadTooLong = 8
code_of PacketTooLong = 9
code_of BadType = 10
code_of BadRate = 11
code_of UnknownSerial = 12
code_of StreamEnded = 13
code_of PositionRange = 14
code_of PositionBack = 15
code_of BatchTooLong = 16
code_of SequenceEnd = 17
code_of LinksFull = 18
code_of FileFull = 19
code_of Memory = 20
code_of Disk = 21

abbrev pub name_of : Refusal → List ℕ
name_of Failed = codes "Failed"
name_of LinkOpen = codes "LinkOpen"
name_of NoLink = codes "NoLink"
name_of Empty = codes "Empty"
name_of TooMany = codes "TooMany"
name_of SerialTaken = codes "SerialTaken"
name_of NoHeader = codes "NoHeader"
name_of HeadTooLong = codes "HeadTooLong"
name_of PacketTooLong = codes "PacketTooLong"
name_of BadType = codes "BadType"
name_of BadRate = codes "BadRate"
name_of UnknownSerial = codes "UnknownSerial"
name_of StreamEnded = codes "StreamEnded"
name_of PositionRange = codes "PositionRange"
name_of PositionBack = codes "PositionBack"
name_of BatchTooLong = codes "BatchTooLong"
name_of SequenceEnd = codes "SequenceEnd"
name_of LinksFull = codes "LinksFull"
name_of FileFull = codes "FileFull"
name_of Memory = codes "Memory"
name_of Disk = codes "Disk"

-- want of memory is the refusal `Memory`
abbrev pub IsMemory : {A : Type 0} → A → Refusal → Type 0
IsMemory refused refusal = refusal ≡ Memory
