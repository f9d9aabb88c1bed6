-- A refusal by the rules is no fault of the disk, and no want of memory.
use Rattle.std.proofs.Common.{◌≡◌, ◌≢◌, ◌≤◌, refl, ap, arith}
use Rattle.history.specs.World.{Call, Refused}
use Rattle.ogg_command.specs.Refusal.{code_of}
use Rattle.ogg_command.specs.declared.command.Command.{Command}
use Rattle.ogg_command.specs.declared.refusal.Refusal.{Refusal}
use Rattle.ogg_command.specs.declared.refusal.Refusal.TheVariants.{Failed, LinkOpen, NoLink, Empty, TooMany, SerialTaken, NoHeader, HeadTooLong, PacketTooLong, BadType, BadRate, UnknownSerial, StreamEnded, PositionRange, PositionBack, BatchTooLong, SequenceEnd, LinksFull, FileFull, Memory, Disk}
use Rattle.file_recorder.specs.Answer.{refused_step}

pub not_disk : (refusal : Refusal) → code_of refusal ≤ 19 → refusal ≢ Disk
not_disk refusal few is = absurd (omega (arith, few, ap code_of is))

pub not_memory : (refusal : Refusal) → code_of refusal ≤ 19 → refusal ≢ Memory
not_memory refusal few is = absurd (omega (arith, few, ap code_of is))

pub is_refused : (refusal : Refusal) (call : Call Command) (command : Command) → code_of refusal ≤ 19 → refused_step refusal call command ≡ Refused command
is_refused Failed call command few = refl
is_refused LinkOpen call command few = refl
is_refused NoLink call command few = refl
is_refused Empty call command few = refl
is_refused TooMany call command few = refl
is_refused SerialTaken call command few = refl
is_refused NoHeader call command few = refl
is_refused HeadTooLong call command few = refl
is_refused PacketTooLong call command few = refl
is_refused BadType call command few = refl
is_refused BadRate call command few = refl
is_refused UnknownSerial call command few = refl
is_refused StreamEnded call command few = refl
is_refused PositionRange call command few = refl
is_refused PositionBack call command few = refl
is_refused BatchTooLong call command few = refl
is_refused SequenceEnd call command few = refl
is_refused LinksFull call command few = refl
is_refused FileFull call command few = refl
is_refused Memory call command few = refl
is_refused Disk call command few = absurd (omega (arith, few))
