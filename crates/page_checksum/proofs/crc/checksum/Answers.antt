use Rattle.std.proofs.Common.{[], refl}
use Rattle.page_checksum.specs.Checksum.{checksum_of, message_bits, number_of, remainder}
use Rattle.page_checksum.proofs.crc.checksum.Goals as goal

pub returns : goal.returns
unfolding checksum_of message_bits number_of remainder
returns c = c.checksum_on.ensures [] refl
