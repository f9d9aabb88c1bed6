use Rattle.import_mend.proofs.Dropped.{drops}
use Rattle.import_mend.proofs.laws.a_packet_is_dropped_from_the_links.Goals as goal

pub returns : goal.returns
returns c serial links gathered given h = drops serial links gathered given h
