use Rattle.import_mend.proofs.Held.{nothing_changed, nothing_ended}
use Rattle.import_mend.proofs.laws.sound_bitstreams_are_not_changed.Goals as goal

pub returns-clause-told : goal.returns-clause-told
returns-clause-told c pages start new mends given links are chain within begins taken = (nothing_changed pages start new mends given links are chain within begins taken).told

pub returns-clause-gathers : goal.returns-clause-gathers
returns-clause-gathers c pages start new mends given links are chain within begins taken = (nothing_changed pages start new mends given links are chain within begins taken).gathers

pub returns-clause-holds : goal.returns-clause-holds
returns-clause-holds c pages start new mends given links are chain within begins taken = (nothing_changed pages start new mends given links are chain within begins taken).held.0

pub returns-clause-end : goal.returns-clause-end
returns-clause-end c old new more none ends = nothing_ended old new more none ends
