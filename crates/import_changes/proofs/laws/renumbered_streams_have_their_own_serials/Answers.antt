use Rattle.import_changes.proofs.Own.{have_their_own}
use Rattle.import_changes.proofs.laws.renumbered_streams_have_their_own_serials.Goals as goal

pub returns : goal.returns
returns c = have_their_own
