use Rattle.std.proofs.Common.{◌∙◌}
use Rattle.import_renumber.proofs.Staying.{stays, streams_stay}
use Rattle.import_renumber.proofs.laws.free_serials_stay.Goals as goal

pub returns-clause-begin : goal.returns-clause-begin
returns-clause-begin c taken names begin now begins free = begins.streams ∙ streams_stay taken names begin.streams begins.are.each free begins.named

pub returns-clause-later : goal.returns-clause-later
returns-clause-later c taken names spare serial are known free = stays taken names serial _ are.each free known.0
