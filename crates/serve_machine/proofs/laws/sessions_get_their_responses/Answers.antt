use Rattle.std.proofs.Common.{ap, arith}
use Rattle.serve_machine.specs.Hub.{phase_in}
use Rattle.serve_machine.proofs.Served.{served}
use Rattle.serve_machine.proofs.Alone.{alone}
use Rattle.serve_machine.proofs.laws.sessions_get_their_responses.Goals as goal

pub returns-clause-served : goal.returns-clause-served
returns-clause-served c = served

pub returns-clause-alone : goal.returns-clause-alone
returns-clause-alone c = alone c.responses_are_unambiguous.ensures

pub returns-clause-from_new : goal.returns-clause-from_new
returns-clause-from_new c start steps id new are = served start steps id (omega (arith, new.numbers), ap (phase_in id) new.sessions) are

pub returns-clause-from_new_for : goal.returns-clause-from_new_for
returns-clause-from_new_for c room start steps id new are = served start steps id (omega (arith, new.numbers), ap (phase_in id) new.sessions) are
