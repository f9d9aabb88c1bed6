use Rattle.import_renumber.proofs.renumbered.RenumberedRunner.run_command.Goals as goal

pub returns-in-Begin-clause-ok : goal.returns-in-Begin-clause-ok
returns-in-Begin-clause-ok g c = rw c.in-Begin.is c.run_begin.ensures.ok

pub returns-in-Begin-clause-err : goal.returns-in-Begin-clause-err
returns-in-Begin-clause-err g c = rw c.in-Begin.is c.run_begin.ensures.err

pub returns-in-Put-clause-ok : goal.returns-in-Put-clause-ok
returns-in-Put-clause-ok g c = rw c.in-Put.is c.run_put.ensures.ok

pub returns-in-Put-clause-err : goal.returns-in-Put-clause-err
returns-in-Put-clause-err g c = rw c.in-Put.is c.run_put.ensures.err

pub returns-in-End-clause-ok : goal.returns-in-End-clause-ok
returns-in-End-clause-ok g c = rw c.in-End.is c.run_end.ensures.ok

pub returns-in-End-clause-err : goal.returns-in-End-clause-err
returns-in-End-clause-err g c = rw c.in-End.is c.run_end.ensures.err
