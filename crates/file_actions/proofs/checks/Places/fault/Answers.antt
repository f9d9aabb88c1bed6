use Rattle.std.proofs.Common.{sym, subst}
use Rattle.file_actions.specs.Times.{IsFirstFault}
use Rattle.file_actions.proofs.Passing.{first_fault}
use Rattle.file_actions.proofs.checks.Places.fault.Goals as goal

pub returns : goal.returns
returns c places lines rest passed =
    subst (IsFirstFault c.args.is_written places lines rest) (sym c.last_fault.ensures)
    (first_fault c.args.is_written places lines rest c.rest.result.now c.args.self.now passed.lines_of c.rest.ensures passed.stands)
