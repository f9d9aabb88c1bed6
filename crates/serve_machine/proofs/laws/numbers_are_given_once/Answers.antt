use Rattle.serve_machine.proofs.Numbers.{in_a_row}
use Rattle.serve_machine.proofs.laws.numbers_are_given_once.Goals as goal

pub returns : goal.returns
returns c = in_a_row
