use Rattle.line_packets.proofs.Cutting.{lines_from-append, rest_from-append}
use Rattle.line_packets.proofs.laws.lines_are_those_of_the_whole_input.Goals as goal

pub returns-clause-lines : goal.returns-clause-lines
returns-clause-lines c = lines_from-append

pub returns-clause-rest : goal.returns-clause-rest
returns-clause-rest c = rest_from-append
