use Rattle.serve_texts.proofs.Lining.{line_is_printable}
use Rattle.serve_texts.proofs.laws.lines_are_printable.Goals as goal

pub returns : goal.returns
returns c = line_is_printable
