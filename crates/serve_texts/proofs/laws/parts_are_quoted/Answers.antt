use Rattle.serve_texts.proofs.Escaping.{escaped_is_printable, escaped_is_found}
use Rattle.serve_texts.proofs.laws.parts_are_quoted.Goals as goal

pub returns-clause-printable : goal.returns-clause-printable
returns-clause-printable c = escaped_is_printable

pub returns-clause-found : goal.returns-clause-found
returns-clause-found c = escaped_is_found
