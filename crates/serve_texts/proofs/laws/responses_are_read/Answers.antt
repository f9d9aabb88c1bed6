use Rattle.serve_texts.proofs.Replying.{in_pieces, whole_read, interim_passed}
use Rattle.serve_texts.proofs.laws.responses_are_read.Goals as goal

pub returns-clause-pieces : goal.returns-clause-pieces
returns-clause-pieces c = in_pieces

pub returns-clause-whole : goal.returns-clause-whole
returns-clause-whole c = whole_read

pub returns-clause-interim : goal.returns-clause-interim
returns-clause-interim c = interim_passed
