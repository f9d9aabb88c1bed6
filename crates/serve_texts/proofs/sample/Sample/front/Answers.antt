use Rattle.std.proofs.Common.{ap, sym}
use Rattle.serve_texts.specs.Status.{front_of}
use Rattle.serve_texts.proofs.sample.Sample.front.Goals as goal

pub returns-in-CommitSeconds-clause-text : goal.returns-in-CommitSeconds-clause-text
returns-in-CommitSeconds-clause-text c = ap front_of (sym c.in-CommitSeconds.is)
