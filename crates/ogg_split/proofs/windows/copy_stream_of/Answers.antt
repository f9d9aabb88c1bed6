use Rattle.std.proofs.lemmas.Bool.{false≢true}
use Rattle.ogg_split.proofs.windows.copy_stream_of.Goals as goal

pub returns-in-Err-clause-cause : goal.returns-in-Err-clause-cause
returns-in-Err-clause-cause g c pages sure stands why = absurd (false≢true (c.in-Err.ensures.there pages sure stands))
