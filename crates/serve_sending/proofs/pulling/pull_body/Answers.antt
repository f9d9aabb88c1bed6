use Rattle.std.proofs.Common.{sym, ◌∙◌, ap, length, subst}
use Rattle.serve_sending.specs.Sending.{IsBodyLeft}
use Rattle.serve_sending.proofs.Joined.{stream_gives}
use Rattle.serve_sending.proofs.pulling.pull_body.Goals as goal

pub returns-in-Ok-pull_stream-clause-gives : goal.returns-in-Ok-pull_stream-clause-gives
returns-in-Ok-pull_stream-clause-gives g c committed more rest sure is left =
    let s = g.S.PageSource in
    let lent = c.source_mut.ensures.value in
    let read = c.in-Ok-pull_stream.ensures.read committed more rest (subst s.is_honest (sym lent) sure) (ap s.bytes lent ∙ is)
    (subst (λ b. IsBodyLeft committed b rest) c.in-Stream.is left) in
    stream_gives committed rest c.in-Stream.serial (length c.args.buffer.now) c.in-Ok-pull_stream.n c.in-Ok-pull_stream.left c.pull_stream.new.buffer read.0 read.1
    c.in-Ok-pull_stream.ensures.within
