use Rattle.ogg_serve.proofs.Alone.{have_counts}
use Rattle.ogg_serve.proofs.Lived.{all_steps, joined}
use Rattle.ogg_serve.proofs.laws.feeds_are_run_beside_sessions.Goals as goal

pub returns : goal.returns
returns g c =
    let d = g.D.Disk in
    record {
      lives = λ n old new before after is steps. all_steps d g.F.Read.remaining g.L.Write.contents n old new before after is steps;
      joins = λ n m old mid new before one two after first between steps.
          joined d g.F.Read.remaining g.L.Write.contents n m old mid new before one two after first between steps;
      counts = have_counts;
    }
