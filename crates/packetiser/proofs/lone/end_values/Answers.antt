use Rattle.std.proofs.Common.{◌+◌, ◌/◌, ◌%◌, take, set, refl, ap}
use Rattle.packetiser.proofs.WholePage.{long_values}
use Rattle.packetiser.proofs.lone.end_values.Goals as goal

pub returns-clause-values : goal.returns-clause-values
returns-clause-values c =
    long_values c.args.len (c.args.len / 255) _ refl c.requires.whole
    (ap (λ l. take (c.args.len / 255 + 1) (set l (c.args.len / 255) (c.args.len % 255))) c.requires.full)
