use Rattle.std.proofs.Common.{arith}
use Rattle.ogg_page.specs.Laws.NumberBytes.{front_u64}
use Rattle.ogg_page.proofs.numbers.take_u64.Goals as goal

pub returns-clause-value : goal.returns-clause-value
returns-clause-value c =
    front_u64 c.args.bytes.now c.split_at.result.0.now c.split_at.result.1.now c.read_u64.result
    (λ i. omega (arith, c.type_inv.bytes i)) c.split_at.ensures.front_len c.split_at.ensures.front c.split_at.ensures.back c.read_u64.ensures
