use Rattle.std.proofs.Common.{ℕ, List, length, eq-eqb, arith}
use Rattle.std.proofs.lemmas.Bool.{eqb-true}
use Rattle.feed_codec.proofs.Lists.{are_bytes}
use Rattle.feed_codec.proofs.PayloadFacts.{end_found, end_behind}
use Rattle.feed_codec.proofs.payload.is_end.Goals as goal

pub returns : goal.returns
returns c =
    let payload : List ℕ = c.args.payload.now in (
      λ t. end_found c.args._version payload (eqb-true (length payload) 4 t) (are_bytes payload (λ i. omega (arith, c.type_inv.payload i))),
      λ p. eq-eqb (length payload) 4 (end_behind c.args._version payload p),
    )
