use Rattle.std.proofs.Common.{◌∷◌, ◌∙◌, ap, List, ℕ}
use Rattle.feed_codec.proofs.PayloadFacts.{skeleton_cut, skeleton_found}
use Rattle.feed_codec.proofs.payload.split_skeleton.Goals as goal

pub returns-in_err-head-in-1 : goal.returns-in_err-head-in-1
returns-in_err-head-in-1 c =
    let rest : List ℕ = c.take_u8-announced.result.1.now in
    rw c.from_residual.ensures
    (skeleton_cut c.args.bytes.now rest (c.take_u8-announced.ensures.value ∙ ap (λ n. n ∷ rest) c.in-1.is) c.in_err-head-in-1.ensures)

pub returns-in_ok-head-in-1 : goal.returns-in_ok-head-in-1
returns-in_ok-head-in-1 c =
    let rest : List ℕ = c.take_u8-announced.result.1.now in (
      c.in_ok-head-in-1.ensures.0,
      skeleton_found c.args.bytes.now rest c.in_ok-head-in-1.rest.now c.in_ok-head-in-1.head (c.take_u8-announced.ensures.value ∙ ap (λ n. n ∷ rest) c.in-1.is) c.in_ok-head-in-1.ensures.1,
    )
